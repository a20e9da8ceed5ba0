-- The commands by their words.
use Rattle.std.specs.Prelude.{ℕ, List, [], ◌∷◌, codes, Option, find}
use Rattle.std.specs.Str.{bytes_eq}
use Rattle.command_line.specs.declared.topic.Topic.{Topic}
use Rattle.command_line.specs.declared.topic.Topic.TheVariants as topic

-- the word that names a topic
abbrev pub word_of : Topic → List ℕ
word_of topic.Assemble = codes "assemble"
word_of topic.List = codes "list"
word_of topic.Check = codes "check"
word_of topic.Same = codes "same"
word_of topic.Run = codes "run"
word_of topic.Compare = codes "compare"
word_of topic.Tape = codes "tape"
word_of topic.File = codes "file"
word_of topic.Replay = codes "replay"
word_of topic.Help = codes "help"

abbrev pub topics : List Topic
topics = topic.Assemble ∷ topic.List ∷ topic.Check ∷ topic.Same ∷ topic.Run ∷ topic.Compare ∷ topic.Tape ∷ topic.File ∷ topic.Replay ∷ topic.Help ∷ []

-- the topic that a word names
abbrev pub topic_of : List ℕ → Option Topic
topic_of word = find (λ t. bytes_eq (word_of t) word) topics
