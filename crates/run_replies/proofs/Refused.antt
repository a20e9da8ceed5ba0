-- What is told where a program is not run.
use Rattle.std.proofs.Common.{◌≡◌, Some, Err, Result, option_map}
use Rattle.play.specs.Numbers.{number_of}
use Rattle.play.specs.Whole.{Answers, Outcome}
use Rattle.play.specs.declared.refusal.Refusal.{Refusal}
use Rattle.play.specs.declared.refusal.Refusal.TheVariants.{Load, NoRoom, BudgetTooLarge, Memory}
use Rattle.reply.specs.Replies.{Reply, refused}
use Rattle.reply.specs.Runs.{refused_run}

pub record IsRefused (x : Result Outcome Refusal) (q : Refusal) (r : Reply) : Type 0 where
  pub run : x ≡ Err q
  pub told : r ≡ refused_run q

-- a refusal that is told by its number is that of the run
pub is_refused : (x : Result Outcome Refusal) (q : Refusal) (r : Reply) → Answers x (Err q) → Some r ≡ option_map refused (number_of q) → IsRefused x q r
is_refused x (Load q) r a e = record { run = a; told = cc }
is_refused x NoRoom r a e = record { run = a; told = cc }
is_refused x BudgetTooLarge r a e = record { run = a; told = cc }
is_refused x Memory r a e = absurd (cc)
