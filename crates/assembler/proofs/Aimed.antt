-- The address of a label is put where a word has zeros.
use Rattle.std.proofs.Common.{◌≡◌, ℕ, ◌+◌, ◌*◌, ◌/◌, ◌%◌, ◌^◌, ◌<◌, ◌≤◌, ◌&&◌, List, [], ◌∷◌, ◌++◌, length, Some, None, Option, unwrap_or, sym, refl, ap, ◌∙◌, subst, arith}
use Rattle.std.specs.Prelude.{bit_or}
use Rattle.std.specs.List.{find}
use Rattle.std.specs.Option.{option_map}
use Rattle.std.specs.Str.{bytes_eq}
use Rattle.std.proofs.lemmas.Bool.{cond_both, leb-true}
use Rattle.std.proofs.lemmas.Nat.{or_shifted}
use Rattle.isa.specs.Command.{instruction, encoded}
use Rattle.isa.specs.Operands.{rm, j}
use Rattle.isa.specs.Table.{form_of}
use Rattle.isa.specs.declared.form.Form.{Form}
use Rattle.isa.specs.declared.form.Form.TheVariants.{Rr, Ri, Rm, J}
use Rattle.isa.specs.declared.opcode.Opcode.{Opcode}
use Rattle.lexer.specs.Shown.{Shown, label, name, register, number, string}
use Rattle.lexer.specs.Text.{code_of, blanks, words_of}
use Rattle.assembler.specs.Addresses.{LowLabels, Clear}
use Rattle.assembler.specs.Assembled.{Outcome, passed, on_line, run_from}
use Rattle.assembler.specs.Emit.{address_of}
use Rattle.assembler.specs.Labels.{Names}
use Rattle.assembler.specs.Lines.{Parts, parts_of, said_by, named, statement_in}
use Rattle.assembler.specs.Operands.{label_in, natural_in, natural_at, operand, register_at, right_count, right_form, right_range}
use Rattle.assembler.specs.Progress.{Progress}
use Rattle.assembler.specs.Questions.{asked, first_no, refusal_in, labels_after, entry_of, code_words, data_words, after}
use Rattle.assembler.specs.Statements.{code_with, end_with, numbers_by, label_by, statement_by}
use Rattle.assembler.specs.declared.label.Label.{Label}
use Rattle.assembler.specs.declared.mnemonic.Mnemonic.{Mnemonic}
use Rattle.assembler.specs.declared.mnemonic.Mnemonic.TheVariants.{Command, Word, Uint32, Text, Stack, End}
use Rattle.assembler.specs.declared.question.Question.{Question}
use Rattle.assembler.specs.declared.question.Question.TheVariants as question
use Rattle.assembler.proofs.Turns.{passes, through}

-- where a label stands, no number does
no_number : (s : Shown) (l : List ℕ) → label_in s ≡ Some l → unwrap_or (natural_in s) 0 ≡ 0
no_number (label w) l e = refl
no_number (name w) l e = refl
no_number (register w) l e = refl
no_number (number w) l e = let z : ◌≡◌ {A = ℕ} 0 1 = cc in absurd (omega arith)
no_number (string w) l e = refl

clear_with : (g : ℕ → ℕ) → g 0 % 2 ^ 20 ≡ 0 → (n : ℕ) (o : Option (List ℕ)) → ((l : List ℕ) → o ≡ Some l → n ≡ 0) → Clear (Some (code_with (g n) o))
clear_with g law n None zero = tt
clear_with g law n (Some l) zero = ap (λ k. g k % 2 ^ 20) (zero l refl) ∙ law

clear_form : (o : Opcode) (f : Form) (ws : List Shown) → Clear (Some (code_with (encoded (instruction o (numbers_by f ws))) (label_by f ws)))
clear_form o Rr ws = tt
clear_form o Ri ws = tt
clear_form o Rm ws = clear_with (λ n. encoded (instruction o (rm (register_at 0 ws) n))) (omega arith) (natural_at 1 ws) (label_in (operand 1 ws)) (no_number (operand 1 ws))
clear_form o J ws = clear_with (λ n. encoded (instruction o (j n))) (omega arith) (natural_at 0 ws) (label_in (operand 0 ws)) (no_number (operand 0 ws))

clear_end : (n : ℕ) (o : Option (List ℕ)) → Clear (Some (end_with n o))
clear_end n None = tt
clear_end n (Some l) = tt

clear_by : (m : Mnemonic) (ws : List Shown) → Clear (Some (statement_by m ws))
clear_by (Command o) ws = clear_form o (form_of o) ws
clear_by Word ws = tt
clear_by Uint32 ws = tt
clear_by Text ws = tt
clear_by Stack ws = tt
clear_by End ws = clear_end (natural_at 0 ws) (label_in (operand 0 ws))

clear_named : (o : Option Mnemonic) (ws : List Shown) → Clear (said_by o ws)
clear_named None ws = tt
clear_named (Some m) ws = cond_both (right_count m ws && (right_form m ws && right_range m ws)) (Some (statement_by m ws)) None Clear (λ _. clear_by m ws) (λ _. tt)

-- so the word of a line has zeros there
pub clear_said : (l : Parts) → Clear (statement_in l)
clear_said l = clear_named (named l.next) l.operands

-- and put there, the address is added
pub or_is_sum : (w a : ℕ) → w % 2 ^ 20 ≡ 0 → a < 2 ^ 20 → bit_or w a ≡ w + a
or_is_sum w a zeros low =
    let high : w / 2 ^ 20 * 2 ^ 20 ≡ w = omega arith in
    ap (λ x. bit_or x a) (sym high) ∙ or_shifted (w / 2 ^ 20) 20 a low ∙ ap (λ x. x + a) high

pub address_low : (names : Names) (w : List ℕ) (ls : List Label) → LowLabels ls → address_of names ls w ≤ 65536
address_low names w [] h = omega arith
address_low names w (x ∷ xs) h = cond_both (bytes_eq (names x) w) (Some x) (find (λ (l : Label). bytes_eq (names l) w) xs) (λ (o : Option Label). unwrap_or (option_map (λ (l : Label). l.address) o) 0 ≤ 65536) (λ e. h.0) (λ e. address_low names w xs h.1)

one_more : (ls : List Label) (x : Label) → LowLabels ls → x.address ≤ 65536 → LowLabels (ls ++ x ∷ [])
one_more [] x low h = (h, tt)
one_more (y ∷ ls) x low h = (low.0, one_more ls x low.1 h)

entered_low : (p : ℕ) (ls : List Label) (pr : Progress) (w : Option (List ℕ)) → LowLabels ls → pr.code + pr.pool ≤ 65536 → LowLabels (labels_after p ls pr w)
entered_low p ls pr None low h = low
entered_low p ls pr (Some w) low h = one_more ls (entry_of p pr w) low h

-- a line that passes, and what follows it
on_passed : (n : ℕ) (held ls : List Label) (o : Option Question) (next : Outcome) (pr : Progress) → on_line n held o next ≡ passed ls pr → (o ≡ None) × (next ≡ passed ls pr)
on_passed n held ls (Some q) next pr e = let z : ◌≡◌ {A = ℕ} 0 1 = cc in absurd (omega arith)
on_passed n held ls None next pr e = (refl, e)

-- the lines up to one that passes give no more than 65,536 words
few_after : (names : Names) (cap : ℕ) (ls : List Label) (pr : Progress) (l : Parts) → refusal_in names cap ls pr l ≡ None → (after pr l).code + (after pr l).pool ≤ 65536
few_after names cap ls pr l ok =
    let f = asked names cap ls pr l in
    let front = question.Label ∷ question.LabelRoom ∷ question.Waiting ∷ question.Name ∷ question.Order ∷ question.Count ∷ question.Form ∷ question.Range ∷ [] in
    let last : first_no f (question.Words ∷ []) ≡ None = through f front (question.Words ∷ []) ok in
    let h = leb-true (pr.code + pr.pool + (code_words (statement_in l) + data_words (statement_in l))) 65536 (passes (f question.Words) None question.Words last).0 in
    omega arith

-- so the labels of lines that pass are low
pub low_labels : (names : Names) (cap : ℕ) (lines : List (List ℕ)) (held ls : List Label) (pr pr' : Progress) (n p : ℕ) → run_from names cap held pr n p lines ≡ passed ls pr' → LowLabels held → pr.code + pr.pool ≤ 65536 → LowLabels ls
low_labels names cap [] held ls pr pr' n p e low h = let same : held ≡ ls = cc in subst LowLabels same low
low_labels names cap (l ∷ rest) held ls pr pr' n p e low h =
    let parts = parts_of (words_of l) in
    let both = on_passed n held ls (refusal_in names cap held pr parts) (run_from names cap (labels_after (p + blanks (code_of l)) held pr parts.label) (after pr parts) (n + 1) (p + length l + 1) rest) pr' e in
    low_labels names cap rest (labels_after (p + blanks (code_of l)) held pr parts.label) ls (after pr parts) pr' (n + 1) (p + length l + 1) both.1 (entered_low (p + blanks (code_of l)) held pr parts.label low h) (few_after names cap held pr parts both.0)
