-- A whole run, from an executable and its readings to its results.
use Rattle.std.specs.Prelude.{◌≡◌, ℕ, ◌-◌, ◌*◌, ◌≤◌, false, cond, List, [], length, drop, Option, Ok, Err, Result, nat_le}
use Rattle.std.specs.List.{slice_get}
use Rattle.host.specs.Codes.{all_coded}
use Rattle.host.specs.Meaning.{Meaning}
use Rattle.host.specs.Tapes.{items, spoiled, tape_code}
use Rattle.machine.specs.Cores.{in_register}
use Rattle.machine.specs.Step.{state}
use Rattle.permit.specs.Rights.{Rights, rights_of}
use Rattle.runs.specs.Loading.{loaded, fill}
use Rattle.runs.specs.Machines.{Machine, machine_of}
use Rattle.runs.specs.Runs.{Ran, ran, Held, held, after_run}
use Rattle.runs.specs.declared.refusal.LoadRefusal.{LoadRefusal}
use Rattle.runs.specs.declared.report.Report.{Report}
use Rattle.play.specs.declared.orders.Orders as code
use Rattle.play.specs.declared.played.Played as played
use Rattle.play.specs.declared.prepared.Prepared as prepared
use Rattle.play.specs.declared.refusal.Refusal.{Refusal}
use Rattle.play.specs.declared.refusal.Refusal.TheVariants.{Load, NoRoom, BudgetTooLarge, Memory}

-- what is asked of a whole run
pub record Orders : Type 0 where
  pub executable : List ℕ
  pub readings : List ℕ
  pub rights : Rights
  pub budget : ℕ
  pub cells : ℕ
  pub writes : ℕ

abbrev pub orders_of : code.Orders → Orders
orders_of o = record { executable = o.executable.now; readings = o.readings.now; rights = rights_of o.permit.now; budget = o.budget; cells = o.cells; writes = o.writes }

-- the items on a tape wait, nothing is written, and so many writes are left
abbrev pub tape_meaning : List ℕ → ℕ → Meaning
tape_meaning tape writes = record { waiting = items tape; spoiled = spoiled tape; written = []; left = writes }

-- a machine that is loaded, with its cells and its host
abbrev pub first_held : Orders → Machine → Held
first_held o m = held m (fill (drop 512 o.executable) o.cells) (tape_meaning o.readings o.writes)

-- the run of a loaded machine
abbrev pub run_from : Rights → ℕ → Held → Ran
run_from p n h = ran (record { rights = p; layout = h.machine.layout }) n (state h.machine.core h.cells h.meaning)

-- how a run ended, how many items it took and how many it wrote, the tape of these, what the machine holds, and the word at its r15
pub record Outcome : Type 0 where
  pub report : Report
  pub taken : ℕ
  pub written : ℕ
  pub results : List ℕ
  pub machine : Machine
  pub word : Option ℕ

-- what is left after a run over some readings
abbrev pub outcome : List ℕ → Report → Held → Outcome
outcome readings r h = record {
  report = r;
  taken = length (items readings) - length h.meaning.waiting;
  written = length h.meaning.written;
  results = all_coded tape_code h.meaning.written;
  machine = h.machine;
  word = slice_get h.cells (in_register h.machine.core 15);
}

-- 46: are 65,536 writes or fewer asked for? 52: is the budget 100,000,000 steps or fewer?
abbrev pub asked_more : Orders → Machine → Result Machine Refusal
asked_more o m = cond (nat_le o.writes 65536) (cond (nat_le o.budget 100_000_000) (Ok m) (Err BudgetTooLarge)) (Err NoRoom)

abbrev pub ready_by : Orders → Result Machine LoadRefusal → Result Machine Refusal
ready_by o (Ok m) = asked_more o m
ready_by o (Err q) = Err (Load q)

-- the machine before its first step: 20 to 26, 29, and then these
abbrev pub ready : Orders → Result Machine Refusal
ready o = ready_by o (loaded o.executable o.cells)

-- what a run comes to
abbrev pub outcome_after : Orders → Held → Outcome
outcome_after o h = outcome o.readings (run_from o.rights o.budget h).report (after_run h.machine (run_from o.rights o.budget h))

abbrev pub run_by : Orders → Result Machine Refusal → Result Outcome Refusal
run_by o (Ok m) = Ok (outcome_after o (first_held o m))
run_by o (Err q) = Err q

-- a whole run
abbrev pub whole_run : Orders → Result Outcome Refusal
whole_run o = run_by o (ready o)

-- an answer of the code
abbrev pub shown : played.Played → Outcome
shown p = record { report = p.report; taken = p.taken; written = p.written; results = p.results.items; machine = machine_of p.machine; word = p.word }

-- an answer is what it should be; there may be no memory for it
abbrev pub Answers : Result Outcome Refusal → Result played.Played Refusal → Type 0
Answers x (Ok p) = x ≡ Ok (shown p)
Answers x (Err (Load q)) = x ≡ Err (Load q)
Answers x (Err NoRoom) = x ≡ Err NoRoom
Answers x (Err BudgetTooLarge) = x ≡ Err BudgetTooLarge
Answers x (Err Memory) = Unit

abbrev pub Plays : Orders → Result played.Played Refusal → Type 0
Plays o r = Answers (whole_run o) r

-- a machine that is ready, with its memory and the room for its writes
pub record Ready (o : Orders) (m : Machine) (memory : List ℕ) (space : ℕ) : Type 0 where
  pub ready : ready o ≡ Ok m
  pub cells : memory ≡ fill (drop 512 o.executable) o.cells
  pub size : length memory ≡ m.size
  pub runs : m.exited ≡ false
  pub budget : o.budget ≤ 100_000_000
  pub few : o.writes ≤ 65_536
  pub room : 9 * o.writes ≤ space

abbrev pub Prepares : Orders → Result prepared.Prepared Refusal → Type 0
Prepares o (Ok p) = Ready o (machine_of p.machine) p.cells.items (length p.output.items)
Prepares o (Err (Load q)) = ready o ≡ Err (Load q)
Prepares o (Err NoRoom) = ready o ≡ Err NoRoom
Prepares o (Err BudgetTooLarge) = ready o ≡ Err BudgetTooLarge
Prepares o (Err Memory) = Unit
