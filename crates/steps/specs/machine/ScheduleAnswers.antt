-- What a schedule of the machine answered and took, and what is promised of it, newest record first.
use Rattle.std.specs.Prelude.{◌≡◌, ℕ, ◌==◌, ◌⊎◌, cond, List, [], ◌∷◌, Option, Some, None}
use Rattle.commitlog.specs.Records.{Record}
use Rattle.image.specs.declared.images.Kind.TheVariants.{Full, Partial}
use Rattle.procedure.specs.Procedures.{Procedure}
use Rattle.procedure.specs.Table.{Table, no_table, merged}
use Rattle.steps.specs.machine.NewestFirst.{IsLegalHistory, IsOrderlyHistory, IsCyclicHistory, before, at, MachineImage, IsFull, IsPartial}
use Rattle.steps.specs.machine.Machine.{Open, State, Goes, Begins, Commits, Aborts, Gives_up, Runs, none, more, initial, answer}
use Rattle.steps.specs.Drives.{calls_of}
use Rattle.steps.specs.CoreViews.{Begun}

-- the answers of the accepted finishes, newest first
abbrev pub with_answer : {w x : State} → Goes w x → List Record → List Record
with_answer (Commits s c i e z) l = answer s c ∷ l
with_answer (Aborts s c i e z) l = answer s c ∷ l
with_answer _ l = l

abbrev pub answers : {a w : State} → Runs a w → List Record
answers none = []
answers (more r g) = with_answer g (answers r)

abbrev pub open_after : {w x : State} → Goes w x → (ℕ → Option Begun) → ℕ → Option Begun
open_after (Begins s n p args m) b t = cond (t == s) (Some (record { number = n; procedure = p; args = args })) (b t)
open_after (Commits s c i e z) b t = cond (t == s) None (b t)
open_after (Aborts s c i e z) b t = cond (t == s) None (b t)
open_after (Gives_up s c i) b t = cond (t == s) None (b t)
open_after _ b t = b t

-- the begin that opened each session's call
abbrev pub open_of : {a w : State} → Runs a w → ℕ → Option Begun
open_of none t = None
open_of (more r g) t = open_after g (open_of r) t

abbrev pub begun_of : Option Open → Option Begun
begun_of None = None
begun_of (Some c) = Some (record { number = c.number; procedure = c.procedure; args = c.args })

abbrev pub Among : MachineImage → List MachineImage → Type 0
Among i [] = ⊥
Among i (j ∷ js) = (i ≡ j) ⊎ Among i js

-- partial images, each with the number of the one before as base
abbrev pub MachineStandOn : ℕ → List MachineImage → Type 0
MachineStandOn n [] = Unit {0}
MachineStandOn n (p ∷ ps) = (p.kind ≡ Partial) × (p.base ≡ n) × MachineStandOn p.number ps

abbrev pub AllAmong : List MachineImage → List MachineImage → Type 0
AllAmong [] is = Unit {0}
AllAmong (p ∷ ps) is = Among p is × AllAmong ps is

abbrev pub last_machine_number : ℕ → List MachineImage → ℕ
last_machine_number n [] = n
last_machine_number n (p ∷ ps) = last_machine_number p.number ps

abbrev pub merged_all : Table → List MachineImage → Table
merged_all t [] = t
merged_all t (p ∷ ps) = merged_all (merged t p.entries) ps

-- the table of a full image
abbrev pub machine_table : MachineImage → Table
machine_table i = merged no_table i.entries

pub record History (c : List Procedure) (t : Table) (w : State) (r : Runs (initial c t) w) : Type 0 where
  pub legal : IsLegalHistory c t w.log
  pub orderly : IsOrderlyHistory w.log
  pub cyclic : IsCyclicHistory w.log
  pub once : calls_of w.log ≡ answers r
  pub begun : (s : ℕ) → open_of r s ≡ begun_of (w.calls s)

pub record Checkpoints (c : List Procedure) (t : Table) (w : State) : Type 0 where
  pub full : (i : MachineImage) → Among i w.images → i.kind ≡ Full → IsFull c t (before i.number w.log) i
  pub partial : (i : MachineImage) → Among i w.images → i.kind ≡ Partial → IsPartial c t (before i.number w.log) i
  pub opening_chain : (ps : List MachineImage) → AllAmong ps w.images → MachineStandOn 0 ps → merged_all t ps ≡ at c t (last_machine_number 0 ps) w.log
  pub chain : (i : MachineImage) → Among i w.images → i.kind ≡ Full → (ps : List MachineImage) → AllAmong ps w.images → MachineStandOn i.number ps →
      merged_all (machine_table i) ps ≡ at c t (last_machine_number i.number ps) w.log
