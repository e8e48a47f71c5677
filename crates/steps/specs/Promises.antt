-- What is promised of every schedule, of the log from its oldest record on.
use Rattle.std.specs.Prelude.{◌≡◌, ℕ, List, reverse}
use Rattle.procedure.specs.Table.{Table}
use Rattle.procedure.specs.Procedures.{Procedure}
use Rattle.image.specs.declared.images.Kind.TheVariants.{Full, Partial}
use Rattle.commitlog.specs.Records.{Record}
use Rattle.commitlog.specs.Histories.{IsLegal, IsOrderly, IsCyclic}
use Rattle.commitlog.specs.Cuts as cuts
use Rattle.steps.specs.machine.NewestFirst.{MachineImage}
use Rattle.steps.specs.machine.Machine.{State, Runs, initial}
use Rattle.steps.specs.Drives.{calls_of}
use Rattle.steps.specs.machine.ScheduleAnswers.{answers, open_of, begun_of, Among, MachineStandOn, AllAmong, last_machine_number, merged_all, machine_table}

-- the log, the oldest record first
abbrev pub log_of : State → List Record
log_of w = reverse w.log

-- an image without its kind
abbrev pub machine_plain : MachineImage → cuts.CutImage
machine_plain i = record { number = i.number; base = i.base; place = i.place; entries = i.entries }

-- the log is one history of one thread, in which each answered call stands once
pub record IsOneHistory (c : List Procedure) (t : Table) (w : State) (r : Runs (initial c t) w) : Type 0 where
  pub legal : IsLegal c t (log_of w)
  pub orderly : IsOrderly (log_of w)
  pub cyclic : IsCyclic (log_of w)
  pub once : calls_of (log_of w) ≡ reverse (answers r)
  pub begun : (s : ℕ) → open_of r s ≡ begun_of (w.calls s)

-- the images that were taken are those of their checkpoints, and chains of them merge to the table at the last one's cut
pub record ImagesAreCuts (c : List Procedure) (t : Table) (w : State) : Type 0 where
  pub has_cut : (i : MachineImage) → Among i w.images → cuts.HasCut (log_of w) i.number
  pub full : (i : MachineImage) → Among i w.images → i.kind ≡ Full → cuts.IsFullImage c t (log_of w) (machine_plain i)
  pub partial : (i : MachineImage) → Among i w.images → i.kind ≡ Partial → cuts.IsPartialImage c t (log_of w) (machine_plain i)
  pub opening_chain : (ps : List MachineImage) → AllAmong ps w.images → MachineStandOn 0 ps → merged_all t ps ≡ cuts.at_cut c t (log_of w) (last_machine_number 0 ps)
  pub chain :
      (i : MachineImage) → Among i w.images → i.kind ≡ Full → (ps : List MachineImage) → AllAmong ps w.images → MachineStandOn i.number ps →
      merged_all (machine_table i) ps ≡ cuts.at_cut c t (log_of w) (last_machine_number i.number ps)

abbrev pub AllSchedules : Type 0
AllSchedules = (c : List Procedure) (t : Table) (w : State) (r : Runs (initial c t) w) → IsOneHistory c t w r × ImagesAreCuts c t w
