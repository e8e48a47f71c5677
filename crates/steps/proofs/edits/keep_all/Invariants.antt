use Rattle.std.proofs.Common.{◌≡◌, drop, length, map}
use Rattle.procedure.specs.Bytes.{Bytes}
use Rattle.steps.specs.CoreViews.{SameKeys}
use Rattle.steps.specs.inside.RecordEdits.{KeepsSlots, all_kept, noted_of}
use Rattle.steps.specs.Versions.{versions_in}
use Rattle.steps.proofs.edits.keep_all.Given as goal

-- the writes that are left, kept from here on, end as all of them from the start
abbrev pub invariant-loop-note : goal.invariant-loop-note
invariant-loop-note g l =
    ((q : Bytes) → all_kept l.start l.phase (map noted_of (drop l.note-index l.notes)) (versions_in l.store) q ≡ all_kept l.start l.phase (map noted_of l.notes) (versions_in l.initial.store) q)
    × (length l.store ≡ length l.initial.store)
    × KeepsSlots l.initial.store l.store
    × SameKeys l.initial.store l.store
