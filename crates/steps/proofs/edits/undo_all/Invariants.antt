use Rattle.std.proofs.Common.{◌≡◌, length, map}
use Rattle.procedure.specs.Bytes.{Bytes}
use Rattle.steps.specs.CoreViews.{SameKeys}
use Rattle.steps.specs.inside.RecordEdits.{KeepsSlots, all_undone, noted_of}
use Rattle.steps.specs.Versions.{versions_in}
use Rattle.steps.proofs.edits.undo_all.Given as goal

-- the writes that are left, undone from here on, end as all of them from the start
abbrev pub invariant-loop-note : goal.invariant-loop-note
invariant-loop-note g l =
    ((q : Bytes) → all_undone (map noted_of l.notes.items) (versions_in l.store) q ≡ all_undone (map noted_of l.initial.notes.items) (versions_in l.initial.store) q)
    × (length l.store ≡ length l.initial.store)
    × KeepsSlots l.initial.store l.store
    × SameKeys l.initial.store l.store

abbrev pub decreases-loop-note : goal.decreases-loop-note
decreases-loop-note g l = goal.left-loop-note g l
