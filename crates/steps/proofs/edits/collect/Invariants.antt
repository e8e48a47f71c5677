use Rattle.std.proofs.Common.{◌≡◌, ◌≤◌, map, drop, length, is_some, ◌||◌}
use Rattle.procedure.specs.Bytes.{Bytes}
use Rattle.record_store.specs.ChangedSets.{has, room}
use Rattle.steps.specs.inside.RecordEdits.{first_noted, noted_of}
use Rattle.steps.proofs.edits.collect.Given as goal

abbrev pub invariant-loop-note : goal.invariant-loop-note
invariant-loop-note g l =
    ((q : Bytes) → (is_some (first_noted (map noted_of (drop l.note-index l.notes)) q) || has l.changed_keys.collecting q) ≡
    (is_some (first_noted (map noted_of l.notes) q) || has l.initial.changed_keys.collecting q))
    × (l.changed_keys.frozen ≡ l.initial.changed_keys.frozen)
    × (l.changed_keys.places ≡ l.initial.changed_keys.places)
    × (length (drop l.note-index l.notes) ≤ room l.changed_keys)
