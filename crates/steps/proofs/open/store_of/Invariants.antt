use Rattle.std.proofs.Common.{◌≡◌, [], T, drop, length}
use Rattle.std.specs.FinMap.{is_sorted}
use Rattle.procedure.specs.Bytes.{Bytes}
use Rattle.image.proofs.Rising.{by_bytes}
use Rattle.record_store.specs.Stores.{records}
use Rattle.steps.specs.Versions.{versions_in}
use Rattle.steps.specs.inside.RecordEdits.{opened_with}
use Rattle.steps.proofs.views.OpenedCore.{Lacks}
use Rattle.steps.proofs.open.store_of.Given as goal

-- the entries that are left make of these versions what all of them make of none; their keys rise, and no record has one; and
-- each slot has the record of an entry
abbrev pub invariant-loop-entry : goal.invariant-loop-entry
invariant-loop-entry g l = record {
  versions : (q : Bytes) → opened_with (versions_in l.store) (drop l.entry-index l.entries) q ≡ opened_with (versions_in []) l.entries q;
  rises : T (is_sorted by_bytes (drop l.entry-index l.entries));
  lacks : Lacks (versions_in l.store) (drop l.entry-index l.entries);
  slots : length l.store ≡ l.entry-index;
  records : records l.store ≡ l.entry-index;
}
