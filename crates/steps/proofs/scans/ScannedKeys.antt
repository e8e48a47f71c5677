-- In complete of a partial checkpoint each key that was written between the two cuts was visited.
use Rattle.std.proofs.Common.{◌≡◌, true, false, refl, ap, ◌∙◌}
use Rattle.procedure.specs.Bytes.{Bytes}
use Rattle.phase.specs.declared.phases.Phase.TheVariants.{Complete}
use Rattle.image.specs.Merges.{table_of}
use Rattle.steps.specs.Checkpointing.{written_between}
use Rattle.steps.specs.inside.CoreFields.{IsCore, view_of}
use Rattle.steps.specs.machine.Machine.{State}
use Rattle.steps.specs.declared.cores.Core.TheInside.{Inside}
use Rattle.steps.proofs.machine.HistoryGrowth.{has_cut}
use Rattle.steps.proofs.machine.ScanKinds.{Scanned, base_of, scanned}
use Rattle.steps.proofs.phases.FrozenKeys.{written_is}

module _ {A : Type 0} (c : Inside A) (ok : IsCore c) (completing : c.phase ≡ Complete) (some : ok.world.all ≡ false) where
  abbrev w : State
  w = ok.world

  ended : Scanned w
  ended = scanned c.catalog (table_of c.opening) w ok.run (ok.stands.phase ∙ completing) some

  pub visited_in_the_end : (q : Bytes) → written_between (view_of c) q ≡ true → w.visited q ≡ true
  visited_in_the_end q is = ended.visited q (written_is c ok (ap has_cut completing) (base_of w) refl ended.inner q ∙ is)
