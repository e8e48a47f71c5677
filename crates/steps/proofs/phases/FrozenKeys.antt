-- The frozen keys of a core are those that were written between two cuts.
use Rattle.std.proofs.Common.{◌≡◌, ℕ, Bool, true, List, reverse, inr, refl, sym, ap, ◌∙◌, subst}
use Rattle.procedure.specs.Bytes.{Bytes}
use Rattle.procedure.specs.Procedures.{Procedure}
use Rattle.procedure.specs.Table.{Table}
use Rattle.phase.specs.declared.phases.Phase.{Phase}
use Rattle.phase.specs.declared.phases.Phase.TheVariants.{Complete}
use Rattle.commitlog.specs.Cuts.{HasCut, cut, finished_below, last_finished, written}
use Rattle.commitlog.specs.Records.{Record}
use Rattle.commitlog.proofs.Finished.{base_has_cut}
use Rattle.image.specs.Merges.{table_of}
use Rattle.steps.specs.machine.NewestFirst.{history_last_finished, before, history_resolves, since}
use Rattle.steps.specs.Checkpointing.{IsFrozen, written_between}
use Rattle.steps.specs.inside.CoreFields.{IsCore, view_of}
use Rattle.steps.specs.machine.Invariant.{Cuts, Sets}
use Rattle.steps.specs.Refusals.{is_cutting}
use Rattle.steps.specs.machine.Machine.{State}
use Rattle.steps.specs.declared.cores.Core.TheInside.{Inside}
use Rattle.steps.proofs.log.Cuts.{HasPlace, cut-reverse, front-reverse, resolves-stands, written-reverse}
use Rattle.steps.proofs.phases.AddedToken.{number_is}
use Rattle.steps.proofs.log.OldestFirst.{cyclic-reverse, last_finished-reverse}
use Rattle.steps.proofs.machine.HistoryGrowth.{has_cut, resolved_there}
use Rattle.steps.proofs.log.SchedulePromises.{has_place, stood}
use Rattle.steps.proofs.views.CoreState.{good}

cutting_has_cut : (p : Phase) → is_cutting p ≡ true → has_cut p ≡ true
cutting_has_cut Complete e = refl
cutting_has_cut _ e = e

module _ {A : Type 0} (c : Inside A) (ok : IsCore c) where
  abbrev w : State
  w = ok.world

  -- the checkpoint has a cut
  module _ (cut_made : has_cut c.phase ≡ true) where
    resolved : history_resolves w.number w.log
    resolved =
        subst (λ n. history_resolves n w.log) (good c ok).lawful.number (resolved_there w.log (good c ok).lawful.cyclic (ap has_cut ((good c ok).lawful.phase ∙ ok.stands.phase) ∙ cut_made))

    cut_place : HasPlace w.number w.log
    cut_place = cut-reverse w.number w.log (good c ok).lawful.cyclic resolved

    -- and this one is that on which it stands
    module _ (base : ℕ) (base_is : history_last_finished (before w.number w.log) ≡ base) where
      base_below : finished_below (reverse w.log) w.number ≡ base
      base_below = ap last_finished (front-reverse w.number w.log cut_place) ∙ last_finished-reverse (before w.number w.log) ∙ base_is

      base_stands : HasPlace base w.log
      base_stands =
          has_place base w.log (good c ok).lawful.cyclic
          (stood base w.log (subst (HasCut (reverse w.log)) base_below
          (base_has_cut (reverse w.log) (cyclic-reverse w.log (good c ok).lawful.cyclic) w.number (inr (resolves-stands w.number w.log resolved)))))

      abbrev between : List Procedure → Table → List Record → ℕ → Bytes → Bool
      between k t l n q = written k t l (cut l (finished_below l n)) (cut l n) q

      -- what was written between the two cuts
      pub written_is : before base (before w.number w.log) ≡ before base w.log → (q : Bytes) → since w.catalog w.opening base (before w.number w.log) q ≡ written_between (view_of c) q
      written_is inner q =
          sym (written-reverse w.catalog w.opening base w.number w.log q base_stands cut_place inner)
          ∙ ap (λ b. written w.catalog w.opening (reverse w.log) (cut (reverse w.log) b) (cut (reverse w.log) w.number) q) (sym base_below)
          ∙ ap (λ k. between k w.opening (reverse w.log) w.number q) ok.stands.catalog
          ∙ ap (λ t. between c.catalog t (reverse w.log) w.number q) ok.stands.opening
          ∙ ap (λ l. between c.catalog (table_of c.opening) l w.number q) ok.stands.log
          ∙ ap (λ n. between c.catalog (table_of c.opening) c.log.records n q) (number_is c ok)

  module _ (cutting : is_cutting c.phase ≡ true) where
    cut_made : has_cut c.phase ≡ true
    cut_made = cutting_has_cut c.phase cutting

    pub cuts_here : Cuts w.catalog w.opening w.log w.number w.finished w.collecting w.frozen
    cuts_here = subst (λ b. Sets b w.catalog w.opening w.log w.number w.finished w.collecting w.frozen) (ap is_cutting ok.stands.phase ∙ cutting) (good c ok).sets

    pub place_here : HasPlace w.number w.log
    place_here = cut_place cut_made

    pub base_here : finished_below (reverse w.log) w.number ≡ w.finished
    base_here = base_below cut_made w.finished cuts_here.base

    pub base_place : HasPlace w.finished w.log
    base_place = base_stands cut_made w.finished cuts_here.base

    -- the frozen keys are those that were written between the two cuts
    pub frozen_is : IsFrozen (view_of c) c.changed.frozen
    frozen_is q = sym (ok.stands.frozen q) ∙ cuts_here.frozen q ∙ written_is cut_made w.finished cuts_here.base cuts_here.inner q
