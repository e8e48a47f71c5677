-- The laws of histories as they grow.
use Rattle.std.proofs.Common.{◌≡◌, ◌≤◌, List, [], ◌++◌, sym, ap, ◌∙◌, subst}
use Rattle.procedure.specs.Bytes.{Bytes}
use Rattle.procedure.specs.Table.{Table, value_at}
use Rattle.procedure.specs.Procedures.{Procedure}
use Rattle.commitlog.specs.Records.{Record}
use Rattle.commitlog.specs.Histories.{IsAnsweredAfter, RisesAfter, FollowsAfter, IsCyclic}
use Rattle.commitlog.specs.Cuts.{CutImage, HasCut, cut, at_cut, written, in_full, in_partial, IsFullImage, IsPartialImage}
use Rattle.commitlog.specs.Laws.{KeepsCut, KeepsImages, FrontsAreHistories, GrowByOne, SayByOne, LastIsGreatest}
use Rattle.commitlog.proofs.Histories.{each-front, each-push, each-last, after-push, phase_of-push, number_of-push, last_number-push, last_finished-push}
use Rattle.commitlog.proofs.Cuts.{keeps_cut}
use Rattle.commitlog.proofs.Finished.{greatest, greatest_below, base_has_cut, base_is_before}

pub fronts_are_histories : FrontsAreHistories
fronts_are_histories c t l m =
    record {
      legal = each-front (IsAnsweredAfter c t) l m;
      orderly = each-front RisesAfter l m;
      cyclic = each-front FollowsAfter l m;
    }

pub grow_by_one : GrowByOne
grow_by_one c t l r =
    record {
      legal = each-push (IsAnsweredAfter c t) l r;
      orderly = each-push RisesAfter l r;
      cyclic = each-push FollowsAfter l r;
      last_legal = each-last (IsAnsweredAfter c t) l r [];
      last_orderly = each-last RisesAfter l r [];
      last_cyclic = each-last FollowsAfter l r [];
    }

pub say_by_one : SayByOne
say_by_one c t l r =
    record {
      table = after-push c t l r;
      phase = phase_of-push l r;
      number = number_of-push l r;
      answered = λ s. last_number-push s l r;
      finished = last_finished-push l r;
    }

pub last_is_greatest : LastIsGreatest
last_is_greatest l c = (greatest l c, greatest_below l c)

module _ (c : List Procedure) (t : Table) (l m : List Record) (i : CutImage) (cyclic : IsCyclic l) (h : HasCut l i.number) where
  kept : KeepsCut c t l m i.number
  kept = keeps_cut c t l m i.number h

  full_stays : IsFullImage c t l i → IsFullImage c t (l ++ m) i
  full_stays x =
      record {
        base = x.base;
        place = x.place ∙ sym kept.place;
        entries = λ q. x.entries q ∙ ap (λ (u : Table). in_full (value_at u q)) (sym kept.table);
      }

  module _ (x : IsPartialImage c t l i) where
    base_before : cut l i.base ≤ cut l i.number
    base_before = subst (λ b. cut l b ≤ cut l i.number) (sym x.base) (base_is_before l cyclic i.number)

    base_kept : KeepsCut c t l m i.base
    base_kept = keeps_cut c t l m i.base (subst (HasCut l) (sym x.base) (base_has_cut l cyclic i.number h))

    written_same : (q : Bytes) → written c t l (cut l i.base) (cut l i.number) q ≡ written c t (l ++ m) (cut (l ++ m) i.base) (cut (l ++ m) i.number) q
    written_same q =
        sym (kept.keys (cut l i.base) q base_before)
        ∙ ap (λ k. written c t (l ++ m) k (cut l i.number) q) (sym base_kept.place)
        ∙ ap (λ k. written c t (l ++ m) (cut (l ++ m) i.base) k q) (sym kept.place)

    partial_stays : IsPartialImage c t (l ++ m) i
    partial_stays =
        record {
          base = x.base ∙ sym kept.base;
          place = x.place ∙ sym kept.place;
          entries = λ q. x.entries q ∙ ap (λ b. in_partial b (value_at (at_cut c t l i.number) q)) (written_same q) ∙
              ap (λ (u : Table). in_partial (written c t (l ++ m) (cut (l ++ m) i.base) (cut (l ++ m) i.number) q) (value_at u q)) (sym kept.table);
        }

pub keeps_images : KeepsImages
keeps_images c t l m i cyclic h = record { full = full_stays c t l m i cyclic h; partial = partial_stays c t l m i cyclic h }
