-- Images of a log's checkpoints stay so as the log grows, and chains of them merge to its tables at their cuts.
use Rattle.std.proofs.Common.{◌≡◌, ℕ, zero, suc, ◌-◌, ◌≤◌, ◌<◌, Bool, true, false, cond, List, [], ◌∷◌, ◌++◌, length, take, drop, get_or, refl, sym, ap, ◌∙◌, subst, inl, inr, arith}
use Rattle.std.specs.List.{All, Contains}
use Rattle.std.proofs.lemmas.Bool.{cases_lt}
use Rattle.std.proofs.lemmas.List.Elements.{All-from_recursion, All-contains, recursion_from_All}
use Rattle.procedure.specs.Bytes.{Bytes}
use Rattle.procedure.specs.Table.{Table, merged, value_at}
use Rattle.procedure.specs.Procedures.{Procedure}
use Rattle.commitlog.specs.Records.{Record}
use Rattle.commitlog.specs.Histories.{IsCyclic, after}
use Rattle.commitlog.specs.Cuts.{HasCut, at_cut, before_resolve, cut, in_full, in_partial, resolves, written, written_from}
use Rattle.commitlog.specs.Laws.{KeepsCut}
use Rattle.commitlog.proofs.Cuts.{keeps_cut}
use Rattle.commitlog.proofs.CutTables.{full_is_cut, partial_is_cut}
use Rattle.image.specs.Images.{Image, changes_of}
use Rattle.image.specs.Merges as merges
use Rattle.image.specs.Merges.{IsChain, AreChained, last_of, table_of}
use Rattle.image.specs.declared.images.Kind.{Kind}
use Rattle.image.specs.declared.images.Kind.TheVariants.{Full, Partial}
use Rattle.steps.specs.CutImages.{AllTaken, ChainsAreCuts, IsOfKind, IsTaken, number_of_last, plain}
use Rattle.steps.proofs.log.Cuts.{cut_within}

-- ---- as the log grows

no_earlier_at : (b : Bool) (x y : ℕ) → x ≤ y → cond b 0 (suc x) ≤ cond b 0 (suc y)
no_earlier_at true x y l = omega arith
no_earlier_at false x y l = omega arith

no_earlier : (n : ℕ) (l m : List Record) → before_resolve n l ≤ before_resolve n (l ++ m)
no_earlier n [] m = omega arith
no_earlier n (r ∷ l) m = no_earlier_at (resolves n r) (before_resolve n l) (before_resolve n (l ++ m)) (no_earlier n l m)

same_cut : (n : ℕ) (l m : List Record) → cut l n < length l → cut (l ++ m) n ≡ cut l n
same_cut zero l m w = refl
same_cut (suc n) l m w = cut_within (suc n) l m w

no_earlier_cut : (n : ℕ) (l m : List Record) → cut l n ≤ cut (l ++ m) n
no_earlier_cut zero l m = omega arith
no_earlier_cut (suc n) l m = no_earlier (suc n) l m

-- between a place and none after it nothing is written
nothing_written : (c : List Procedure) (t : Table) (l : List Record) (i j : ℕ) (q : Bytes) → j ≤ i → written c t l i j q ≡ false
unfolding written_from
nothing_written c t l i j q w = ap (λ n. written_from c (after c t (take i l)) (take n (drop i l)) q) none
  where
    none : j - i ≡ 0
    none = omega arith

module _ (c : List Procedure) (t : Table) (l m : List Record) where
  written_same : (b n : ℕ) (q : Bytes) → HasCut l n → written c t l (cut l b) (cut l n) q ≡ written c t (l ++ m) (cut (l ++ m) b) (cut (l ++ m) n) q
  written_same b n q h =
      elim (cases_lt (cut l b) (cut l n)) [
        | inl w ↦ sym (kept.keys (cut l b) q (omega arith))
            ∙ ap (λ k. written c t (l ++ m) k (cut l n) q) (sym (same_cut b l m (let within = kept.within in omega arith)))
            ∙ ap (λ k. written c t (l ++ m) (cut (l ++ m) b) k q) (sym kept.place)
        | inr w ↦ nothing_written c t l (cut l b) (cut l n) q w
            ∙ sym (nothing_written c t (l ++ m) (cut (l ++ m) b) (cut (l ++ m) n) q (let later = no_earlier_cut b l m in let place = kept.place in omega arith))
      ]
    where
      kept : KeepsCut c t l m n
      kept = keeps_cut c t l m n h

  module _ (i : Image) (h : HasCut l i.number) where
    kept : KeepsCut c t l m i.number
    kept = keeps_cut c t l m i.number h

    image_stays : (k : Kind) → IsOfKind k c t l (plain i) → IsOfKind k c t (l ++ m) (plain i)
    image_stays Full x =
        record {
          base = x.base;
          place = x.place ∙ sym kept.place;
          entries = λ q. x.entries q ∙ ap (λ (u : Table). in_full (value_at u q)) (sym kept.table);
        }
    image_stays Partial x =
        record {
          base = x.base ∙ sym kept.base;
          place = x.place ∙ sym kept.place;
          entries = λ q.
              x.entries q
              ∙ ap (λ b. in_partial b (value_at (at_cut c t l i.number) q)) (written_same i.base i.number q h)
              ∙ ap (λ (u : Table). in_partial (written c t (l ++ m) (cut (l ++ m) i.base) (cut (l ++ m) i.number) q) (value_at u q)) (sym kept.table);
        }

  pub taken-grows : (i : Image) → IsTaken c t l i → IsTaken c t (l ++ m) i
  taken-grows i x =
      record {
        has_cut = (keeps_cut c t l m i.number x.has_cut).stays;
        cut = image_stays i x.has_cut i.kind x.cut;
      }

  pub all_taken-grows : (is : List Image) → AllTaken c t l is → AllTaken c t (l ++ m) is
  all_taken-grows [] x = tt
  all_taken-grows (i ∷ is) x = (taken-grows i x.0, all_taken-grows is x.1)

-- one image more
pub all_taken-push : (c : List Procedure) (t : Table) (l : List Record) (is : List Image) (i : Image) → AllTaken c t l is → IsTaken c t l i → AllTaken c t l (is ++ i ∷ [])
all_taken-push c t l [] i x y = (y, tt)
all_taken-push c t l (j ∷ is) i x y = (x.0, all_taken-push c t l is i x.1 y)

-- ---- chains

module _ (c : List Procedure) (t : Table) (l : List Record) where
  module _ (cyclic : IsCyclic l) where
    -- partial images that stand on the cut of checkpoint n
    partials_are_cuts : (u : Table) (n : ℕ) (ps : List Image) → u ≡ at_cut c t l n → AreChained n ps → AllTaken c t l ps → merges.table_with_images u ps ≡ at_cut c t l (number_of_last n ps)
    partials_are_cuts u n [] e stand taken = e
    partials_are_cuts u n (p ∷ ps) e stand taken =
        let partial = subst (λ (k : Kind). IsOfKind k c t l (plain p)) stand.0 taken.0.cut in
        let next : merged u (changes_of p) ≡ at_cut c t l p.number =
        ap (λ (x : Table). merged x (changes_of p)) (e ∙ ap (at_cut c t l) (sym stand.1)) ∙ partial_is_cut c t l (plain p) cyclic partial in
        partials_are_cuts (merged u (changes_of p)) p.number ps next stand.2 taken.1

    pub opening_chain : (ps : List Image) → AllTaken c t l ps → AreChained 0 ps → merges.table_with_images t ps ≡ at_cut c t l (number_of_last 0 ps)
    unfolding after
    opening_chain ps taken stand = partials_are_cuts t 0 ps refl stand taken

    last_is : (i : Image) (ps : List Image) → number_of_last i.number ps ≡ (last_of i ps).number
    last_is i [] = refl
    last_is i (p ∷ ps) = last_is p ps

    pub chain : (i : Image) (ps : List Image) → IsTaken c t l i → AllTaken c t l ps → IsChain i ps → merges.table_with_images (table_of i) ps ≡ at_cut c t l (last_of i ps).number
    chain i ps taken all stand =
        partials_are_cuts (table_of i) i.number ps (full_is_cut c t l (plain i) (subst (λ (k : Kind). IsOfKind k c t l (plain i)) stand.full_first taken.cut)) stand.partials all
        ∙ ap (at_cut c t l) (last_is i ps)

    -- chains of images that were all taken
    pub chains_are_cuts : (is : List Image) → AllTaken c t l is → ChainsAreCuts c t l is
    chains_are_cuts is taken =
        record {
          opening_chain = λ ps among stand. opening_chain ps (all_of ps among) stand;
          chain = λ i ps here among stand. chain i ps (one_of i here) (all_of ps among) stand;
        }
      where
        one_of : (i : Image) → Contains is i → IsTaken c t l i
        one_of i here = All-contains (IsTaken c t l) is i (All-from_recursion (IsTaken c t l) is taken) here

        all_of : (ps : List Image) → All (Contains is) ps → AllTaken c t l ps
        all_of ps among = recursion_from_All (IsTaken c t l) ps (λ k d within. one_of (get_or ps k d) (among k d within))
