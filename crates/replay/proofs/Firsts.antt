-- The first record that is as said is one.
use Rattle.std.proofs.Common.{◌≡◌, ◌⊎◌, inl, inr, ℕ, ◌<◌, List, take, Some, sym, ap, ◌∙◌, subst, arith}
use Rattle.std.specs.Prelude.{slice_get}
use Rattle.std.proofs.lemmas.List.{take-take}
use Rattle.commitlog.specs.Records.{Record}
use Rattle.commitlog.specs.Histories.{EachAfter}
use Rattle.commitlog.proofs.Histories.{same_some}
use Rattle.commitlog.proofs.Lists.{slice_get-take}
use Rattle.replay.specs.Replays.{IsFirst}

-- no record is as both say
abbrev pub Excludes : (List Record → Record → Type 0) → (List Record → Record → Type 0) → Type 0
Excludes P F = (l : List Record) (r : Record) → P l r → F l r → ⊥

module _ {P F : List Record → Record → Type 0} (no : Excludes P F) (l : List Record) where
  -- where each is as P says, none is as F says
  pub each_or_first : (i : ℕ) → EachAfter P l → IsFirst P F l i → ⊥
  each_or_first i each f = no (take i l) f.here (each i f.here f.stands) f.fault

  module _ {G : List Record → Record → Type 0} where
    pub none_before : (i j : ℕ) → IsFirst P F l i → IsFirst P G l j → i < j → ⊥
    none_before i j f g before =
        let stands : slice_get (take j l) i ≡ Some f.here = slice_get-take l i j before ∙ f.stands in
        no (take i l) f.here (subst (λ m. P m f.here) (take-take i j l (omega arith)) (g.before i f.here stands)) f.fault

module _ {P F G : List Record → Record → Type 0} (l : List Record) where
  pub same_first : (i j : ℕ) → Excludes P F → Excludes P G → IsFirst P F l i → IsFirst P G l j → i ≡ j
  same_first i j no_f no_g f g = by (split i j)
    where
      split : (i j : ℕ) → (i < j) ⊎ ((j < i) ⊎ (i ≡ j))
      split i j = grind arith

      by : (i < j) ⊎ ((j < i) ⊎ (i ≡ j)) → i ≡ j
      by (inl before) = absurd (none_before no_f l i j f g before)
      by (inr (inl before)) = absurd (none_before no_g l j i g f before)
      by (inr (inr same)) = same

  -- it isn't as F and as G says
  pub one_fault : (i j : ℕ) → Excludes P F → Excludes P G → Excludes F G → IsFirst P F l i → IsFirst P G l j → ⊥
  one_fault i j no_f no_g apart f g =
      let same = same_first i j no_f no_g f g in
      let here : g.here ≡ f.here = same_some (sym g.stands ∙ ap (slice_get l) (sym same) ∙ f.stands) in
      apart (take i l) f.here f.fault (subst (λ r. G (take i l) r) here (subst (λ n. G (take n l) g.here) (sym same) g.fault))
