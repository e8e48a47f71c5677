-- The step that appends an image keeps the rule of the history.
use Rattle.std.proofs.Common.{◌≡◌, ℕ, ◌+◌, ◌<◌, ◌==◌, Bool, true, false, List, [], ◌∷◌, ◌++◌, length, refl, ap, sym, subst, arith, inl, length-append, None}
use Rattle.std.proofs.lemmas.List.{append-nil}
use Rattle.std.proofs.lemmas.Bool.Decides.{nat_tests}
use mathlib.Core.List.{IsPrefix}
use prog.Atomic.{either}
use Rattle.logbook.specs.Pages.{Cell, cell, keeps, no_nib, step, Moves, Goes}
use Rattle.image.specs.Images.{Image}
use Rattle.view.specs.Histories.{IsCounted, Appends}
use Rattle.view.proofs.Beginnings.{whole}

abbrev shown : List Image → List Image
shown log = []

abbrev moved : List Image → List Image → ℕ → Type 0
moved xs ys n = Unit {0}

module _ (seen : List Image) (image : Image) (old : ℕ) (len : length seen ≡ old) where
  abbrev Went : List Cell → List Image → Type 0
  Went cells log = Goes IsCounted shown moved 0 (seen, (no_nib, None)) (λ n. either (n == old) (old + 1) n) (Appends (step 0 old (old + 1) image) (seen, (no_nib, None))) cells log

  -- the history is what was seen, and gets the image; or it is longer, and stays
  went : (log : List Image) → IsPrefix seen log → (b : Bool) → (length log == old) ≡ b → Went ((length log, true) ∷ (0, true) ∷ []) log
  went log begins true is =
      let here : length log ≡ old = grind (arith, nat_tests) in
      let same : seen ≡ log = whole seen log begins (omega arith) in
      let next : either (length log == old) (old + 1) (length log) ≡ length (log ++ image ∷ []) = rw is (omega (arith, length-append log (image ∷ []))) in (
        keeps,
        image ∷ [],
        None,
        tt,
        record { words = ap (λ (n : ℕ). (n, true) ∷ (0, true) ∷ []) next },
        inl (refl, refl),
        rw is (ap (λ w. w ++ image ∷ []) (sym same)),
      )
  went log begins false is =
      let next : either (length log == old) (old + 1) (length log) ≡ length (log ++ []) = rw is (ap length (sym (append-nil log))) in (
        keeps,
        [],
        None,
        tt,
        record { words = ap (λ (n : ℕ). (n, true) ∷ (0, true) ∷ []) next },
        inl (refl, refl),
        rw is tt,
      )

  pub moves : Moves IsCounted shown moved 0 (seen, (no_nib, None)) (λ n. either (n == old) (old + 1) n) (Appends (step 0 old (old + 1) image) (seen, (no_nib, None)))
  moves cells log kept begins away =
      subst (λ c. (0 < length c) × ((cell c 0).1 ≡ true) × Went c log) (sym kept.words) (omega arith, refl, went log begins (length log == old) refl)
