-- A cell that is written behind those that are kept.
use Rattle.std.proofs.Common.{◌≡◌, ℕ, zero, suc, ◌+◌, ◌-◌, ◌<◌, ◌≤◌, arith, List, [], ◌∷◌, ◌++◌, None, length, length-append, replicate, ap, ◌∙◌, slice_set}
use Rattle.std.proofs.lemmas.List.{length-replicate}
use Rattle.procedure.specs.Bytes.{Cell}
use Rattle.procedure.specs.Registers.{padded}
use Rattle.procedure.specs.declared.limits.TheConstants.{REGISTERS}

abbrev absent : ℕ → List Cell
absent n = replicate n None

-- one of some absent cells is written
set_absent : (before after n : ℕ) (x : Cell) → n ≡ before + suc after → (absent before ++ x ∷ []) ++ absent after ≡ slice_set (absent n) before x
set_absent zero after zero x e = absurd (omega arith)
set_absent zero after (suc n) x e = let same : after ≡ n = omega arith in ap (λ m. x ∷ absent m) same
set_absent (suc before) after zero x e = absurd (omega arith)
set_absent (suc before) after (suc n) x e = ap (λ (l : List Cell). None ∷ l) (set_absent before after n x (omega arith))

-- an absent one behind these
set_behind : (cells : List Cell) (before after n i : ℕ) (x : Cell) → i ≡ length cells + before → n ≡ before + suc after →
    ((cells ++ absent before) ++ x ∷ []) ++ absent after ≡ slice_set (cells ++ absent n) i x
set_behind [] before after n i x at e = let same : before ≡ i = omega arith in set_absent before after n x e ∙ ap (λ j. slice_set (absent n) j x) same
set_behind (c ∷ cells) before after n zero x at e = absurd (omega arith)
set_behind (c ∷ cells) before after n (suc i) x at e = ap (λ (l : List Cell). c ∷ l) (set_behind cells before after n i x (omega arith) e)

module _ (cells after : List Cell) (i : ℕ) (x : Cell) (behind : length cells ≤ i) (below : i < REGISTERS) (is : after ≡ (cells ++ absent (i - length cells)) ++ x ∷ []) where
  count : length after ≡ suc i
  count = omega (arith, ap length is, length-append (cells ++ absent (i - length cells)) (x ∷ []), length-append cells (absent (i - length cells)), length-replicate {A = Cell} (i - length cells) None)

  pub written_behind : padded after ≡ slice_set (padded cells) i x
  written_behind =
      ap (λ (l : List Cell). l ++ absent (REGISTERS - length after)) is
      ∙ set_behind cells (i - length cells) (REGISTERS - length after) (REGISTERS - length cells) i x (omega arith) (omega (arith, count))
