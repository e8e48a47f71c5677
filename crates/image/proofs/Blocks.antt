-- Entries cut into blocks.
use Rattle.std.proofs.Common.{◌≡◌, ◌≤◌, ◌<◌, ℕ, suc, ◌-◌, Bool, true, false, List, [], ◌∷◌, ◌++◌, length, take, drop, min, refl, sym, ap, subst, ◌∙◌, append_assoc, arith, inl, inr}
use Rattle.std.specs.List.{AllByRecursion}
use Rattle.std.specs.Prelude.{◌==◌}
use Rattle.std.proofs.lemmas.Bool.{cases_lt, eqb-true}
use Rattle.std.proofs.lemmas.List.{append-nil, length-drop, take_all, drop_all, take-append-drop}
use Rattle.procedure.specs.Bytes.{Bytes}
use Rattle.image.specs.Images.{Entry}
use Rattle.image.specs.ImageBytes.{block_bytes, block_count, block_digest, blocks_bytes}

pub count-step : (n : ℕ) → 0 < n → block_count n ≡ suc (block_count (n - 64))
count-step n some = elim (cases_lt n 64) [
  | inl few ↦ omega arith
  | inr many ↦ omega arith
]

-- the first block, and those after it
pub blocks-step : (before : Bytes) (es : List Entry) → 0 < length es →
    blocks_bytes (block_count (length es)) before es ≡ block_bytes before (take 64 es) ++ blocks_bytes (block_count (length (drop 64 es))) (block_digest before (take 64 es)) (drop 64 es)
blocks-step before es some =
    ap (λ m. blocks_bytes m before es) (count-step (length es) some)
    ∙ ap (λ n. block_bytes before (take 64 es) ++ blocks_bytes (block_count n) (block_digest before (take 64 es)) (drop 64 es)) (sym (length-drop 64 es))

-- the shorter of 64 and the whole is 64, or the whole
at_min : {X : Type 0} (f : ℕ → List X → List X) (es : List X) → ((n : ℕ) → length es ≤ n → f n es ≡ f (length es) es) → (k : ℕ) → k ≡ min (length es) 64 → f k es ≡ f 64 es
at_min f es past k is = elim (cases_lt (length es) 64) [
  | inl few ↦ let short : k ≡ length es = omega arith in ap (λ n. f n es) short ∙ sym (past 64 (omega arith))
  | inr many ↦ let long : k ≡ 64 = omega arith in ap (λ n. f n es) long
]

pub cut_take : {X : Type 0} (es : List X) (k : ℕ) → k ≡ min (length es) 64 → take k es ≡ take 64 es
cut_take es k is = at_min (λ n l. take n l) es (λ n le. take_all n es le ∙ sym (take_all (length es) es (omega arith))) k is

pub cut_drop : {X : Type 0} (es : List X) (k : ℕ) → k ≡ min (length es) 64 → drop k es ≡ drop 64 es
cut_drop es k is = at_min (λ n l. drop n l) es (λ n le. drop_all n es le ∙ sym (drop_all (length es) es (omega arith))) k is

-- a block that is cut off, and those of the entries that are left
pub block_split : (before : Bytes) (es b r : List Entry) → 0 < length es → b ≡ take 64 es → r ≡ drop 64 es →
    blocks_bytes (block_count (length es)) before es ≡ block_bytes before b ++ blocks_bytes (block_count (length r)) (block_digest before b) r
block_split before es b r some front back =
    blocks-step before es some ∙ sym (λ i. block_bytes before (front i) ++ blocks_bytes (block_count (length (back i))) (block_digest before (front i)) (back i))

-- one block more is out
pub block_out : (before d : Bytes) (es b r : List Entry) (out new whole : Bytes) → 0 < length es → b ≡ take 64 es → r ≡ drop 64 es →
    new ≡ out ++ block_bytes before b → d ≡ block_digest before b → out ++ blocks_bytes (block_count (length es)) before es ≡ whole →
    new ++ blocks_bytes (block_count (length r)) d r ≡ whole
block_out before d es b r out new whole some front back written digest all =
    (λ i. written i ++ blocks_bytes (block_count (length r)) (digest i) r)
    ∙ append_assoc out _ _
    ∙ ap (λ (x : Bytes). out ++ x) (sym (block_split before es b r some front back))
    ∙ all

pub all_both : (P : Entry → Type 0) (es fs : List Entry) → AllByRecursion P es → AllByRecursion P fs → AllByRecursion P (es ++ fs)
all_both P [] fs h k = k
all_both P (e ∷ es) fs h k = (h.0, all_both P es fs h.1 k)

pub all_parts : (P : Entry → Type 0) (es b r : List Entry) (k : ℕ) → b ≡ take k es → r ≡ drop k es → AllByRecursion P b → AllByRecursion P r → AllByRecursion P es
all_parts P es b r k front back here there =
    subst (AllByRecursion P) ((λ i. front i ++ back i) ∙ take-append-drop k es) (all_both P b r here there)

-- entries of which it was asked whether any are left
pub some_left : {X : Type 0} (b : Bool) (es : List X) → b ≡ (length es == 0) → b ≡ false → 0 < length es
some_left b [] is left = let both : true ≡ false = sym is ∙ left in absurd (cc)
some_left b (e ∷ es) is left = omega arith

no_more : {X : Type 0} (b : Bool) (es : List X) → b ≡ (length es == 0) → b ≡ true → es ≡ []
no_more b [] is none = refl
no_more b (e ∷ es) is none = absurd (omega (arith, eqb-true (length (e ∷ es)) 0 (sym is ∙ none)))

-- where none are left, what is out is the whole, and all of it fits
module _ (b : Bool) (es : List Entry) (is : b ≡ (length es == 0)) (none : b ≡ true) where
  pub no_blocks : (before : Bytes) → blocks_bytes (block_count (length es)) before es ≡ []
  no_blocks before = ap (λ l. blocks_bytes (block_count (length l)) before l) (no_more b es is none)

  pub all_out : (before out whole : Bytes) → out ++ blocks_bytes (block_count (length es)) before es ≡ whole → out ≡ whole
  all_out before out whole h = sym (append-nil out) ∙ ap (λ (x : Bytes). out ++ x) (sym (no_blocks before)) ∙ h

  pub none_unfit : (P : Entry → Type 0) → AllByRecursion P es
  none_unfit P = subst (AllByRecursion P) (sym (no_more b es is none)) tt
