-- The first piece of a text, and the pieces behind it.
use Rattle.std.proofs.Common.{◌≡◌, ◌<◌, ◌≤◌, ℕ, suc, ◌+◌, Bool, true, false, nat_lt, cond, [], ◌∷◌, length, take, drop, Option, Some, None, position, refl, arith}
use Rattle.std.specs.List.{position_or_len}
use borrow.Author.Tests.{ltb-true, ltb-false}
use Rattle.procedure.specs.Bytes.{Bytes}
use Rattle.calcdb.specs.Lines.{pieces}

abbrev first : (ℕ → Bool) → Bytes → ℕ
first p bs = position_or_len p bs

split_step : (p : ℕ → Bool) (b : ℕ) (bs : Bytes) (v : Bool) → p b ≡ v → (first p bs < length bs → pieces p bs ≡ take (first p bs) bs ∷ pieces p (drop (first p bs + 1) bs)) →
    first p (b ∷ bs) < length (b ∷ bs) → pieces p (b ∷ bs) ≡ take (first p (b ∷ bs)) (b ∷ bs) ∷ pieces p (drop (first p (b ∷ bs) + 1) (b ∷ bs))
split_step p b bs true e ind h = rw e refl
split_step p b bs false e ind h =
    let one : 1 + first p bs ≡ suc (first p bs) = omega arith in
    let two : suc (first p bs) + 1 ≡ suc (first p bs + 1) = omega arith in
    let less : first p bs < length bs = let k : 1 + first p bs < suc (length bs) = rw e at h in omega (arith, k) in
    rw (e, one, two, ind less) refl

split_at : (p : ℕ → Bool) (bs : Bytes) → first p bs < length bs → pieces p bs ≡ take (first p bs) bs ∷ pieces p (drop (first p bs + 1) bs)
split_at p [] h = absurd (omega arith)
split_at p (b ∷ bs) h = split_step p b bs (p b) refl (split_at p bs) h

whole_step : (p : ℕ → Bool) (b : ℕ) (bs : Bytes) (v : Bool) → p b ≡ v → (length bs ≤ first p bs → pieces p bs ≡ bs ∷ []) → length (b ∷ bs) ≤ first p (b ∷ bs) → pieces p (b ∷ bs) ≡ (b ∷ bs) ∷ []
whole_step p b bs true e ind h = let k : suc (length bs) ≤ 0 = rw e at h in absurd (omega (arith, k))
whole_step p b bs false e ind h =
    let all : length bs ≤ first p bs = let k : suc (length bs) ≤ 1 + first p bs = rw e at h in omega (arith, k) in
    rw (e, ind all) refl

whole : (p : ℕ → Bool) (bs : Bytes) → length bs ≤ first p bs → pieces p bs ≡ bs ∷ []
whole p [] h = refl
whole p (b ∷ bs) h = whole_step p b bs (p b) refl (whole p bs) h

at_some : (p : ℕ → Bool) (bs : Bytes) (i : ℕ) (v : Bool) → nat_lt (first p bs) (length bs) ≡ v → Some i ≡ cond v (Some (first p bs)) None → pieces p bs ≡ take i bs ∷ pieces p (drop (i + 1) bs)
at_some p bs i true e h =
    let is : i ≡ first p bs = cc in
    rw is (split_at p bs (ltb-true (first p bs) (length bs) e))
at_some p bs i false e h = absurd (cc)

at_none : (p : ℕ → Bool) (bs : Bytes) (v : Bool) → nat_lt (first p bs) (length bs) ≡ v → (let none : Option ℕ = None in none) ≡ cond v (Some (first p bs)) None → pieces p bs ≡ bs ∷ []
at_none p bs true e h = absurd (cc)
at_none p bs false e h = whole p bs (ltb-false (first p bs) (length bs) e)

pub pieces_split : (p : ℕ → Bool) (bs : Bytes) (i : ℕ) → Some i ≡ position p bs → pieces p bs ≡ take i bs ∷ pieces p (drop (i + 1) bs)
pieces_split p bs i h = at_some p bs i (nat_lt (first p bs) (length bs)) refl h

abbrev nothing : Option ℕ
nothing = None

pub pieces_whole : (p : ℕ → Bool) (bs : Bytes) → nothing ≡ position p bs → pieces p bs ≡ bs ∷ []
pieces_whole p bs h = at_none p bs (nat_lt (first p bs) (length bs)) refl h
