-- The first byte that passes a test, and where it stands.
use Rattle.std.proofs.Common.{◌≡◌, ◌<◌, ℕ, Bool, true, false, nat_lt, cond, List, length, slice_index_or, Option, Some, None, position, refl, arith}
use Rattle.std.specs.List.{position_or_len}
use Rattle.std.proofs.lemmas.List.Sums.{position_or_len_is}
use Rattle.memchr.specs.Find.{IsFirstByte}

fails : (v : Bool) → ¬ (v ≡ true) → v ≡ false
fails true h = absurd (h refl)
fails false h = refl

abbrev place : ℕ → ℕ → Option ℕ
place i n = cond (nat_lt i n) (Some i) None

outside : (i n : ℕ) → i ≡ n → None ≡ place i n
outside i n h = grind (arith)

inside : (i n k : ℕ) → i ≡ k → k < n → Some k ≡ place i n
inside i n k h less = grind (arith)

pub position_of_first : (p : ℕ → Bool) (bs : List ℕ) (r : Option ℕ) → IsFirstByte p bs r → r ≡ position p bs
position_of_first p bs None h =
    let at : position_or_len p bs ≡ length bs = position_or_len_is p bs (length bs) 0 (omega arith) (λ k less. fails _ (h k (omega arith) less)) (λ less. absurd (omega (arith, less))) in
    outside (position_or_len p bs) (length bs) at
position_of_first p bs (Some k) h =
    let at : position_or_len p bs ≡ k = position_or_len_is p bs k 0 (omega (arith, h.0.high)) (λ i less. fails _ (h.0.before i (omega arith) less)) (λ less. h.1) in
    inside (position_or_len p bs) (length bs) k at h.0.high

pub first_place : (p : ℕ → Bool) (bs : List ℕ) (k : ℕ) → k < length bs → ((i : ℕ) → i < k → p (slice_index_or bs i 0) ≡ false) → p (slice_index_or bs k 0) ≡ true → Some k ≡ position p bs
first_place p bs k less before is = inside (position_or_len p bs) (length bs) k (position_or_len_is p bs k 0 (omega (arith, less)) before (λ _. is)) less

pub no_place : (p : ℕ → Bool) (bs : List ℕ) → ((i : ℕ) → i < length bs → p (slice_index_or bs i 0) ≡ false) → None ≡ position p bs
no_place p bs before = outside (position_or_len p bs) (length bs) (position_or_len_is p bs (length bs) 0 (omega arith) before (λ less. absurd (omega (arith, less))))
