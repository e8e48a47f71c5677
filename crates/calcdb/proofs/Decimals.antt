-- Decimals, digit by digit.
use Rattle.std.proofs.Common.{◌≡◌, ◌<◌, ◌≤◌, ℕ, ◌+◌, ◌*◌, Bool, true, false, nat_le, cond, [], ◌∷◌, length, get_or, drop, Option, Some, None, refl, sym, ap, arith}
use Rattle.std.proofs.lemmas.List.{drop_all, drop_more}
use borrow.Author.Tests.{leb-true, leb-false, le-leb}
use Rattle.procedure.specs.Bytes.{Bytes}
use Rattle.calcdb.specs.Reads.{◌>>=◌}
use Rattle.calcdb.specs.Values.{at_most, decimal_after, digit_of}

abbrev nothing : Option ℕ
nothing = None

within_by : (most n m : ℕ) (v : Bool) → nat_le n most ≡ v → cond v (Some n) nothing ≡ Some m → (m ≡ n) × (m ≤ most)
within_by most n m true e h =
    let same : n ≡ m = cc in (sym same, let le : n ≤ most = leb-true n most e in omega (arith, same, le))
within_by most n m false e h = absurd (cc)

-- a number that is at most this
pub within : (most n m : ℕ) → at_most most n ≡ Some m → (m ≡ n) × (m ≤ most)
within most n m h = within_by most n m (nat_le n most) refl h

above_by : (most n : ℕ) (v : Bool) → nat_le n most ≡ v → most < n → cond v (Some n) nothing ≡ None
above_by most n true e h = let le : n ≤ most = leb-true n most e in absurd (omega (arith, le, h))
above_by most n false e h = refl

beyond_by : (most n : ℕ) (v : Bool) → nat_le n most ≡ v → cond v (Some n) nothing ≡ None → most < n
beyond_by most n true e h = absurd (cc)
beyond_by most n false e h = leb-false n most e

digit_on : (most n : ℕ) (bs : Bytes) (o : Option ℕ) → most < n → ((m : ℕ) → most < m → (decimal_after m bs >>= at_most most) ≡ None) →
    ((o >>= λ d. decimal_after (n * 10 + d) bs) >>= at_most most) ≡ None
digit_on most n bs None h ind = refl
digit_on most n bs (Some d) h ind = ind (n * 10 + d) (omega (arith, h))

-- digits behind a number that is too great don't make it less
too_great : (most n : ℕ) (bs : Bytes) → most < n → (decimal_after n bs >>= at_most most) ≡ None
unfolding decimal_after
too_great most n [] h = above_by most n (nat_le n most) refl h
too_great most n (b ∷ bs) h = digit_on most n bs (digit_of b) h (λ m less. too_great most m bs less)

pub digit_kept : (most n : ℕ) (ds : Bytes) (i d m : ℕ) → i < length ds → digit_of (get_or ds i 0) ≡ Some d → at_most most (n * 10 + d) ≡ Some m →
    (decimal_after m (drop (i + 1) ds) >>= at_most most) ≡ (decimal_after n (drop i ds) >>= at_most most)
unfolding decimal_after
digit_kept most n ds i d m lt is fits =
    let same = within most (n * 10 + d) m fits in
    rw (drop_more ds i 0 lt, is) (ap (λ (k : ℕ). decimal_after k (drop (i + 1) ds) >>= at_most most) same.0)

pub no_digit : (most n : ℕ) (ds : Bytes) (i : ℕ) → i < length ds → digit_of (get_or ds i 0) ≡ None → (decimal_after n (drop i ds) >>= at_most most) ≡ None
unfolding decimal_after
no_digit most n ds i lt is = rw (drop_more ds i 0 lt, is) refl

pub digit_too_much : (most n : ℕ) (ds : Bytes) (i d : ℕ) → i < length ds → digit_of (get_or ds i 0) ≡ Some d → at_most most (n * 10 + d) ≡ None → (decimal_after n (drop i ds) >>= at_most most) ≡ None
unfolding decimal_after
digit_too_much most n ds i d lt is above =
    rw (drop_more ds i 0 lt, is) (too_great most (n * 10 + d) (drop (i + 1) ds) (beyond_by most (n * 10 + d) (nat_le (n * 10 + d) most) refl above))

pub all_digits : (most n : ℕ) (ds : Bytes) (i : ℕ) → length ds ≤ i → n ≤ most → (decimal_after n (drop i ds) >>= at_most most) ≡ Some n
unfolding decimal_after
all_digits most n ds i le fits = rw (drop_all i ds le, le-leb n most fits) refl
