-- Keys compare as the numbers in their places do, some places at a time.
use Rattle.std.proofs.Common.{◌≡◌, ◌<◌, ◌≤◌, ◌+◌, ◌*◌, ◌^◌, ◌⊎◌, inl, inr, ◌≢◌, ℕ, zero, suc, List, [], ◌∷◌, ◌++◌, length, take, drop, get_or, replicate, refl, sym, ap, ◌∙◌, arith, Ordering, Less, Equal, Greater}
use Rattle.std.specs.Ordering.{MatchOrdering, nat_cmp, ordering_reverse}
use Rattle.std.specs.Cmp.{ranked, nat_cmp_is}
use Rattle.std.specs.Cmp.Lexicographic.{slice_cmp, nat_list_cmp_total}
use Rattle.std.proofs.Math.Nat.{mul-le-mul_left, pow-succ'}
use Rattle.std.proofs.lemmas.List.{get_or-drop, get_or-take}
use Rattle.byteorder.specs.Endian.{big_from}
use Rattle.procedure.specs.Keys.{padded}

abbrev Bounded : List ℕ → Type 0
Bounded x = (i : ℕ) → get_or x i 0 < 256

-- the bytes behind the first one
behind : (b : ℕ) (bs : List ℕ) (i n : ℕ) → big_from (suc i) n (b ∷ bs) ≡ big_from i n bs
behind b bs i zero = refl
behind b bs i (suc n) = ap (λ (z : ℕ). get_or bs i 0 * 256 ^ n + z) (behind b bs (suc i) n)

-- places without bytes
none : (i n : ℕ) → big_from i n [] ≡ 0
none i zero = refl
none i (suc n) = let rest = none (suc i) n in omega (arith, rest)

shifted : (k m i n : ℕ) (x : List ℕ) → i + n ≤ m → big_from i n (take m (drop k x)) ≡ big_from (k + i) n x
shifted k m i zero x fits = refl
shifted k m i (suc n) x fits =
    let next : k + suc i ≡ suc (k + i) = omega arith in
    let one : get_or (take m (drop k x)) i 0 ≡ get_or x (k + i) 0 = get_or-take m (drop k x) i 0 (omega (arith, fits)) ∙ get_or-drop k x i 0 in
    let rest : big_from (suc i) n (take m (drop k x)) ≡ big_from (suc (k + i)) n x = shifted k m (suc i) n x (omega (arith, fits)) ∙ ap (λ (j : ℕ). big_from j n x) next in
    rw (one, rest) refl

-- the places from the k-th on
pub number_after : (k m n : ℕ) (x : List ℕ) → n ≤ m → big_from 0 n (take m (drop k x)) ≡ big_from k n x
number_after k m n x fits = shifted k m 0 n x (omega (arith, fits)) ∙ ap (λ (j : ℕ). big_from j n x) (let z : k + 0 ≡ k = omega arith in z)

-- a digit in front of a number below its weight
front : (a f w : ℕ) → a < 256 → f < w → a * w + f < 256 * w
front a f w ha hf = let m : w * (a + 1) ≤ w * 256 = mul-le-mul_left w (omega (arith, ha)) in omega (arith, m, hf)

-- a number of n digits
small : (n i : ℕ) (x : List ℕ) → Bounded x → big_from i n x < 256 ^ n
small zero i x h = omega arith
small (suc n) i x h = rw (pow-succ' 256 n) (front (get_or x i 0) (big_from (suc i) n x) (256 ^ n) (h i) (small n (suc i) x h))

-- the first digit is not greater
head : (a b f g w : ℕ) → a * w + f < b * w + g → g < w → ¬ (b < a)
head a b f g w less hg greater = let m : w * (b + 1) ≤ w * a = mul-le-mul_left w (omega (arith, greater)) in omega (arith, m, less, hg)

by_head : (a b : ℕ) (xs ys : List ℕ) (o : Ordering) → o ≡ nat_cmp a b → ¬ (b < a) → (a ≡ b → slice_cmp nat_cmp xs ys ≡ Less) →
    slice_cmp nat_cmp (a ∷ xs) (b ∷ ys) ≡ Less
by_head a b xs ys Less is low same = rw (sym is) refl
by_head a b xs ys Equal is low same = rw (sym is) (same (ranked a b Equal is))
by_head a b xs ys Greater is low same = absurd (low (ranked a b Greater is))

-- a lesser number in the first n places is a lesser list
less_by_front : (n : ℕ) (x y : List ℕ) → Bounded x → Bounded y → big_from 0 n x < big_from 0 n y → slice_cmp nat_cmp x y ≡ Less
less_by_front zero x y hx hy h = absurd (omega (arith, h))
less_by_front (suc n) [] [] hx hy h = absurd (omega (arith, h))
less_by_front (suc n) [] (b ∷ ys) hx hy h = refl
less_by_front (suc n) (a ∷ xs) [] hx hy h =
    let k : big_from 0 (suc n) (a ∷ xs) < 0 = rw (sym (none 0 (suc n))) h in
    absurd (omega (arith, k))
less_by_front (suc n) (a ∷ xs) (b ∷ ys) hx hy h =
    let k : a * 256 ^ n + big_from 0 n xs < b * 256 ^ n + big_from 0 n ys = rw (sym (behind a xs 0 n), sym (behind b ys 0 n)) h in
    let low : ¬ (b < a) = head a b (big_from 0 n xs) (big_from 0 n ys) (256 ^ n) k (small n 0 ys (λ i. hy (suc i))) in
    let less : a ≡ b → big_from 0 n xs < big_from 0 n ys = λ same. let e : a * 256 ^ n ≡ b * 256 ^ n = ap (λ (z : ℕ). z * 256 ^ n) same in omega (arith, e, k) in
    by_head a b xs ys (nat_cmp a b) refl low (λ same. less_by_front n xs ys (λ i. hx (suc i)) (λ i. hy (suc i)) (less same))

-- the first k items of two lists, or what stands for items that they lack
abbrev pub SameBefore : ℕ → List ℕ → List ℕ → Type 0
SameBefore k x y = (i : ℕ) → i < k → get_or x i 0 ≡ get_or y i 0

later : (k a b : ℕ) (xs ys : List ℕ) → SameBefore (suc k) (a ∷ xs) (b ∷ ys) → SameBefore k xs ys
later k a b xs ys same i less = same (suc i) (omega (arith, less))

-- the same before, and then a lesser number in n places
less_from : (k n : ℕ) (x y : List ℕ) → Bounded x → Bounded y → SameBefore k x y → big_from k n x < big_from k n y → slice_cmp nat_cmp x y ≡ Less
less_from zero n x y hx hy same h = less_by_front n x y hx hy h
less_from (suc k) n [] [] hx hy same h = absurd (omega (arith, h))
less_from (suc k) n [] (b ∷ ys) hx hy same h = refl
less_from (suc k) n (a ∷ xs) [] hx hy same h =
    let z : big_from (suc k) n (a ∷ xs) < 0 = rw (sym (none (suc k) n)) h in
    absurd (omega (arith, z))
less_from (suc k) n (a ∷ xs) (b ∷ ys) hx hy same h =
    let z : big_from k n xs < big_from k n ys = rw (sym (behind a xs k n), sym (behind b ys k n)) h in
    let e : a ≡ b = same 0 (omega arith) in
    let low : ¬ (b < a) = λ less. omega (arith, e, less) in
    by_head a b xs ys (nat_cmp a b) refl low (λ _. less_from k n xs ys (λ i. hx (suc i)) (λ i. hy (suc i)) (later k a b xs ys same) z)

greater_from : (k n : ℕ) (x y : List ℕ) → Bounded x → Bounded y → SameBefore k x y → big_from k n y < big_from k n x → slice_cmp nat_cmp x y ≡ Greater
greater_from k n x y hx hy same h = nat_list_cmp_total.antisymm x y ∙ ap ordering_reverse (less_from k n y x hy hx (λ i less. sym (same i less)) h)

by_number : (o : Ordering) (k n : ℕ) (x y : List ℕ) → Bounded x → Bounded y → SameBefore k x y →
    MatchOrdering o (big_from k n x < big_from k n y) (big_from k n x ≡ big_from k n y) (big_from k n y < big_from k n x) → big_from k n x ≢ big_from k n y → o ≡ slice_cmp nat_cmp x y
by_number Less k n x y hx hy same h other = sym (less_from k n x y hx hy same h)
by_number Equal k n x y hx hy same h other = absurd (other h)
by_number Greater k n x y hx hy same h other = sym (greater_from k n x y hx hy same h)

-- where two lists first differ in n places, the numbers there decide
pub decided : (k n : ℕ) (x y : List ℕ) → Bounded x → Bounded y → SameBefore k x y → big_from k n x ≢ big_from k n y → nat_cmp (big_from k n x) (big_from k n y) ≡ slice_cmp nat_cmp x y
decided k n x y hx hy same other =
    let o = nat_cmp (big_from k n x) (big_from k n y) in
    by_number o k n x y hx hy same (ranked (big_from k n x) (big_from k n y) o refl) other

-- two digits in front of numbers below their weight
same_digit : (a b f g w : ℕ) → a * w + f ≡ b * w + g → f < w → g < w → a ≡ b
same_digit a b f g w e hf hg =
    let low : ¬ (b < a) = λ less. let m : w * (b + 1) ≤ w * a = mul-le-mul_left w (omega (arith, less)) in omega (arith, m, e, hg) in
    let high : ¬ (a < b) = λ less. let m : w * (a + 1) ≤ w * b = mul-le-mul_left w (omega (arith, less)) in omega (arith, m, e, hf) in
    omega (arith, low, high)

le_or_lt : (m n : ℕ) → (m ≤ n) ⊎ (n < m)
le_or_lt m n = grind arith

-- the same number in n places has the same digits
same_digits : (n k : ℕ) (x y : List ℕ) → Bounded x → Bounded y → big_from k n x ≡ big_from k n y → (i : ℕ) → k ≤ i → i < k + n → get_or x i 0 ≡ get_or y i 0
same_digits zero k x y hx hy e i low high = absurd (omega (arith, low, high))
same_digits (suc n) k x y hx hy e i low high =
    let a = get_or x k 0 in
    let b = get_or y k 0 in
    let first : a ≡ b = same_digit a b (big_from (suc k) n x) (big_from (suc k) n y) (256 ^ n) e (small n (suc k) x hx) (small n (suc k) y hy) in
    let one : a * 256 ^ n ≡ b * 256 ^ n = ap (λ (z : ℕ). z * 256 ^ n) first in
    let rest : big_from (suc k) n x ≡ big_from (suc k) n y = omega (arith, e, one) in
    elim (le_or_lt (suc k) i) [ inl after ↦ same_digits n (suc k) x y hx hy rest i after (omega (arith, high)) | inr here ↦ rw (let is : i ≡ k = omega (arith, low, here) in is) first ]

-- the same before, and then the same number in n places
pub same_after : (k n : ℕ) (x y : List ℕ) → Bounded x → Bounded y → SameBefore k x y → big_from k n x ≡ big_from k n y → SameBefore (k + n) x y
same_after k n x y hx hy same e i less = elim (le_or_lt k i) [ inl low ↦ same_digits n k x y hx hy e i low less | inr before ↦ same i before ]

-- how two lists compare, by their lengths
abbrev ByLength : Ordering → List ℕ → List ℕ → Type 0
ByLength o x y = MatchOrdering o (length x < length y) (length x ≡ length y) (length y < length x)

longer : (o : Ordering) (a b : ℕ) (xs ys : List ℕ) → ByLength o xs ys → ByLength o (a ∷ xs) (b ∷ ys)
longer Less a b xs ys h = omega (arith, h)
longer Equal a b xs ys h = ap suc h
longer Greater a b xs ys h = omega (arith, h)

behind_same : (a b : ℕ) (xs ys : List ℕ) → a ≡ b → ByLength (slice_cmp nat_cmp xs ys) xs ys → ByLength (slice_cmp nat_cmp (a ∷ xs) (b ∷ ys)) (a ∷ xs) (b ∷ ys)
behind_same a b xs ys e h = rw (sym (nat_cmp_is a b Equal e)) (longer (slice_cmp nat_cmp xs ys) a b xs ys h)

lengths_decide : (k : ℕ) (x y : List ℕ) → length x ≤ k → SameBefore k x y → ByLength (slice_cmp nat_cmp x y) x y
lengths_decide k [] [] hx same = refl
lengths_decide k [] (b ∷ ys) hx same = omega arith
lengths_decide k (a ∷ xs) [] hx same = omega arith
lengths_decide zero (a ∷ xs) (b ∷ ys) hx same = absurd (omega (arith, hx))
lengths_decide (suc k) (a ∷ xs) (b ∷ ys) hx same = behind_same a b xs ys (same 0 (omega arith)) (lengths_decide k xs ys (omega (arith, hx)) (later k a b xs ys same))

-- lists that are the same, but for items that one of them lacks, stand in the order of their lengths
by_length : (k : ℕ) (x y : List ℕ) → length x ≤ k → SameBefore k x y → slice_cmp nat_cmp x y ≡ nat_cmp (length x) (length y)
by_length k x y hx same = nat_cmp_is (length x) (length y) (slice_cmp nat_cmp x y) (lengths_decide k x y hx same)

-- where all places of two keys are the same, the numbers of their bytes decide
pub by_counts : (x y : List ℕ) (m n : ℕ) → m ≡ length x → n ≡ length y → m ≤ 32 → SameBefore 32 x y → nat_cmp m n ≡ slice_cmp nat_cmp x y
by_counts x y m n one two fits same = rw (one, two) (sym (by_length 32 x y (omega (arith, one, fits)) same))

abbrev zeros : ℕ → List ℕ
zeros n = replicate n 0

beyond : (n i : ℕ) → get_or (zeros n) i 0 ≡ 0
beyond zero i = refl
beyond (suc n) zero = refl
beyond (suc n) (suc i) = beyond n i

filled : (x zs : List ℕ) → ((i : ℕ) → get_or zs i 0 ≡ 0) → (i : ℕ) → get_or (x ++ zs) i 0 ≡ get_or x i 0
filled [] zs h i = h i
filled (b ∷ bs) zs h zero = refl
filled (b ∷ bs) zs h (suc i) = filled bs zs h i

-- the places behind a key's bytes read as those that a list lacks
pub at_place : (x : List ℕ) (i : ℕ) → get_or (padded x) i 0 ≡ get_or x i 0
at_place x i = filled x (drop (length x) (zeros 32)) (λ k. get_or-drop (length x) (zeros 32) k 0 ∙ beyond 32 (length x + k)) i

pub unpadded : (x : List ℕ) (i n : ℕ) → big_from i n (padded x) ≡ big_from i n x
unpadded x i zero = refl
unpadded x i (suc n) = rw (at_place x i, unpadded x (suc i) n) refl
