-- A field that is read is the field that was written, and what was written is read again.
use Rattle.std.proofs.Common.{◌≡◌, ℕ, zero, suc, ◌^◌, ◌<◌, ◌≤◌, Bool, true, false, cond, ltb, eqb, List, [], ◌∷◌, ◌++◌, length, take, drop, Option, Some, None, refl, sym, ap, subst, append_assoc, arith}
use Rattle.std.specs.List.{flat_map, AllByRecursion}
use Rattle.std.proofs.lemmas.Bool.{ltb-false, le-ltb, eqb-true}
use Rattle.std.proofs.lemmas.List.{nil_from_length, take_at, drop_at, take-append-drop, length-append, length-take}
use Rattle.std.proofs.lemmas.List.Concat.{flat_map-cons}
use Rattle.byteorder.specs.Endian.{big_bytes, big_number}
use Rattle.byteorder.specs.Numbers.{length-bytes_high_first, big_from-lt, big_number-reads_back}
use Rattle.procedure.specs.Bytes.{Bytes, Cell}
use Rattle.phase.specs.declared.phases.Phase.{Phase}
use Rattle.phase.specs.declared.phases.Phase.TheVariants.{Rest, Prepare, Resolve, Capture, Complete}
use Rattle.procedure.proofs.TakenBytes.{IsBytes, IsBytes-drop, SpellsBack, Takes, Takes-then, back_2, front_is}
use Rattle.commitlog.specs.LogBytes.{phase_code, value_bytes, reply_bytes}
use Rattle.commitlog.specs.BodyReading.{Read, ◌>>=◌, byte_in, number_in, value_in, reply_in, many, phase_in}

-- the value of a step that did not fail
pub bind_some : {A B : Type 0} (r : Option A) (f : A → Option B) (y : B) → (r >>= f) ≡ Some y → (x : A) × (r ≡ Some x) × (f x ≡ Some y)
bind_some (Some x) f y e = (x, refl, e)
bind_some None f y e = absurd cc

pub refused : {A : Type 0} (b : Bool) (o : Option A) (y : A) → cond b None o ≡ Some y → (b ≡ false) × (o ≡ Some y)
refused true o y e = absurd cc
refused false o y e = (refl, e)

pub ended : {A : Type 0} (b : Bool) (x y : A) → cond b (Some x) None ≡ Some y → (b ≡ true) × (x ≡ y)
ended true x y e = (refl, cc)
ended false x y e = absurd cc

abbrev done : {A : Type 0} → A → Option A
done x = Some x

pub some_is : {A : Type 0} (x y : A) → done x ≡ done y → x ≡ y
some_is x y e = cc

-- ---- numbers

pub number_takes : (n : ℕ) → SpellsBack n → (bytes : Bytes) (x : ℕ × Bytes) → IsBytes bytes → number_in n bytes ≡ Some x → Takes bytes (big_bytes n x.0) x.1 × (x.0 < 256 ^ n)
number_takes n back bytes x fits e =
    let g = refused (ltb (length bytes) n) (Some (big_number n bytes, drop n bytes)) x e in
    let long : n ≤ length bytes = ltb-false _ _ g.0 in
    let same = some_is (big_number n bytes, drop n bytes) x g.1 in
    let text : bytes ≡ big_bytes n (big_number n bytes) ++ drop n bytes = rw (front_is n back bytes fits long) (sym (take-append-drop n bytes)) in
    subst (λ (p : ℕ × Bytes). Takes bytes (big_bytes n p.0) p.1 × (p.0 < 256 ^ n)) same
    (record { parts = text; rest_fits = IsBytes-drop n bytes fits }, big_from-lt 0 n bytes fits)

pub number_again : (n x : ℕ) (rest : Bytes) → x < 256 ^ n → number_in n (big_bytes n x ++ rest) ≡ Some (x, rest)
number_again n x rest lt =
    let len = length-bytes_high_first n x in
    let long : ltb (length (big_bytes n x ++ rest)) n ≡ false = le-ltb _ _ (omega (arith, length-append (big_bytes n x) rest)) in
    rw (long, drop_at (big_bytes n x) rest n len, big_number-reads_back n x rest lt) refl

-- ---- bytes

IsBytes-rest : (b : ℕ) (bytes : Bytes) → IsBytes (b ∷ bytes) → IsBytes bytes
IsBytes-rest b bytes h i = h (suc i)

pub byte_takes : (bytes : Bytes) (x : ℕ × Bytes) → IsBytes bytes → byte_in bytes ≡ Some x → Takes bytes (x.0 ∷ []) x.1 × (x.0 < 256)
byte_takes [] x fits e = absurd cc
byte_takes (b ∷ rest) x fits e =
    subst (λ (p : ℕ × Bytes). Takes (b ∷ rest) (p.0 ∷ []) p.1 × (p.0 < 256)) (some_is (b, rest) x e)
    (record { parts = refl; rest_fits = IsBytes-rest b rest fits }, fits 0)

-- ---- values and replies

-- at most so many bytes
abbrev pub IsUpTo : ℕ → Bytes → Type 0
IsUpTo most b = length b ≤ most

pub value_takes : (most : ℕ) (bytes : Bytes) (x : Bytes × Bytes) → IsBytes bytes → value_in most bytes ≡ Some x → Takes bytes (value_bytes x.0) x.1 × (length x.0 ≤ most)
unfolding value_in
value_takes most bytes x fits e =
    let b = bind_some (number_in 2 bytes) (λ n. cond (ltb most n.0) None (cond (ltb (length n.1) n.0) None (Some (take n.0 n.1, drop n.0 n.1)))) x e in
    let n = b.0 in
    let t = number_takes 2 back_2 bytes n fits b.1 in
    let g = refused (ltb most n.0) (cond (ltb (length n.1) n.0) None (Some (take n.0 n.1, drop n.0 n.1))) x b.2 in
    let h = refused (ltb (length n.1) n.0) (Some (take n.0 n.1, drop n.0 n.1)) x g.1 in
    let small : n.0 ≤ most = ltb-false _ _ g.0 in
    let long : n.0 ≤ length n.1 = ltb-false _ _ h.0 in
    let same = some_is (take n.0 n.1, drop n.0 n.1) x h.1 in
    let len : length (take n.0 n.1) ≡ n.0 = omega (arith, length-take n.0 n.1) in
    let second : Takes n.1 (take n.0 n.1) (drop n.0 n.1) = record { parts = sym (take-append-drop n.0 n.1); rest_fits = IsBytes-drop n.0 n.1 t.0.rest_fits } in
    let both = Takes-then bytes (big_bytes 2 n.0) n.1 (take n.0 n.1) (drop n.0 n.1) t.0 second in
    let whole : Takes bytes (value_bytes (take n.0 n.1)) (drop n.0 n.1) = subst (λ (k : ℕ). Takes bytes (big_bytes 2 k ++ take n.0 n.1) (drop n.0 n.1)) (sym len) both in
    subst (λ (p : Bytes × Bytes). Takes bytes (value_bytes p.0) p.1 × (length p.0 ≤ most)) same (whole, omega arith)

pub value_again : (most : ℕ) (v rest : Bytes) → most < 65536 → length v ≤ most → value_in most (value_bytes v ++ rest) ≡ Some (v, rest)
unfolding value_in
value_again most v rest wide fits =
    let small : ltb most (length v) ≡ false = le-ltb _ _ fits in
    let long : ltb (length (v ++ rest)) (length v) ≡ false = le-ltb _ _ (omega (arith, length-append v rest)) in
    rw (number_again 2 (length v) (v ++ rest) (omega arith), small, long, take_at v rest (length v) refl, drop_at v rest (length v) refl) refl

abbrev pub IsCellUpTo : ℕ → Cell → Type 0
IsCellUpTo most None = Unit {0}
IsCellUpTo most (Some b) = IsUpTo most b

pub reply_takes : (most : ℕ) (bytes : Bytes) (x : Cell × Bytes) → IsBytes bytes → reply_in most bytes ≡ Some x → Takes bytes (reply_bytes x.0) x.1 × IsCellUpTo most x.0
unfolding reply_in
reply_takes most [] x fits e = absurd cc
reply_takes most (zero ∷ rest) x fits e =
    subst (λ (p : Cell × Bytes). Takes (0 ∷ rest) (reply_bytes p.0) p.1 × IsCellUpTo most p.0) (some_is (None, rest) x e)
    (record { parts = refl; rest_fits = IsBytes-rest 0 rest fits }, tt)
reply_takes most (suc zero ∷ rest) x fits e =
    let b = bind_some (value_in most rest) (λ v. Some (Some v.0, v.1)) x e in
    let t = value_takes most rest b.0 (IsBytes-rest 1 rest fits) b.1 in
    subst (λ (p : Cell × Bytes). Takes (1 ∷ rest) (reply_bytes p.0) p.1 × IsCellUpTo most p.0) (some_is (Some b.0.0, b.0.1) x b.2)
    (record { parts = ap (λ (w : Bytes). 1 ∷ w) t.0.parts; rest_fits = t.0.rest_fits }, t.1)
reply_takes most (suc (suc b) ∷ rest) x fits e = absurd cc

pub reply_again : (most : ℕ) (o : Cell) (rest : Bytes) → most < 65536 → IsCellUpTo most o → reply_in most (reply_bytes o ++ rest) ≡ Some (o, rest)
unfolding reply_in
reply_again most None rest wide fits = refl
reply_again most (Some v) rest wide fits = rw (value_again most v rest wide fits) refl

-- ---- so many of them

pub many_takes : {X : Type 0} (one : Bytes → Read X) (spell : X → Bytes) (P : X → Type 0) →
    ((bytes : Bytes) (x : X × Bytes) → IsBytes bytes → one bytes ≡ Some x → Takes bytes (spell x.0) x.1 × P x.0) →
    (n : ℕ) (bytes : Bytes) (x : List X × Bytes) → IsBytes bytes → many one n bytes ≡ Some x →
    Takes bytes (flat_map spell x.0) x.1 × AllByRecursion P x.0 × (length x.0 ≡ n)
unfolding many
many_takes {X} one spell P takes zero bytes x fits e =
    subst (λ (p : List X × Bytes). Takes bytes (flat_map spell p.0) p.1 × AllByRecursion P p.0 × (length p.0 ≡ 0)) (some_is ([], bytes) x e)
    (record { parts = refl; rest_fits = fits }, tt, refl)
many_takes {X} one spell P takes (suc n) bytes x fits e =
    let a = bind_some (one bytes) (λ first. many one n first.1 >>= λ others. Some (first.0 ∷ others.0, others.1)) x e in
    let b = bind_some (many one n a.0.1) (λ others. Some (a.0.0 ∷ others.0, others.1)) x a.2 in
    let t = takes bytes a.0 fits a.1 in
    let u = many_takes one spell P takes n a.0.1 b.0 t.0.rest_fits b.1 in
    let both = Takes-then bytes (spell a.0.0) a.0.1 (flat_map spell b.0.0) b.0.1 t.0 u.0 in
    let text : Takes bytes (flat_map spell (a.0.0 ∷ b.0.0)) b.0.1 = rw flat_map-cons both in
    let made : List X × Bytes = (a.0.0 ∷ b.0.0, b.0.1) in
    subst (λ (p : List X × Bytes). Takes bytes (flat_map spell p.0) p.1 × AllByRecursion P p.0 × (length p.0 ≡ suc n)) (some_is made x b.2)
    (text, (t.1, u.1), ap suc u.2)

pub many_again : {X : Type 0} (one : Bytes → Read X) (spell : X → Bytes) (P : X → Type 0) →
    ((x : X) (rest : Bytes) → P x → one (spell x ++ rest) ≡ Some (x, rest)) →
    (xs : List X) (rest : Bytes) → AllByRecursion P xs → many one (length xs) (flat_map spell xs ++ rest) ≡ Some (xs, rest)
unfolding many
many_again one spell P again [] rest fits = refl
many_again one spell P again (x ∷ xs) rest fits =
    let text : flat_map spell (x ∷ xs) ++ rest ≡ spell x ++ (flat_map spell xs ++ rest) = rw flat_map-cons (append_assoc (spell x) (flat_map spell xs) rest) in
    let first = again x (flat_map spell xs ++ rest) fits.0 in
    rw (text, first, many_again one spell P again xs rest fits.1) refl

-- ---- phases

pub phase_takes : (b : ℕ) (p : Phase) → phase_in b ≡ Some p → phase_code p ≡ b
phase_takes zero p e = ap phase_code (sym (some_is Rest p e))
phase_takes (suc zero) p e = ap phase_code (sym (some_is Prepare p e))
phase_takes (suc (suc zero)) p e = ap phase_code (sym (some_is Resolve p e))
phase_takes (suc (suc (suc zero))) p e = ap phase_code (sym (some_is Capture p e))
phase_takes (suc (suc (suc (suc zero)))) p e = ap phase_code (sym (some_is Complete p e))
phase_takes (suc (suc (suc (suc (suc n))))) p e = absurd cc

pub phase_again : (p : Phase) → phase_in (phase_code p) ≡ Some p
phase_again Rest = refl
phase_again Prepare = refl
phase_again Resolve = refl
phase_again Capture = refl
phase_again Complete = refl

-- nothing is left
pub nothing_left : {A : Type 0} (rest : Bytes) (x y : A) → cond (eqb (length rest) 0) (Some x) None ≡ Some y → (rest ≡ []) × (x ≡ y)
nothing_left rest x y e =
    let g = ended (eqb (length rest) 0) x y e in
    (nil_from_length rest (eqb-true _ _ g.0), g.1)
