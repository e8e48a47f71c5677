-- Reading so many values one after the other, as a loop does.
use Rattle.std.proofs.Common.{◌≡◌, ℕ, suc, ◌-◌, ◌+◌, ◌≤◌, ◌<◌, List, [], ◌∷◌, ◌++◌, Some, None, refl, sym, ap, ◌∙◌, append_assoc, arith}
use Rattle.std.proofs.lemmas.List.{append-nil}
use Rattle.procedure.specs.Bytes.{Bytes}
use Rattle.commitlog.specs.declared.bodies.BodyError.{BodyError}
use Rattle.commitlog.specs.declared.bodies.BodyError.TheVariants as errors
use Rattle.commitlog.specs.BodyReading.{Read, ◌>>=◌, Fails, many}

-- what was read before, and what is still read
abbrev pub with_front : {X : Type 0} → List X → Read (List X) → Read (List X)
with_front front read = read >>= λ x. Some (front ++ x.0, x.1)

regroup : {X : Type 0} (front : List X) (x : X) (read : Read (List X)) → with_front front (read >>= λ r. Some (x ∷ r.0, r.1)) ≡ with_front (front ++ x ∷ []) read
regroup {X} front x (Some r) = ap (λ (xs : List X). Some (xs, r.1)) (simp append_assoc)
regroup front x None = refl

pub goes_on : {X : Type 0} (one : Bytes → Read X) (front : List X) (count i : ℕ) (bytes : Bytes) (x : X) (after : Bytes) (total : Read (List X)) →
    i < count → one bytes ≡ Some (x, after) → with_front front (many one (count - i) bytes) ≡ total → with_front (front ++ x ∷ []) (many one (count - (i + 1)) after) ≡ total
unfolding many
goes_on one front count i bytes x after total lt h so_far =
    let k : count - i ≡ suc (count - (i + 1)) = omega arith in
    let step : with_front front (many one (count - i) bytes) ≡ with_front (front ++ x ∷ []) (many one (count - (i + 1)) after) = rw (k, h) (regroup front x (many one (count - (i + 1)) after)) in
    sym step ∙ so_far

pub ends : {X : Type 0} (e : BodyError) (one : Bytes → Read X) (front : List X) (count i : ℕ) (bytes : Bytes) (total : Read (List X)) →
    i < count → Fails e (one bytes) → with_front front (many one (count - i) bytes) ≡ total → Fails e total
unfolding many
ends errors.NoMemory one front count i bytes total lt h so_far = tt
ends errors.Malformed one front count i bytes total lt h so_far =
    let k : count - i ≡ suc (count - (i + 1)) = omega arith in
    let step : with_front front (many one (count - i) bytes) ≡ None = rw (k, h) refl in
    sym so_far ∙ step

pub is_done : {X : Type 0} (one : Bytes → Read X) (front : List X) (count i : ℕ) (bytes : Bytes) (total : Read (List X)) →
    count ≤ i → with_front front (many one (count - i) bytes) ≡ total → total ≡ Some (front, bytes)
unfolding many
is_done {X} one front count i bytes total le so_far =
    let k : count - i ≡ 0 = omega arith in
    let step : with_front front (many one (count - i) bytes) ≡ Some (front, bytes) = rw k (ap (λ (xs : List X). Some (xs, bytes)) (append-nil front)) in
    sym so_far ∙ step
