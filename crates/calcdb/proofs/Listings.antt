-- Names in a list, beside the map that has them.
use Rattle.std.proofs.Common.{◌≡◌, ◌∙◌, Bool, true, false, cond, ℕ, List, Option, Some, None, is_some, Ordering, Less, Equal, Greater, nat_cmp, is_eq, refl, sym, ap}
use Rattle.std.specs.Cmp.{tied_itself}
use Rattle.std.specs.Cmp.Lexicographic.{slice_cmp, nat_list_cmp_total}
use Rattle.std.specs.FinMap as map
use Rattle.std.specs.List.{All}
use Rattle.std.specs.Ordering.{eq_by_cmp}
use Rattle.std.proofs.lemmas.List.Elements.{All-weaker}
use Rattle.procedure.specs.Bytes.{Bytes}
use Rattle.calcdb.specs.Commands.{Names, is_name}
use Rattle.calcdb.specs.inside.Listings.{IsListed}

abbrev by_bytes : Bytes → Bytes → Ordering
by_bytes = slice_cmp nat_cmp

alike : (o : Ordering) → is_eq o ≡ true → o ≡ Equal
alike Less h = absurd (cc)
alike Equal h = refl
alike Greater h = absurd (cc)

same_name : (x y : Bytes) → eq_by_cmp by_bytes x y ≡ true → x ≡ y
same_name x y h = map.slice_cmp-IsAntisymmetric map.nat_cmp-IsAntisymmetric x y (alike (by_bytes x y) h)

pub absent : (o : Option ℕ) → false ≡ is_some o → o ≡ None
absent None h = refl
absent (Some n) h = absurd (cc)

other : (m : Names) (k q : Bytes) (v n : ℕ) (b : Bool) → eq_by_cmp by_bytes q k ≡ b → map.get m k ≡ None → map.get m q ≡ Some n → cond b (Some v) (map.get m q) ≡ Some n
other m k q v n true e new is = let gone : map.get m q ≡ None = ap (λ (x : Bytes). map.get m x) (same_name q k e) ∙ new in absurd (cc)
other m k q v n false e new is = is

-- a new name changes no other's procedure
new_kept : (m : Names) (k : Bytes) (v : ℕ) → map.get m k ≡ None → (e : Bytes × ℕ) → IsListed m e → IsListed (map.insert m k v) e
new_kept m k v new e is = (is.0, map.get-insert nat_list_cmp_total m k v e.0 ∙ other m k e.0 v e.1 (eq_by_cmp by_bytes e.0 k) refl new is.1)

pub all_kept : (m : Names) (k : Bytes) (v : ℕ) → map.get m k ≡ None → (l : List (Bytes × ℕ)) → All (IsListed m) l → All (IsListed (map.insert m k v)) l
all_kept m k v new l all = All-weaker (IsListed m) (IsListed (map.insert m k v)) (new_kept m k v new) l all

pub new_listed : (m : Names) (k : Bytes) (v : ℕ) → is_name k ≡ true → IsListed (map.insert m k v) (k, v)
new_listed m k v named = (named, map.get-insert nat_list_cmp_total m k v k ∙ ap (λ (b : Bool). cond b (Some v) (map.get m k)) (ap is_eq (tied_itself nat_list_cmp_total k)))
