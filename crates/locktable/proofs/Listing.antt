-- The list of the keys that a session holds, after one of its locks changes.
use Rattle.std.proofs.Common.{◌≡◌, ℕ, zero, suc, ◌<◌, ◌≤◌, ◌-◌, arith, drop, get_or, length, inl, inr, Bool, true, false, ◌||◌, cond, List, [], ◌∷◌, ◌++◌, Option, Some, None, is_some, refl, sym, ap, ◌∙◌, subst, nat_eq}
use Rattle.std.proofs.lemmas.List.Folds.{list_any-append, list_any_at}
use Rattle.std.proofs.lemmas.List.Sorted.{IsPermutation-append_comm, IsPermutation-swap_remove, list_any-IsPermutation}
use Rattle.std.proofs.lemmas.Map.Keys.{IsDistinct-head, IsDistinct-tail, IsDistinct-push, IsDistinct-IsPermutation}
use Rattle.std.specs.Cmp.{IsEquivalence, eq_by_cmp_equiv}
use Rattle.std.specs.Cmp.Lexicographic.{nat_list_cmp_total}
use Rattle.std.specs.Cmp.Lexicographic.{pointwise}
use Rattle.std.specs.List.{AllByRecursion, IsDistinct, list_any, swap_remove}
use Rattle.std.specs.List.Sorted.{IsPermutation}
use Rattle.procedure.specs.Bytes.{Bytes, same}
use Rattle.procedure.proofs.Base.{keys, same_keys, same_pointwise, same_refl}
use Rattle.locktable.specs.Modes.{Mode}
use Rattle.locktable.specs.Tables.{with_key}

laws : IsEquivalence same
unfolding same
laws = eq_by_cmp_equiv nat_list_cmp_total

-- a key that stays in the list, or out of it
pub kept_listed : (own : List Bytes) (k : Bytes) (there : Bool) → list_any (same k) own ≡ there → (q : Bytes) → list_any (same q) own ≡ cond (same q k) there (list_any (same q) own)
kept_listed own k there e q =
    elim (keys q k) [
      | inl one ↦ ap (λ x. list_any (same x) own) one ∙ e ∙ ap (λ b. cond b there (list_any (same q) own)) (sym (ap (same q) (sym one) ∙ same_refl q))
      | inr other ↦ ap (λ b. cond b there (list_any (same q) own)) (sym other)
    ]

-- a key that comes into the list
pub granted_listed : (own : List Bytes) (k : Bytes) (held : Option Mode) → list_any (same k) own ≡ is_some held →
    (q : Bytes) → list_any (same q) (with_key own k held) ≡ cond (same q k) true (list_any (same q) own)
granted_listed own k None e q = list_any-append (same q) own (k ∷ []) ∙ last (list_any (same q) own) (same q k)
  where
    last : (a b : Bool) → (a || (b || false)) ≡ cond b true a
    last true true = refl
    last true false = refl
    last false true = refl
    last false false = refl
granted_listed own k (Some mode) e q = kept_listed own k true e q

pub granted_once : (own : List Bytes) (k : Bytes) (held : Option Mode) → list_any (same k) own ≡ is_some held → IsDistinct same own → IsDistinct same (with_key own k held)
granted_once own k None e once = IsDistinct-push laws own k once e
granted_once own k (Some mode) e once = once

absent : (k : Bytes) (own : List Bytes) → AllByRecursion (λ y. same k y ≡ false) own → list_any (same k) own ≡ false
absent k [] apart = refl
absent k (x ∷ own) apart = ap (λ b. b || list_any (same k) own) apart.0 ∙ absent k own apart.1

-- a key that goes out of the list
module _ (own rest : List Bytes) (k : Bytes) (moved : IsPermutation own (k ∷ rest)) (once : IsDistinct same own) where
  apart : IsDistinct same (k ∷ rest)
  apart = IsDistinct-IsPermutation same laws.symm own (k ∷ rest) moved once

  pub released_once : IsDistinct same rest
  released_once = IsDistinct-tail same k rest apart

  pub released_listed : (q : Bytes) → list_any (same q) rest ≡ cond (same q k) false (list_any (same q) own)
  released_listed q =
      elim (keys q k) [
        | inl one ↦ ap (λ x. list_any (same x) rest) one ∙ absent k rest (IsDistinct-head same k rest apart) ∙
            ap (λ b. cond b false (list_any (same q) own)) (sym (ap (same q) (sym one) ∙ same_refl q))
        | inr other ↦ sym (list_any-IsPermutation (same q) own (k ∷ rest) moved ∙ ap (λ b. b || list_any (same q) rest) other) ∙
            ap (λ b. cond b false (list_any (same q) own)) (sym other)
      ]

-- the last key goes
pub last_moved : (own rest : List Bytes) (k : Bytes) → own ≡ rest ++ k ∷ [] → IsPermutation own (k ∷ rest)
last_moved own rest k e = subst (λ l. IsPermutation l (k ∷ rest)) (sym e) (IsPermutation-append_comm rest (k ∷ []))

pub last_listed : (own rest : List Bytes) (k : Bytes) → own ≡ rest ++ k ∷ [] → list_any (same k) own ≡ true
last_listed own rest k e = ap (list_any (same k)) e ∙ list_any-append (same k) rest (k ∷ []) ∙ ap (λ b. list_any (same k) rest || (b || false)) (same_refl k) ∙ last (list_any (same k) rest)
  where
    last : (a : Bool) → (a || true) ≡ true
    last true = refl
    last false = refl

-- the place before an index
module _ (n index : ℕ) (within : index ≤ n) (some : 0 < index) where
  pub before : index - 1 < n
  before = omega arith

  pub before_len : (len : ℕ) → len ≡ n → index - 1 < len
  before_len len e = omega arith

  pub still_within : index - 1 ≤ n
  still_within = omega arith

  pub after_before : index ≡ suc (index - 1)
  after_before = omega arith

-- the key at a place of the list
pub drop_next : {X : Type 0} (xs : List X) (i : ℕ) (x : X) → i < length xs → x ≡ get_or xs i x → drop i xs ≡ x ∷ drop (suc i) xs
drop_next [] i x h e = absurd (omega arith)
drop_next (y ∷ ys) zero x h e = ap (λ z. z ∷ ys) (sym e)
drop_next (y ∷ ys) (suc i) x h e = drop_next ys i x (omega arith) e

same_at : {X : Type 0} (xs : List X) (i : ℕ) (a b : X) → i < length xs → get_or xs i a ≡ get_or xs i b
same_at [] i a b h = absurd (omega arith)
same_at (y ∷ ys) zero a b h = refl
same_at (y ∷ ys) (suc i) a b h = same_at ys i a b (omega arith)

module _ (own : List Bytes) (k : Bytes) (i : ℕ) (within : i < length own) (x : Bytes) (at : x ≡ get_or own i x) where
  pub not_from : list_any (same k) (drop (suc i) own) ≡ false → pointwise nat_eq x k ≡ false → list_any (same k) (drop i own) ≡ false
  not_from rest other =
      ap (list_any (same k)) (drop_next own i x within at)
      ∙ ap (λ b. b || list_any (same k) (drop (suc i) own)) (laws.symm k x ∙ sym (same_pointwise x k) ∙ other)
      ∙ rest

  found : pointwise nat_eq x k ≡ true → x ≡ k
  found e = same_keys x k (sym (same_pointwise x k) ∙ e)

  pub found_there : pointwise nat_eq x k ≡ true → (y : Bytes) → y ≡ get_or own i y → IsPermutation own (k ∷ swap_remove own i y)
  found_there e y there =
      let one : y ≡ k = there ∙ same_at own i y x within ∙ sym at ∙ found e in
      subst (λ z. IsPermutation own (z ∷ swap_remove own i y)) one (IsPermutation-swap_remove own i y within there)

  pub found_listed : pointwise nat_eq x k ≡ true → list_any (same k) own ≡ true
  found_listed e = list_any_at (same k) own i x within (ap (same k) (sym at ∙ found e) ∙ same_refl k)
