-- What a hash map by key has after a change.
use Rattle.std.proofs.Common.{◌≡◌, inl, inr, false, cond, List, Option, Some, None, sym, ap, ◌∙◌, nat_eq, subst, IfSome}
use Rattle.std.proofs.lemmas.Map.Made.{lookup_key_passes}
use Rattle.std.specs.Cmp.Lexicographic.{pointwise, nat_list_cmp_total}
use Rattle.std.specs.FinMap.{get, get-insert, get-remove}
use Rattle.std.specs.Map.{lookup_key}
use Rattle.procedure.specs.Bytes.{Bytes, same}
use Rattle.procedure.specs.Table.{KeyMap}
use Rattle.procedure.proofs.Base.{keys, same_keys, same_pointwise, same_refl}
use Rattle.procedure.proofs.Maps.{at_key, map_of, map_of-insert, map_of-remove, same_key_map}
use Rattle.locktable.specs.Locks.{with_entry}

-- the key that a hash map keeps is the one that was looked up
pub stored_key : {X : Type 0} (es : List (Bytes × X)) (q k : Bytes) → lookup_key (pointwise nat_eq q) es ≡ Some k → q ≡ k
stored_key es q k e = same_keys q k (sym (same_pointwise q k) ∙ lookup_key_passes (pointwise nat_eq q) es k e)

pub get-with_entry : {X : Type 0} (m : KeyMap X) (k : Bytes) (v : Option X) (q : Bytes) → get (with_entry m k v) q ≡ cond (same q k) v (get m q)
unfolding same
get-with_entry m k None q = get-remove nat_list_cmp_total m k q
get-with_entry m k (Some v) q = get-insert nat_list_cmp_total m k v q

-- a key that changes, and another
pub get-with_entry_same : {X : Type 0} (m : KeyMap X) (k : Bytes) (v : Option X) → get (with_entry m k v) k ≡ v
get-with_entry_same m k v = get-with_entry m k v k ∙ ap (λ b. cond b v (get m k)) (same_refl k)

pub get-with_entry_other : {X : Type 0} (m : KeyMap X) (k : Bytes) (v : Option X) (q : Bytes) → same q k ≡ false → get (with_entry m k v) q ≡ get m q
get-with_entry_other m k v q f = get-with_entry m k v q ∙ ap (λ b. cond b v (get m q)) f

-- what a key has already changes nothing
pub with_entry_same : {X : Type 0} (m : KeyMap X) (k : Bytes) → with_entry m k (get m k) ≡ m
with_entry_same m k =
    same_key_map _ _ (λ q. elim (keys q k) [
      | inl e ↦ ap (get (with_entry m k (get m k))) e ∙ get-with_entry_same m k (get m k) ∙ ap (get m) (sym e)
      | inr f ↦ get-with_entry_other m k (get m k) q f
    ])

-- an insert or a removal in the one is that in the other
pub index-with_entry : {X : Type 0} (es fs : List (Bytes × X)) (k : Bytes) (v : Option X) → ((q : Bytes) → at_key fs q ≡ cond (pointwise nat_eq k q) v (at_key es q)) →
    map_of fs ≡ with_entry (map_of es) k v
index-with_entry es fs k None h = map_of-remove es fs k h
index-with_entry es fs k (Some v) h = map_of-insert es fs k v h

pub at_some : {X : Type 0} (o : Option X) (P : X → Type 0) → IfSome o P → (x : X) → o ≡ Some x → P x
at_some None P h x e = absurd cc
at_some (Some y) P h x e = let one : y ≡ x = cc in subst P one h
