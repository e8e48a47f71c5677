-- The lists of keys of a lock table, after one of them changes.
use Rattle.std.proofs.Common.{◌≡◌, ℕ, ◌+◌, ◌<◌, Bool, true, false, cond, List, [], ◌∷◌, ◌++◌, length, Option, Some, None, is_some, refl, sym, ap, ◌∙◌, subst, get_or, slice_set, replicate, IsSome, Ok, Err, OnErr, OnOk, arith, IfNone, true≢false}
use Rattle.std.proofs.lemmas.List.{get_or-map, map-set, map-append, set-get_or, replicate_more, length-map}
use Rattle.std.specs.FinMap.{get, empty}
use Rattle.std.specs.List.{IsDistinct, list_any}
use Rattle.std.specs.List.Sorted.{IsPermutation}
use Rattle.std.specs.declared.result.Result.{Result}
use Rattle.std.specs.declared.vec.Vec.{Vec}
use Rattle.procedure.specs.Bytes.{Bytes, same}
use Rattle.procedure.specs.Table.{KeyMap}
use Rattle.locktable.specs.declared.holders.Holders.{Holders}
use Rattle.locktable.specs.Modes.{Mode, IsAtMost}
use Rattle.locktable.specs.Locks.{locks_of, mode_of, with_lock}
use Rattle.locktable.specs.Holders.{mode_among}
use Rattle.locktable.specs.Tables.{IsSound, SetsMode, keys_in, locks_in, with_key}
use Rattle.locktable.proofs.Listing.{granted_listed, granted_once, kept_listed, released_listed, released_once}
use Rattle.locktable.proofs.Tables.{locks_after, nothing_of, sound_after, tells}

pub one_more : {A : Type 0} (held : List (Vec Bytes A)) (own : Vec Bytes A) (n : ℕ) → keys_in held ≡ replicate n [] → own.items ≡ [] → keys_in (held ++ own ∷ []) ≡ replicate (n + 1) []
one_more {A} held own n before none =
    map-append (λ (v : Vec Bytes A). v.items) held (own ∷ [])
    ∙ (λ i. before i ++ none i ∷ [])
    ∙ replicate_more n []

no_items : {X : Type 0} (xs : List X) → length xs ≡ 0 → xs ≡ []
no_items [] e = refl
no_items (x ∷ xs) e = absurd (omega (arith, e))

-- the place of a session
module _ {A : Type 0} (holders : KeyMap Holders) (held : List (Vec Bytes A)) (sound : IsSound holders (keys_in held)) (s : ℕ) (within : s < 64) (own : Vec Bytes A) (own_is : own ≡ get_or held s own) where
  there : s < length held
  there = subst (λ n. s < n) (sym (sym (length-map held (λ (v : Vec Bytes A). v.items)) ∙ sound.sessions)) within

  own_keys : own.items ≡ get_or (keys_in held) s []
  own_keys = ap (λ (v : Vec Bytes A). v.items) own_is ∙ sym (get_or-map (λ (v : Vec Bytes A). v.items) held s own [] there)

  own_listed : (q : Bytes) → list_any (same q) own.items ≡ is_some (mode_among (get holders q) s)
  own_listed q = ap (list_any (same q)) own_keys ∙ sound.listed q s

  own_once : IsDistinct same own.items
  own_once = subst (IsDistinct same) (sym own_keys) (sound.once s)

  pub held_if_listed : (q : Bytes) → list_any (same q) own.items ≡ true → IsSome (mode_of (locks_in holders (keys_in held)) s q)
  held_if_listed q e = ap is_some (tells holders (keys_in held) sound s q) ∙ sym (own_listed q) ∙ e

  pub nothing_left : own.len ≡ 0 → locks_of (locks_in holders (keys_in held)) s ≡ empty
  nothing_left e = nothing_of holders (keys_in held) s (sym own_keys ∙ no_items own.items (sym own.ok.0 ∙ e))

  module _ (new : Vec Bytes A) where
    new_keys : keys_in (slice_set held s new) ≡ slice_set (keys_in held) s new.items
    new_keys = map-set (λ (v : Vec Bytes A). v.items) held s new

    pub same_keys_in : new.items ≡ own.items → keys_in (slice_set held s new) ≡ keys_in held
    same_keys_in e = new_keys ∙ ap (slice_set (keys_in held) s) (e ∙ own_keys) ∙ set-get_or (keys_in held) s []

    -- a session's lock changes
    module _ (after : KeyMap Holders) (k : Bytes) (mode : Option Mode) (sets : SetsMode holders after s k mode) where
      changed : ((q : Bytes) → list_any (same q) new.items ≡ cond (same q k) (is_some mode) (list_any (same q) own.items)) → IsDistinct same new.items → IsSound after (keys_in (slice_set held s new))
      changed listed once =
          subst (IsSound after) (sym new_keys)
          (sound_after holders (keys_in held) sound after s k mode within sets new.items
          (λ q. listed q ∙ ap (λ ks. cond (same q k) (is_some mode) (list_any (same q) ks)) own_keys) once)

      pub locks_changed : IsSound after (keys_in (slice_set held s new)) → locks_in after (keys_in (slice_set held s new)) ≡ with_lock (locks_in holders (keys_in held)) s k mode
      locks_changed new_sound = locks_after holders (keys_in held) sound after s k mode within sets _ new_sound

    pub released_sound : (after : KeyMap Holders) (k : Bytes) → SetsMode holders after s k None → IsPermutation own.items (k ∷ new.items) → IsSound after (keys_in (slice_set held s new))
    released_sound after k sets moved =
        changed after k None sets (released_listed own.items new.items k moved own_once) (released_once own.items new.items k moved own_once)

    -- the list stays, since the key is in it or not, as before
    pub kept_sound : (after : KeyMap Holders) (k : Bytes) (mode : Option Mode) → SetsMode holders after s k mode → list_any (same k) own.items ≡ is_some mode → new.items ≡ own.items → IsSound after (keys_in (slice_set held s new))
    kept_sound after k mode sets listed e =
        changed after k mode sets (λ q. ap (list_any (same q)) e ∙ kept_listed own.items k (is_some mode) listed q) (subst (IsDistinct same) (sym e) own_once)

    granted_sound : (after : KeyMap Holders) (k : Bytes) (mode : Mode) → SetsMode holders after s k (Some mode) → new.items ≡ with_key own.items k (mode_among (get holders k) s) → IsSound after (keys_in (slice_set held s new))
    granted_sound after k mode sets e =
        changed after k (Some mode) sets
        (λ q. ap (list_any (same q)) e ∙ granted_listed own.items k (mode_among (get holders k) s) (own_listed k) q)
        (subst (IsDistinct same) (sym e) (granted_once own.items k (mode_among (get holders k) s) (own_listed k) own_once))

    -- a request
    module _ (after : KeyMap Holders) (k : Bytes) (mode : Mode) where
      pub asked_sound : {T E : Type 0} (r : Result T E) → OnOk r (SetsMode holders after s k (Some mode)) → OnOk r (new.items ≡ with_key own.items k (mode_among (get holders k) s)) →
          OnErr r (after ≡ holders) → OnErr r (new.items ≡ own.items) → IsSound after (keys_in (slice_set held s new))
      asked_sound (Ok x) sets listed same_holders same_own = granted_sound after k mode sets listed
      asked_sound (Err y) sets listed same_holders same_own =
          subst (IsSound after) (sym (same_keys_in same_own)) (subst (λ h. IsSound h (keys_in held)) (sym same_holders) sound)

      pub asked_locks : {T E : Type 0} (r : Result T E) → OnOk r (SetsMode holders after s k (Some mode)) → OnOk r (new.items ≡ with_key own.items k (mode_among (get holders k) s)) →
          OnOk r (locks_in after (keys_in (slice_set held s new)) ≡ with_lock (locks_in holders (keys_in held)) s k (Some mode))
      asked_locks (Ok x) sets listed = locks_changed after k (Some mode) sets (granted_sound after k mode sets listed)
      asked_locks (Err y) sets listed = tt

    pub refused_locks : (after : KeyMap Holders) {T E : Type 0} (r : Result T E) → OnErr r (after ≡ holders) → OnErr r (new.items ≡ own.items) →
        OnErr r (locks_in after (keys_in (slice_set held s new)) ≡ locks_in holders (keys_in held))
    refused_locks after (Ok x) same_holders same_own = tt
    refused_locks after (Err y) same_holders same_own = (λ i. locks_in (same_holders i) (same_keys_in same_own i))

    -- a lock that was given back whole
    pub given_back : (after : KeyMap Holders) (k : Bytes) (mode : Option Mode) → SetsMode holders after s k mode → is_some mode ≡ false →
        (list_any (same k) own.items ≡ true → IsPermutation own.items (k ∷ new.items)) → (list_any (same k) own.items ≡ false → new.items ≡ own.items) → IsSound after (keys_in (slice_set held s new))
    given_back after k (Some mode) sets none there absent = absurd (true≢false none)
    given_back after k None sets none there absent = by (list_any (same k) own.items) refl
      where
        by : (b : Bool) → list_any (same k) own.items ≡ b → IsSound after (keys_in (slice_set held s new))
        by true e = released_sound after k sets (there e)
        by false e = kept_sound after k None sets e (absent e)

listed_at_most : (mode : Mode) (held : Option Mode) → IsAtMost (Some mode) held → is_some held ≡ true
listed_at_most mode None h = absurd h
listed_at_most mode (Some m) h = refl

-- a lock that was given back in part: no list changes
module _ (holders : KeyMap Holders) (held : List (List Bytes)) (sound : IsSound holders held) (s : ℕ) (within : s < 64) (after : KeyMap Holders) (k : Bytes) where
  pub kept_in_place : (mode : Option Mode) → SetsMode holders after s k mode → is_some mode ≡ true → IsAtMost mode (mode_among (get holders k) s) → IsSound after held
  kept_in_place None sets some weaker = absurd (true≢false (sym some))
  kept_in_place (Some mode) sets some weaker =
      subst (IsSound after) (set-get_or held s [])
      (sound_after holders held sound after s k (Some mode) within sets (get_or held s [])
      (kept_listed (get_or held s []) k true (sound.listed k s ∙ listed_at_most mode (mode_among (get holders k) s) weaker)) (sound.once s))

pub if_none : {X P : Type 0} (o : Option X) → P → IfNone o P
if_none None p = p
if_none (Some x) p = tt
