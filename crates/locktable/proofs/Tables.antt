-- The holders of each key, the keys that each session holds, and the locks for which they stand.
use Rattle.std.proofs.Common.{◌≡◌, ◌≢◌, ℕ, zero, suc, ◌+◌, ◌<◌, inl, inr, Bool, true, false, ◌||◌, cond, List, [], ◌∷◌, length, Option, Some, None, is_some, refl, sym, ap, ◌∙◌, subst, eqb, eq-eqb, get_or, slice_set, replicate, ◌↔◌, arith}
use Rattle.std.proofs.lemmas.Bool.Decides.{eqb_tells}
use Rattle.std.proofs.lemmas.List.{ext_get_or, get_or-set_same, get_or-set_other, length-set, length-replicate}
use Rattle.std.specs.FinMap.{get, empty, get-empty}
use Rattle.std.specs.List.{IsDistinct, list_any}
use Rattle.procedure.specs.Bytes.{Bytes, same}
use Rattle.procedure.specs.Table.{KeyMap}
use Rattle.procedure.proofs.Base.{keys, same_keys}
use Rattle.procedure.proofs.Maps.{by_bytes, same_key_map}
use Rattle.locktable.specs.declared.holders.Holders.{Holders}
use Rattle.locktable.specs.declared.holders.Holders.TheVariants.{Readers, Writer}
use Rattle.locktable.specs.Modes.{Mode, Shared, Exclusive}
use Rattle.locktable.specs.Locks.{Conflicts, IsConsistent, IsFree, Locks, locks_of, mode_of, with_entry, with_lock}
use Rattle.locktable.specs.Holders.{mode_in, mode_among, Refuses}
use Rattle.locktable.specs.Tables.{IsSound, SetsMode, locks_from, locks_in, modes_among}
use Rattle.locktable.proofs.Lookups.{get-with_entry}
use Rattle.locktable.proofs.Setting.{moved}

pub mode_of-set : (locks : Locks) (s : ℕ) (m : KeyMap Mode) (r : ℕ) (q : Bytes) → s < length locks → mode_of (slice_set locks s m) r q ≡ cond (eqb r s) (get m q) (mode_of locks r q)
mode_of-set locks s m r q h =
    elim (eqb_tells r s) [
      | inl e ↦ ap (λ n. get (get_or (slice_set locks s m) n empty) q) e.1 ∙ ap (λ (own : KeyMap Mode). get own q) (get_or-set_same locks s m empty h) ∙
          ap (λ b. cond b (get m q) (mode_of locks r q)) (sym e.0)
      | inr e ↦ ap (λ (own : KeyMap Mode). get own q) (get_or-set_other locks s r m empty e.1) ∙ ap (λ b. cond b (get m q) (mode_of locks r q)) (sym e.0)
    ]

-- one lock changes
mode_of-with_lock : (locks : Locks) (s : ℕ) (k : Bytes) (mode : Option Mode) (r : ℕ) (q : Bytes) → s < length locks →
    mode_of (with_lock locks s k mode) r q ≡ cond (eqb r s) (cond (same q k) mode (mode_of locks s q)) (mode_of locks r q)
mode_of-with_lock locks s k mode r q h =
    mode_of-set locks s (with_entry (locks_of locks s) k mode) r q h ∙ ap (λ x. cond (eqb r s) x (mode_of locks r q)) (get-with_entry (locks_of locks s) k mode q)

same_locks : (a b : Locks) → length a ≡ length b → ((s : ℕ) (q : Bytes) → mode_of a s q ≡ mode_of b s q) → a ≡ b
same_locks a b len h = ext_get_or empty a b len (λ i _. same_key_map _ _ (h i))

get-modes : (holders : KeyMap Holders) (s : ℕ) (ks : List Bytes) (q : Bytes) → get (modes_among holders s ks) q ≡ cond (list_any (same q) ks) (mode_among (get holders q) s) None
get-modes holders s [] q = get-empty by_bytes q
get-modes holders s (k ∷ ks) q =
    get-with_entry (modes_among holders s ks) k (mode_among (get holders k) s) q
    ∙ ap (cond (same q k) (mode_among (get holders k) s)) (get-modes holders s ks q)
    ∙ one_or_others (same q k) (list_any (same q) ks) (mode_among (get holders k) s) (mode_among (get holders q) s) (λ e. ap (λ x. mode_among (get holders x) s) (sym (same_keys q k e)))
  where
    one_or_others : (b c : Bool) (v x : Option Mode) → (b ≡ true → v ≡ x) → cond b v (cond c x None) ≡ cond (b || c) x None
    one_or_others true c v x h = h refl
    one_or_others false c v x h = refl

locks_of-from : (holders : KeyMap Holders) (n : ℕ) (held : List (List Bytes)) (i : ℕ) → get_or (locks_from holders n held) i empty ≡ modes_among holders (n + i) (get_or held i [])
locks_of-from holders n [] i = refl
locks_of-from holders n (ks ∷ held) zero = let e : n ≡ n + 0 = omega arith in ap (λ j. modes_among holders j ks) e
locks_of-from holders n (ks ∷ held) (suc i) =
    let e : suc n + i ≡ n + suc i = omega arith in
    locks_of-from holders (suc n) held i ∙ ap (λ j. modes_among holders j (get_or held i [])) e

locks_of-in : (holders : KeyMap Holders) (held : List (List Bytes)) (s : ℕ) → locks_of (locks_in holders held) s ≡ modes_among holders s (get_or held s [])
locks_of-in holders held s = let e : 0 + s ≡ s = omega arith in locks_of-from holders 0 held s ∙ ap (λ n. modes_among holders n (get_or held s [])) e

-- of a session without keys
pub nothing_of : (holders : KeyMap Holders) (held : List (List Bytes)) (s : ℕ) → get_or held s [] ≡ [] → locks_of (locks_in holders held) s ≡ empty
nothing_of holders held s e = locks_of-in holders held s ∙ ap (modes_among holders s) e

length-locks_from : (holders : KeyMap Holders) (n : ℕ) (held : List (List Bytes)) → length (locks_from holders n held) ≡ length held
length-locks_from holders n [] = refl
length-locks_from holders n (ks ∷ held) = ap suc (length-locks_from holders (suc n) held)

pub tells : (holders : KeyMap Holders) (held : List (List Bytes)) → IsSound holders held → (s : ℕ) (q : Bytes) → mode_of (locks_in holders held) s q ≡ mode_among (get holders q) s
tells holders held sound s q =
    ap (λ (m : KeyMap Mode). get m q) (locks_of-in holders held s)
    ∙ get-modes holders s (get_or held s []) q
    ∙ ap (λ b. cond b (mode_among (get holders q) s) None) (sound.listed q s)
    ∙ itself (mode_among (get holders q) s)
  where
    itself : (o : Option Mode) → cond (is_some o) o None ≡ o
    itself None = refl
    itself (Some mode) = refl

module _ (holders : KeyMap Holders) (held : List (List Bytes)) (sound : IsSound holders held) where
  told : (s : ℕ) (q : Bytes) → mode_of (locks_in holders held) s q ≡ mode_among (get holders q) s
  told = tells holders held sound

  pub sessions : length (locks_in holders held) ≡ 64
  sessions = length-locks_from holders 0 held ∙ sound.sessions

  -- a lock changes among the holders, and with it
  module _ (after : KeyMap Holders) (s : ℕ) (k : Bytes) (mode : Option Mode) (within : s < 64) (sets : SetsMode holders after s k mode) where
    -- the locks
    pub locks_after : (lists : List (List Bytes)) → IsSound after lists → locks_in after lists ≡ with_lock (locks_in holders held) s k mode
    locks_after lists new =
        same_locks _ _
        (length-locks_from after 0 lists ∙ new.sessions ∙ sym (length-set (locks_in holders held) s _ ∙ sessions))
        (λ r q.
        tells after lists new r q
        ∙ moved holders after s k mode sets r q
        ∙ sym (mode_of-with_lock (locks_in holders held) s k mode r q (subst (λ n. s < n) (sym sessions) within) ∙ (λ i. cond (eqb r s) (cond (same q k) mode (told s q i)) (told r q i))))

    -- the session's keys
    module _ (own : List Bytes)
        (listed : (q : Bytes) → list_any (same q) own ≡ cond (same q k) (is_some mode) (list_any (same q) (get_or held s [])))
        (once : IsDistinct same own) where
      there : s < length held
      there = subst (λ n. s < n) (sym sound.sessions) within

      is_some-cond : (b : Bool) (x y : Option Mode) → cond b (is_some x) (is_some y) ≡ is_some (cond b x y)
      is_some-cond true x y = refl
      is_some-cond false x y = refl

      listed_here : (q : Bytes) → list_any (same q) (get_or (slice_set held s own) s []) ≡ is_some (mode_among (get after q) s)
      listed_here q =
          ap (list_any (same q)) (get_or-set_same held s own [] there)
          ∙ listed q
          ∙ ap (cond (same q k) (is_some mode)) (sound.listed q s)
          ∙ is_some-cond (same q k) mode (mode_among (get holders q) s)
          ∙ ap is_some (sym (moved holders after s k mode sets s q ∙ ap (λ b. cond b (cond (same q k) mode (mode_among (get holders q) s)) (mode_among (get holders q) s)) (eq-eqb s s refl)))

      listed_there : (q : Bytes) (r : ℕ) → eqb r s ≡ false → r ≢ s → list_any (same q) (get_or (slice_set held s own) r []) ≡ is_some (mode_among (get after q) r)
      listed_there q r e ne =
          ap (list_any (same q)) (get_or-set_other held s r own [] ne)
          ∙ sound.listed q r
          ∙ ap is_some (sym (moved holders after s k mode sets r q ∙ ap (λ b. cond b (cond (same q k) mode (mode_among (get holders q) s)) (mode_among (get holders q) r)) e))

      pub sound_after : IsSound after (slice_set held s own)
      sound_after = record {
        sessions = length-set held s own ∙ sound.sessions;
        listed = λ q r. elim (eqb_tells r s) [
          | inl e ↦ subst (λ n. list_any (same q) (get_or (slice_set held s own) n []) ≡ is_some (mode_among (get after q) n)) (sym e.1) (listed_here q)
          | inr e ↦ listed_there q r e.0 e.1
        ];
        once = λ r. elim (eqb_tells r s) [
          | inl e ↦ subst (λ n. IsDistinct same (get_or (slice_set held s own) n [])) (sym e.1) (subst (IsDistinct same) (sym (get_or-set_same held s own [] there)) once)
          | inr e ↦ subst (IsDistinct same) (sym (get_or-set_other held s r own [] e.1)) (sound.once r)
        ];
        held_by_one = λ q those h. elim (keys q k) [
          | inl e ↦ sets.held_by_one those (subst (λ x. get after x ≡ Some those) e h)
          | inr f ↦ sound.held_by_one q those (sym (sets.others q f) ∙ h)
        ];
      }

  -- another session's lock refuses a mode, seen in the one and in the other
  pub conflict : (s : ℕ) (k : Bytes) (mode : Mode) → Refuses (get holders k) s mode ↔ Conflicts (locks_in holders held) s k mode
  conflict s k mode = (
    λ r. (r.0, r.1, r.2, told r.0 k ∙ r.3, r.4),
    λ r. (r.0, r.1, r.2, sym (told r.0 k) ∙ r.3, r.4),
  )

  pub free_if_none : (k : Bytes) → get holders k ≡ None → IsFree (locks_in holders held) k
  free_if_none k e s = told s k ∙ ap (λ o. mode_among o s) e

  none_if_free : (k : Bytes) (o : Option Holders) → get holders k ≡ o → IsFree (locks_in holders held) k → o ≡ None
  none_if_free k None e free = refl
  none_if_free k (Some those) e free =
      let one = sound.held_by_one k those e in
      let there : mode_in those one.0 ≡ Some one.1 = one.2 in
      let none : mode_in those one.0 ≡ None = sym (told one.0 k ∙ ap (λ o. mode_among o one.0) e) ∙ free one.0 in
      absurd cc

  pub free_only_if_none : (k : Bytes) → IsFree (locks_in holders held) k → get holders k ≡ None
  free_only_if_none k free = none_if_free k (get holders k) refl free

  pub consistent : IsConsistent (locks_in holders held)
  consistent k writer other e ne =
      told other k
      ∙ alone (get holders k) writer other (sym (told writer k) ∙ e) ne
    where
      shared_or_none : (b : Bool) {P : Type 0} → cond b (Some Shared) None ≡ Some Exclusive → P
      shared_or_none true e = absurd cc
      shared_or_none false e = absurd cc

      by_place : (a b : ℕ) (n : ℕ) → a ≢ b → cond (eqb b n) (Some Exclusive) None ≡ Some Exclusive → cond (eqb a n) (Some Exclusive) None ≡ None
      by_place a b n ne e =
          elim (eqb_tells a n) [
            | inl same ↦ elim (eqb_tells b n) [
              | inl there ↦ absurd (ne (same.1 ∙ sym there.1))
              | inr there ↦ let none : cond (eqb b n) (Some Exclusive) None ≡ None = ap (λ t. cond t (Some Exclusive) None) there.0 in absurd cc
            ]
            | inr other ↦ ap (λ t. cond t (Some Exclusive) None) other.0
          ]

      alone : (o : Option Holders) (w r : ℕ) → mode_among o w ≡ Some Exclusive → r ≢ w → mode_among o r ≡ None
      alone None w r e ne = refl
      alone (Some (Readers m)) w r e ne = shared_or_none _ e
      alone (Some (Writer n)) w r e ne = by_place r w n ne e

get_or-replicate : {X : Type 0} (n : ℕ) (x : X) (i : ℕ) → get_or (replicate n x) i x ≡ x
get_or-replicate zero x i = refl
get_or-replicate (suc n) x zero = refl
get_or-replicate (suc n) x (suc i) = get_or-replicate n x i

-- a table in which nothing is held
module _ (held : List (List Bytes)) (nothing : held ≡ replicate 64 []) where
  no_keys : (s : ℕ) → get_or held s [] ≡ []
  no_keys s = ap (λ l. get_or l s []) nothing ∙ get_or-replicate 64 [] s

  pub sound_new : (holders : KeyMap Holders) → holders ≡ empty → IsSound holders held
  unfolding IsDistinct
  sound_new holders none =
      let absent : (q : Bytes) → get holders q ≡ None = λ q. ap (λ (m : KeyMap Holders). get m q) none ∙ get-empty by_bytes q in
      record {
        sessions = ap length nothing ∙ length-replicate {A = List Bytes} 64 [];
        listed = λ q s. ap (list_any (same q)) (no_keys s) ∙ ap (λ o. is_some (mode_among o s)) (sym (absent q));
        once = λ s. subst (IsDistinct same) (sym (no_keys s)) tt;
        held_by_one = λ q those e. absurd (none_is_some (sym (absent q) ∙ e));
      }
    where
      none_is_some : {those : Holders} → None ≡ Some those → ⊥
      none_is_some e = cc

-- the locks of such a table
pub locks_in-nothing : (holders : KeyMap Holders) (n m : ℕ) → locks_from holders m (replicate n []) ≡ replicate n empty
locks_in-nothing holders zero m = refl
locks_in-nothing holders (suc n) m = ap (λ (l : Locks). empty ∷ l) (locks_in-nothing holders n (suc m))
