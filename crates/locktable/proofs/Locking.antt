-- How many locks a session holds.
use Rattle.std.proofs.Common.{◌≡◌, ℕ, ◌-◌, ◌<◌, inl, inr, cond, length, None, sym, ap, ◌∙◌, subst, slice_set, IsSome, arith, is_some, true≢false}
use Rattle.std.proofs.Math.Nat.{eq-zero-or-pos}
use Rattle.std.proofs.lemmas.List.{set-get_or, set-set, get_or-set_same}
use Rattle.std.specs.Cmp.Lexicographic.{nat_list_cmp_total}
use Rattle.std.specs.FinMap.{get, empty, len, remove, len-remove, get-empty, empty_of_len}
use Rattle.procedure.specs.Bytes.{Bytes}
use Rattle.procedure.specs.Table.{KeyMap}
use Rattle.locktable.specs.Modes.{Mode}
use Rattle.locktable.specs.Locks.{Locks, locks_of, mode_of, with_lock, without_locks}
use Rattle.procedure.proofs.Maps.{by_bytes}

-- one lock goes, and then all
pub without_after : (locks : Locks) (s : ℕ) (k : Bytes) → without_locks (with_lock locks s k None) s ≡ without_locks locks s
without_after locks s k = set-set locks s _ empty

pub without_none : (locks : Locks) (s : ℕ) → locks_of locks s ≡ empty → locks ≡ without_locks locks s
without_none locks s e = sym (set-get_or locks s empty) ∙ ap (λ (m : KeyMap Mode). slice_set locks s m) e

no_longer : {X : Type 0} (m : KeyMap X) (k : Bytes) → len m ≡ 0 → get m k ≡ None
no_longer m k e = ap (λ n. get n k) (empty_of_len m e) ∙ get-empty by_bytes k

fewer : {X : Type 0} (m : KeyMap X) (k : Bytes) → IsSome (get m k) → len (remove m k) < len m
fewer m k is =
    let shorter = len-remove nat_list_cmp_total m k ∙ ap (λ b. cond b (len m - 1) (len m)) is in
    elim (eq-zero-or-pos (len m)) [
      | inl none ↦ absurd (true≢false (sym is ∙ ap is_some (no_longer m k none)))
      | inr some ↦ omega (arith, shorter)
    ]

fewer_locks : (locks : Locks) (s : ℕ) (k : Bytes) → s < length locks → IsSome (mode_of locks s k) → len (locks_of (with_lock locks s k None) s) < len (locks_of locks s)
fewer_locks locks s k h is =
    subst (λ (m : KeyMap Mode). len m < len (locks_of locks s)) (sym (get_or-set_same locks s (remove (locks_of locks s) k) empty h)) (fewer (locks_of locks s) k is)

-- a session that lets go of a lock holds fewer
pub fewer_after : (locks after : Locks) (s : ℕ) (k : Bytes) → after ≡ with_lock locks s k None → s < length locks → IsSome (mode_of locks s k) → len (locks_of after s) < len (locks_of locks s)
fewer_after locks after s k e h is = subst (λ l. len (locks_of l s) < len (locks_of locks s)) (sym e) (fewer_locks locks s k h is)
