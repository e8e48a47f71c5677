-- How the holders of each key, and the keys that each session holds, stand for the locks.
use Rattle.std.specs.Prelude.{◌≡◌, ℕ, suc, false, nat_eq, IsSome, List, [], ◌∷◌, ◌++◌, map as list_map, length, Option, Some, None, is_some, slice_index_or}
use Rattle.std.specs.FinMap as map
use Rattle.std.specs.Cmp.Lexicographic.{pointwise}
use Rattle.std.specs.List.{IsDistinct, list_any}
use Rattle.std.specs.Map.{keys_of, lookup}
use Rattle.std.specs.declared.vec.Vec.{Vec}
use Rattle.procedure.specs.Bytes.{Bytes, same}
use Rattle.procedure.specs.Table.{KeyMap}
use Rattle.procedure.specs.declared.limits.TheConstants.{SESSIONS}
use Rattle.locktable.specs.declared.holders.Holders.{Holders}
use Rattle.locktable.specs.Modes.{Mode}
use Rattle.locktable.specs.Locks.{Locks, with_entry}
use Rattle.locktable.specs.Holders.{ChangesTo, IsHeld, mode_among}

-- the keys of each session
abbrev pub keys_in : {A : Type 0} → List (Vec Bytes A) → List (List Bytes)
keys_in held = list_map (λ keys. keys.items) held

-- these keys, each in the mode in which the session holds it
abbrev pub modes_among : KeyMap Holders → ℕ → List Bytes → KeyMap Mode
modes_among holders session [] = map.empty
modes_among holders session (key ∷ keys) = with_entry (modes_among holders session keys) key (mode_among (map.get holders key) session)

-- what the sessions from this one on hold
abbrev pub locks_from : KeyMap Holders → ℕ → List (List Bytes) → Locks
locks_from holders session [] = []
locks_from holders session (keys ∷ held) = modes_among holders session keys ∷ locks_from holders (suc session) held

-- what each session holds
abbrev pub locks_in : KeyMap Holders → List (List Bytes) → Locks
locks_in holders held = locks_from holders 0 held

-- no key stands twice, in the list of few keys or there and in the map of the others
pub record IsApart (few : List (Bytes × Holders)) (many : KeyMap Holders) : Type 0 where
  pub once : IsDistinct (pointwise nat_eq) (keys_of few)
  pub apart : (key : Bytes) → IsSome (lookup (pointwise nat_eq key) few) → map.get many key ≡ None

pub record IsSound (holders : KeyMap Holders) (held : List (List Bytes)) : Type 0 where
  pub sessions : length held ≡ SESSIONS
  -- a session's keys are those among whose holders it is
  pub listed : (key : Bytes) (session : ℕ) → list_any (same key) (slice_index_or held session []) ≡ is_some (mode_among (map.get holders key) session)
  -- each of them once
  pub once : (session : ℕ) → IsDistinct same (slice_index_or held session [])
  -- a key without a holder takes no place
  pub held_by_one : (key : Bytes) (those : Holders) → map.get holders key ≡ Some those → IsHeld those

-- a session holds a key so from then on, or not at all, and all other locks are as before
pub record SetsMode (before after : KeyMap Holders) (session : ℕ) (key : Bytes) (mode : Option Mode) : Type 0 where
  pub at_key : ChangesTo (map.get before key) (map.get after key) session mode
  pub others : (other : Bytes) → same other key ≡ false → map.get after other ≡ map.get before other
  pub held_by_one : (those : Holders) → map.get after key ≡ Some those → IsHeld those

-- a session's keys after it is granted one that it held so, or not at all
abbrev pub with_key : List Bytes → Bytes → Option Mode → List Bytes
with_key keys key None = keys ++ key ∷ []
with_key keys key (Some mode) = keys
