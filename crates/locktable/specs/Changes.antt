-- What a call changes and leaves, told by the mode in which a session holds a key.
use Rattle.std.specs.Prelude.{◌≡◌, ◌≢◌, ◌⊎◌, ◌<◌, ℕ, Option, None, length}
use Rattle.procedure.specs.Bytes.{Bytes}
use Rattle.locktable.specs.Modes.{Mode}
use Rattle.locktable.specs.Locks.{Locks, mode_of, with_lock, without_locks}

-- a session holds a key so from then on, and all other locks are as before
abbrev pub ChangesOneLock : Type 0
ChangesOneLock =
    (locks : Locks) (session : ℕ) (key : Bytes) (mode : Option Mode) → session < length locks →
    (mode_of (with_lock locks session key mode) session key ≡ mode)
    × ((s : ℕ) (k : Bytes) → (s ≢ session) ⊎ (k ≢ key) → mode_of (with_lock locks session key mode) s k ≡ mode_of locks s k)

-- a session holds nothing from then on, and the others what they held before
abbrev pub ReleasesOneSession : Type 0
ReleasesOneSession =
    (locks : Locks) (session : ℕ) → session < length locks →
    ((k : Bytes) → mode_of (without_locks locks session) session k ≡ None)
    × ((s : ℕ) (k : Bytes) → s ≢ session → mode_of (without_locks locks session) s k ≡ mode_of locks s k)
