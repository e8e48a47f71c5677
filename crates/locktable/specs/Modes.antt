-- The modes of a lock, and which exclude one another.
use Rattle.std.specs.Prelude.{ℕ, List, Option, Some, None, codes}
pub use Rattle.locktable.specs.declared.modes.Mode.{Mode}
pub use Rattle.locktable.specs.declared.modes.Mode.TheVariants.{Shared, Exclusive}
use Rattle.locktable.specs.declared.errors.LockError.{LockError}
use Rattle.locktable.specs.declared.errors.LockError.TheVariants.{Conflict, NoMemory}

-- two sessions can't hold a key in these modes: one of them is exclusive
abbrev pub Excludes : Mode → Mode → Type 0
Excludes Shared Shared = ⊥
Excludes Shared Exclusive = Unit {0}
Excludes Exclusive mode = Unit {0}

-- what a session holds that is granted a lock: the stronger of what it held and what it asked for
abbrev pub stronger : Option Mode → Mode → Mode
stronger None asked = asked
stronger (Some Shared) asked = asked
stronger (Some Exclusive) asked = Exclusive

-- what is held is already as strong as what is asked for
abbrev pub KeepsAsked : Option Mode → Mode → Type 0
KeepsAsked None asked = ⊥
KeepsAsked (Some Shared) Shared = Unit {0}
KeepsAsked (Some Shared) Exclusive = ⊥
KeepsAsked (Some Exclusive) asked = Unit {0}

-- a lock that is no stronger than the one that is held
abbrev pub IsAtMost : Option Mode → Option Mode → Type 0
IsAtMost None held = Unit {0}
IsAtMost (Some mode) None = ⊥
IsAtMost (Some Shared) (Some held) = Unit {0}
IsAtMost (Some Exclusive) (Some Shared) = ⊥
IsAtMost (Some Exclusive) (Some Exclusive) = Unit {0}

-- the name of a mode
abbrev pub mode_text : Mode → List ℕ
mode_text Shared = codes "shared"
mode_text Exclusive = codes "exclusive"

abbrev pub refusal_text : LockError → List ℕ
refusal_text Conflict = codes "conflict"
refusal_text NoMemory = codes "no memory"
