-- How one word tells the sessions that hold a key.
use Rattle.std.specs.Prelude.{◌≡◌, ◌≢◌, ℕ, Option, Some, None, nat_eq, if◌then◌else◌}
use Rattle.std.specs.Int.{bit_at}
use Rattle.locktable.specs.declared.holders.Holders.{Holders}
use Rattle.locktable.specs.declared.holders.Holders.TheVariants.{Readers, Writer}
use Rattle.locktable.specs.Modes.{Mode, Shared, Exclusive, Excludes}

-- in which mode, if any, a session is among them
abbrev pub mode_in : Holders → ℕ → Option Mode
mode_in (Readers sessions) session = if nat_eq (bit_at sessions session) 1 then Some Shared else None
mode_in (Writer writer) session = if nat_eq session writer then Some Exclusive else None

-- the same of a key that has no holders
abbrev pub mode_among : Option Holders → ℕ → Option Mode
mode_among None session = None
mode_among (Some holders) session = mode_in holders session

-- they are those before, but for one session, which holds the key so
abbrev pub ChangesTo : Option Holders → Option Holders → ℕ → Option Mode → Type 0
ChangesTo before after session mode = (s : ℕ) → mode_among after s ≡ (if nat_eq s session then mode else mode_among before s)

-- another session among them excludes the mode
abbrev pub Refuses : Option Holders → ℕ → Mode → Type 0
Refuses holders session mode = (other : ℕ) × (held : Mode) × (other ≢ session) × (mode_among holders other ≡ Some held) × Excludes mode held

-- at least one session is among them
abbrev pub IsHeld : Holders → Type 0
IsHeld holders = (session : ℕ) × (mode : Mode) × (mode_in holders session ≡ Some mode)
