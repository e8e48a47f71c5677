-- Names that stand in a list too, each with its procedure.
use Rattle.std.specs.Prelude.{◌≡◌, ℕ, true, Some}
use Rattle.std.specs.FinMap as map
use Rattle.procedure.specs.Bytes.{Bytes}
use Rattle.calcdb.specs.Commands.{Names, is_name}

-- a name that has this procedure
abbrev pub IsListed : Names → Bytes × ℕ → Type 0
IsListed names listed = (is_name listed.0 ≡ true) × (map.get names listed.0 ≡ Some listed.1)
