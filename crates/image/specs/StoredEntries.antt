-- The entries that stand in an image's bytes, one after another.
use Rattle.std.specs.Prelude.{◌≡◌, List, [], ◌∷◌, Option, Some, None}
use Rattle.image.specs.Images.{Entry}

-- the first of entries was taken, if there is one
abbrev pub TakesFirst : List Entry → Option Entry → List Entry → Type 0
TakesFirst old None new = (old ≡ []) × (new ≡ [])
TakesFirst old (Some e) new = old ≡ e ∷ new
