-- Which image is one to open from.
use Rattle.std.specs.Prelude.{◌==◌, Bool, ◌&&◌}
use Rattle.image.specs.Images.{Image}
use Rattle.image.specs.Merges.{is_full}

-- full, with number, base and place 0
abbrev pub is_opening : Image → Bool
is_opening i = is_full i.kind && ((i.number == 0) && ((i.base == 0) && (i.place == 0)))
