-- Changes of several images as one list, of which `merge` is put together.
use Rattle.std.specs.Prelude.{◌≡◌, List, [], ◌∷◌, map, is_some, Option, None}
use Rattle.std.specs.List.{filter}
use Rattle.std.specs.Option.{option_or}
use Rattle.std.specs.Ordering.{nat_cmp}
use Rattle.std.specs.Cmp.Lexicographic.{slice_cmp}
use Rattle.std.specs.FinMap as finite
use denote.Ref.{Bor}
use Rattle.procedure.specs.Bytes.{Bytes, Cell}
use Rattle.image.specs.Images.{Entry, Image, Rises}

-- the entries that are borrowed
abbrev pub lent : List (Bor Entry) → List Entry
lent es = map (λ e. e.now) es

-- what some images in turn say of a key: the word of the last that names it
abbrev pub said_by : List Image → Bytes → Option Cell
said_by [] q = None
said_by (i ∷ is) q = option_or (said_by is q) (finite.find (slice_cmp nat_cmp) q i.entries)

-- of two lists that speak of a key the later counts
abbrev pub later_of : List Entry → List Entry → Bytes → Option Cell
later_of older newer q = option_or (finite.find (slice_cmp nat_cmp) q newer) (finite.find (slice_cmp nat_cmp) q older)

-- entries in the order of their keys that say this of each key
pub record Say (said : Bytes → Option Cell) (es : List Entry) : Type 0 where
  pub rises : Rises es
  pub finds : (q : Bytes) → finite.find (slice_cmp nat_cmp) q es ≡ said q

-- the entries whose keys aren't gone
abbrev pub present : List Entry → List Entry
present es = filter (λ e. is_some e.1) es
