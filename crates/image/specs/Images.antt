-- Images as plain data, and which of them are lawful.
use Rattle.std.specs.Prelude.{◌≡◌, ◌≤◌, ◌<◌, ℕ, List, length, map, Some, IsTrue, IsSome}
use Rattle.std.specs.Ordering.{nat_cmp}
use Rattle.std.specs.Cmp.Lexicographic.{slice_cmp}
use Rattle.std.specs.FinMap as finite
use Rattle.std.specs.List.{All}
use Rattle.procedure.specs.Bytes.{Bytes, Cell}
use Rattle.procedure.specs.Table.{Table, Changes}
use Rattle.image.specs.declared.images.Kind.{Kind}
use Rattle.image.specs.declared.images.Kind.TheVariants.{Full, Partial}
use Rattle.image.specs.declared.limits.TheConstants.{ENTRIES}

-- a key, and what it holds: a value, or nothing, where the key is gone
abbrev pub Entry : Type 0
Entry = Bytes × Cell

-- an image, lawful or not
pub record Image : Type 0 where
  pub kind : Kind
  pub number : ℕ
  pub base : ℕ
  pub place : ℕ
  pub entries : List Entry

-- each key is below those after it, in byte order
abbrev pub Rises : List Entry → Type 0
Rises es = IsTrue (finite.is_sorted (slice_cmp nat_cmp) es)

-- no key is gone
abbrev pub AllPresent : List Entry → Type 0
AllPresent es = All (λ e. IsSome e.1) es

-- what the kind asks of number, base and entries
abbrev pub SuitsKind : Kind → ℕ → ℕ → List Entry → Type 0
SuitsKind Full number base es = (base ≡ number) × AllPresent es
SuitsKind Partial number base es = base < number

pub record IsLawfulImage (i : Image) : Type 0 where
  pub few : length i.entries ≤ ENTRIES
  pub rises : Rises i.entries
  pub kind : SuitsKind i.kind i.number i.base i.entries

-- what the keys that an image names hold
abbrev pub changes_of : Image → Changes
changes_of i = finite.from_entries i.entries

-- what a table holds, as entries
abbrev pub entries_of : Table → List Entry
entries_of t = map (λ e. (e.0, Some e.1)) (finite.entries t)

-- the full image of a table
abbrev pub full_image : ℕ → ℕ → Table → Image
full_image number place t = record { kind = Full; number = number; base = number; place = place; entries = entries_of t }
