-- What images show, and which image may follow them.
use Rattle.std.specs.Prelude.{◌≡◌, ◌⊎◌, ℕ, Bool, true, false, ◌||◌, ◌==◌, nat_lt, List, fold, Option, Some, None, IsSome, Ok, Err}
use mathlib.Core.List.{IsPrefix}
use Rattle.std.specs.declared.result.Result.{Result}
use Rattle.std.specs.Option.{option_or}
use Rattle.procedure.specs.Bytes.{Bytes}
use Rattle.procedure.specs.Table.{Table, Changes, no_table, merged, value_at}
use Rattle.image.specs.Images.{Image, changes_of}
use Rattle.image.specs.Merges.{is_full}
use Rattle.image.specs.declared.images.Kind.{Kind}
use Rattle.image.specs.declared.images.Kind.TheVariants.{Full, Partial}
use Rattle.view.specs.declared.publishers.AppendError.{AppendError}
use Rattle.view.specs.declared.publishers.AppendError.TheVariants.{NotFull, Older, Gap, NoMemory}

-- a full image replaces the table, and a partial one changes it
abbrev pub shown_by : Kind → Table → Changes → Table
shown_by Full t changes = merged no_table changes
shown_by Partial t changes = merged t changes

-- the table that images show, from the first to the last
abbrev pub shown : List Image → Table
shown images = fold (λ t i. shown_by i.kind t (changes_of i)) no_table images

-- a key holds a value in what some images show of which these are the first
abbrev pub HoldsLater : List Image → Bytes → Type 0
HoldsLater seen q = (images : List Image) × IsPrefix seen images × IsSome (value_at (shown images) q)

-- the number of the last image; 0 where there is none
abbrev pub number_of : List Image → ℕ
number_of images = fold (λ n i. i.number) 0 images

-- the same, where there is one
abbrev pub last_number : List Image → Option ℕ
last_number images = fold (λ n i. Some i.number) None images

-- the refusal, where the test fails
abbrev pub unless : Bool → AppendError → Option AppendError
unless true e = None
unless false e = Some e

-- why an image can't follow those whose last number is this, want of memory apart
abbrev pub refusal_after : Option ℕ → Image → Option AppendError
refusal_after None i = unless (is_full i.kind) NotFull
refusal_after (Some last) i = option_or (unless (nat_lt last i.number) Older) (unless (is_full i.kind || (i.base == last)) Gap)

-- what is answered is the refusal, or, where there is none, want of memory
abbrev pub Answers : {X : Type 0} → Option AppendError → Result X AppendError → Type 0
Answers refusal (Ok x) = refusal ≡ None
Answers refusal (Err e) = (refusal ≡ Some e) ⊎ ((refusal ≡ None) × (e ≡ NoMemory))
