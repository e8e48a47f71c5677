-- What files of images spell, in order, or why the first of them that spells none is refused.
use Rattle.std.specs.Prelude.{◌≡◌, ◌⊎◌, List, [], ◌∷◌, Result, Ok, Err}
use Rattle.procedure.specs.Bytes.{Bytes}
use Rattle.image.specs.ImageBytes.{IsImageSpelling}
use Rattle.image.specs.Images.{Image}
use Rattle.image.specs.Refusals.{Refuses}
use Rattle.image.specs.declared.errors.ReadError.{ReadError}
use Rattle.calcdb.specs.Reasons.{read_reason}
use Rattle.calcdb.specs.declared.faults.Reason.{Reason}

-- the files are the bytes of these images, one after another
abbrev pub Spell : List Image → List Bytes → Type 0
Spell [] [] = Unit {0}
Spell (i ∷ is) (b ∷ bs) = IsImageSpelling i b × Spell is bs
Spell _ _ = ⊥

-- the first of the files that spells no image is refused so
abbrev pub RefusesFirst : ReadError → List Bytes → Type 0
RefusesFirst e [] = ⊥
RefusesFirst e (b ∷ bs) = Refuses e b ⊎ ((i : Image) × IsImageSpelling i b × RefusesFirst e bs)

-- what the files are read as
abbrev pub AreRead : List Bytes → Result (List Image) Reason → Type 0
AreRead files (Ok is) = Spell is files
AreRead files (Err r) = (e : ReadError) × RefusesFirst e files × (r ≡ read_reason e)
