-- What is printed: values, and the answers of commands.
use Rattle.std.specs.Prelude.{ℕ, ◌==◌, Bool, ◌&&◌, if◌then◌else◌, nat_le, codes, decimal, List, ◌∷◌, ◌++◌, length, Some, None}
use Rattle.std.specs.List.{flat_map}
use Rattle.byteorder.specs.Endian.{big_number}
use Rattle.hex.specs.Hex.{encode_lower}
use Rattle.image.specs.Images.{Entry, Image}
use Rattle.image.specs.declared.images.Kind.{Kind}
use Rattle.image.specs.declared.images.Kind.TheVariants.{Full, Partial}
use Rattle.procedure.specs.Bytes.{Bytes, Cell}
use Rattle.procedure.specs.declared.outcomes.TheConstants.{COMMITTED}
use Rattle.calcdb.specs.Lines.{all_pass}

-- a byte that has a sign: from `!` to `~`
abbrev pub is_graphic : ℕ → Bool
is_graphic b = nat_le 33 b && nat_le b 126

-- `#` and a number, of 8 bytes; else `'` and the bytes, where each has a sign; else `x` and hexadecimal digits
unfoldable pub value_text : Bytes → Bytes
value_text v =
    if length v == 8 then 35 ∷ decimal (big_number 8 v)
    else if all_pass is_graphic v then 39 ∷ v
    else 120 ∷ encode_lower v

-- what is absent is printed as `-`
abbrev pub cell_text : Cell → Bytes
cell_text None = codes "-"
cell_text (Some v) = value_text v

-- each reply behind a space
abbrev pub replies_text : List Cell → Bytes
replies_text = flat_map (λ c. codes " " ++ cell_text c)

abbrev pub outcome_text : ℕ → Bytes
outcome_text outcome = if outcome == COMMITTED then codes " committed" else codes " aborted " ++ decimal outcome

-- a call that was finished
abbrev pub answer_text : ℕ → ℕ → List Cell → Bytes
answer_text place outcome replies = codes "place " ++ decimal place ++ outcome_text outcome ++ replies_text replies ++ codes "\n"

-- a call that was refused, with the name of the refusal
abbrev pub refused_text : Bytes → Bytes
refused_text name = codes "refused " ++ name ++ codes "\n"

-- CHECKPOINTS

-- an entry of an image: its key, and its value or `gone`
abbrev pub entry_text : Entry → Bytes
entry_text (k, Some v) = value_text k ++ codes " " ++ value_text v ++ codes "\n"
entry_text (k, None) = value_text k ++ codes " gone\n"

abbrev pub entries_text : List Entry → Bytes
entries_text = flat_map entry_text

abbrev pub kind_text : Kind → Bytes
kind_text Full = codes "image full "
kind_text Partial = codes "image partial "

abbrev pub place_text : (place count : ℕ) → Bytes
place_text place count = codes " place " ++ decimal place ++ codes " count " ++ decimal count ++ codes "\n"

abbrev pub header_text : Kind → (number base place count : ℕ) → Bytes
header_text kind number base place count = kind_text kind ++ decimal number ++ codes " base " ++ decimal base ++ place_text place count

-- the header line of an image
abbrev pub header_line : Image → Bytes
header_line i = header_text i.kind i.number i.base i.place (length i.entries)

-- an image: a line for its header, and one for each entry
abbrev pub image_text : Image → Bytes
image_text i = header_line i ++ entries_text i.entries

-- a key that was reclaimed
abbrev pub key_text : Bytes → Bytes
key_text key = codes "key " ++ value_text key ++ codes "\n"

-- a word and a number
abbrev pub numbered_text : Bytes → ℕ → Bytes
numbered_text word n = word ++ decimal n ++ codes "\n"
