-- An image that goes to a writer, or comes from a reader.
use Rattle.std.specs.Prelude.{◌≡◌, ◌≤◌, ◌⊎◌, ℕ, zero, suc, ◌+◌, List, length, take, drop, Option, Ok, Err, codes}
use Rattle.std.specs.declared.result.Result.{Result}
use Rattle.std.specs.Io.KnownBytes.{Consumes, IsAtEnd}
use Rattle.procedure.specs.Bytes.{Bytes}
use Rattle.procedure.specs.declared.streams.Unread.{Unread}
use Rattle.procedure.specs.declared.streams.Unread.TheVariants as unread
use Rattle.image.specs.Images.{Entry, Image}
use Rattle.image.specs.ImageBytes.{entries_bytes}
use Rattle.image.specs.declared.limits.TheConstants.{BLOCK}
use Rattle.image.specs.Refusals.{IsAnswer}
use Rattle.image.specs.Texts.{read_error_text}
use Rattle.image.specs.declared.errors.ReadError.{ReadError}
use Rattle.image.specs.declared.errors.ReadError.TheVariants as refused
use Rattle.image.specs.declared.streams.ReadFromError.{ReadFromError}
use Rattle.image.specs.declared.streams.ReadFromError.TheVariants as read_refused

-- of so many blocks each has at most this many bytes with its digest
abbrev pub BlocksFit : ℕ → ℕ → List Entry → Type 0
BlocksFit most zero es = Unit {0}
BlocksFit most (suc m) es = (length (entries_bytes (take BLOCK es)) + 32 ≤ most) × BlocksFit most m (drop BLOCK es)

-- a failed read stays one, and so does want of memory
abbrev pub unread_as : Unread → ReadFromError
unread_as unread.ReadFault = read_refused.ReadFault
unread_as unread.NoMemory = read_refused.Image refused.NoMemory

-- nothing was read to the end
abbrev pub IsUnread : ReadFromError → Type 0
IsUnread e = (e ≡ read_refused.ReadFault) ⊎ (e ≡ read_refused.Image refused.NoMemory)

-- all that was read, to the end, has the answer
abbrev pub ReadsAs : Option Bytes → Option Bytes → Result Image ReadError → Type 0
ReadsAs old new answer = (text : Bytes) × Consumes old new text × IsAtEnd new × IsAnswer text answer

-- what was answered is the answer to all that was read
abbrev pub IsAnswerFrom : Option Bytes → Option Bytes → Result Image ReadFromError → Type 0
IsAnswerFrom old new (Ok i) = ReadsAs old new (Ok i)
IsAnswerFrom old new (Err read_refused.ReadFault) = Unit {0}
IsAnswerFrom old new (Err (read_refused.Image e)) = (e ≡ refused.NoMemory) ⊎ ReadsAs old new (Err e)

-- it is this one, unless a read failed or memory ran out
abbrev pub TellsFrom : Result Image ReadFromError → Result Image ReadError → Type 0
TellsFrom (Ok i) answer = answer ≡ Ok i
TellsFrom (Err read_refused.ReadFault) answer = Unit {0}
TellsFrom (Err (read_refused.Image e)) answer = (e ≡ refused.NoMemory) ⊎ (answer ≡ Err e)

-- what is printed of a refusal
abbrev pub read_from_error_text : ReadFromError → Bytes
read_from_error_text read_refused.ReadFault = codes "read fault"
read_from_error_text (read_refused.Image e) = read_error_text e
