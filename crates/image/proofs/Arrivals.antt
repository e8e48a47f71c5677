-- What came from a reader.
use Rattle.std.proofs.Common.{◌≡◌, ◌⊎◌, ◌++◌, Option, Some, None, Ok, Err, sym, ap, subst, ◌∙◌, inl, inr}
use Rattle.std.specs.declared.result.Result.{Result}
use Rattle.std.specs.Io.KnownBytes.{Consumes, IsAtEnd}
use Rattle.std.proofs.lemmas.List.{append-nil}
use Rattle.procedure.specs.Bytes.{Bytes}
use Rattle.image.specs.Images.{Image}
use Rattle.image.specs.Refusals.{IsAnswer}
use Rattle.image.specs.Streams.{IsAnswerFrom, IsUnread, ReadsAs, TellsFrom, unread_as}
use Rattle.procedure.specs.declared.streams.Unread.{Unread}
use Rattle.procedure.specs.declared.streams.Unread.TheVariants as reading
use Rattle.image.specs.declared.errors.ReadError.{ReadError}
use Rattle.image.specs.declared.errors.ReadError.TheVariants as refused
use Rattle.image.specs.declared.streams.ReadFromError.{ReadFromError}
use Rattle.image.specs.declared.streams.ReadFromError.TheVariants as read_refused
use Rattle.image.proofs.FrontEntries.{some_is}

-- all that was known was read
pub all_read : (old new : Option Bytes) (text got : Bytes) → old ≡ Some text → Consumes old new got → IsAtEnd new → got ≡ text
all_read None new text got e c end = absurd cc
all_read (Some x) None text got e c end = absurd c
all_read (Some x) (Some y) text got e c end = sym (c ∙ ap (λ (t : Bytes). got ++ t) end ∙ append-nil got) ∙ some_is x text e

abbrev pub refusal_of : ReadError → Result Image ReadError
refusal_of e = Err e

abbrev pub image_of : Image → Result Image ReadError
image_of i = Ok i

pub refusal_is : (e f : ReadError) → refusal_of e ≡ refusal_of f → e ≡ f
refusal_is e f h = cc

pub is_unread : (u : Unread) (e : ReadFromError) → e ≡ unread_as u → IsUnread e
is_unread reading.ReadFault e h = inl h
is_unread reading.NoMemory e h = inr h

-- what wasn't read to the end has every answer
pub unread : (old new : Option Bytes) (e : ReadFromError) → IsUnread e → IsAnswerFrom old new (Err e)
unread old new read_refused.ReadFault h = tt
unread old new (read_refused.Image e) (inl fault) = absurd (cc)
unread old new (read_refused.Image e) (inr memory) = inl (cc)

pub tells_unread : (answer : Result Image ReadError) (e : ReadFromError) → IsUnread e → TellsFrom (Err e) answer
tells_unread answer read_refused.ReadFault h = tt
tells_unread answer (read_refused.Image e) (inl fault) = absurd (cc)
tells_unread answer (read_refused.Image e) (inr memory) = inl (cc)

-- all that was read has the answer to it
module _ (old new : Option Bytes) (text b : Bytes) (read : Consumes old new text) (end : IsAtEnd new) (same : b ≡ text) where
  pub read_as : (answer : Result Image ReadError) → IsAnswer b answer → ReadsAs old new answer
  read_as answer a = (text, read, end, subst (λ (t : Bytes). IsAnswer t answer) same a)

  pub image_read : (i : Image) → (image_of i ≡ refusal_of refused.NoMemory) ⊎ IsAnswer b (image_of i) → ReadsAs old new (image_of i)
  image_read i (inl memory) = absurd (cc)
  image_read i (inr a) = read_as (image_of i) a

  pub refusal_read : (e : ReadError) → (refusal_of e ≡ refusal_of refused.NoMemory) ⊎ IsAnswer b (refusal_of e) → (e ≡ refused.NoMemory) ⊎ ReadsAs old new (refusal_of e)
  refusal_read e (inl memory) = inl (refusal_is e refused.NoMemory memory)
  refusal_read e (inr a) = inr (read_as (refusal_of e) a)

-- the answer is the one that was known
pub image_told : (i : Image) (answer : Result Image ReadError) → (image_of i ≡ answer) ⊎ (image_of i ≡ refusal_of refused.NoMemory) → answer ≡ image_of i
image_told i answer (inl given) = sym given
image_told i answer (inr memory) = absurd (cc)
