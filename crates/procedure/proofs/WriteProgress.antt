-- What went out to a writer.
use Rattle.std.proofs.Common.{◌≡◌, ℕ, suc, ◌+◌, ◌<◌, arith, length, get_or, drop, drop-cons, Result, Ok, Err, List, [], ◌∷◌, ◌++◌, Option, refl, sym, ap, ◌∙◌, append_assoc}
use Rattle.std.proofs.lemmas.List.{append-nil}
use Rattle.std.specs.Prelude.{IfErr, OnErr}
use Rattle.std.specs.Io.KnownBytes.{Appends, Keeps}
use Rattle.std.proofs.KnownBytes.{Appends-nil, Appends-trans, Appends-kept}
use Rattle.procedure.specs.Bytes.{Bytes}
use Rattle.procedure.specs.Streams.{IsBegun}
use Rattle.procedure.specs.declared.streams.WriteError.{WriteError}
use Rattle.procedure.specs.declared.streams.WriteError.TheVariants.{WriteFault, NoMemory}

-- what went out, and what is left to go, make the text
pub record Gone (old now : Option Bytes) (text left : Bytes) : Type 0 where
  pub out : Bytes
  pub parts : text ≡ out ++ left
  pub appended : Appends old now out

pub nothing_gone : (old : Option Bytes) (text : Bytes) → Gone old old text text
nothing_gone old text = record { out = []; parts = refl; appended = Appends-nil old }

pub more_gone : (old now new : Option Bytes) (text left more rest : Bytes) → Gone old now text left → left ≡ more ++ rest → Appends now new more → Gone old new text rest
more_gone old now new text left more rest g e a = record {
  out = g.out ++ more;
  parts = g.parts ∙ ap (λ (x : Bytes). g.out ++ x) e ∙ sym (append_assoc g.out more rest);
  appended = Appends-trans old now new g.out more g.appended a;
}

-- stopped there, what went out is a beginning
pub begun : (old now : Option Bytes) (text left : Bytes) → Gone old now text left → IsBegun old now text
begun old now text left g = (g.out, left, g.parts, g.appended)

-- and where the next part is begun, it is a beginning too
pub begun_on : (old now new : Option Bytes) (text left more rest : Bytes) → Gone old now text left → left ≡ more ++ rest → IsBegun now new more → IsBegun old new text
begun_on old now new text left more rest g e b =
    let split : left ≡ b.0 ++ (b.1 ++ rest) = e ∙ ap (λ (x : Bytes). x ++ rest) b.2 ∙ append_assoc b.0 b.1 rest in
    begun old new text (b.1 ++ rest) (more_gone old now new text left b.0 (b.1 ++ rest) g split b.3)

pub kept : (old now new : Option Bytes) (text left : Bytes) → Gone old now text left → Keeps now new → Gone old new text left
kept old now new text left g k = record { out = g.out; parts = g.parts; appended = Appends-kept old now new g.out g.appended k }

-- nothing is left
pub all_gone : (old now : Option Bytes) (text : Bytes) → Gone old now text [] → Appends old now text
all_gone old now text g = rw (g.parts ∙ append-nil g.out) g.appended

pub on_err : {X E P Q : Type 0} (r : Result X E) → (P → Q) → OnErr r P → OnErr r Q
on_err (Ok x) f h = tt
on_err (Err e) f h = f h

-- the item at a place, and those after it
pub next_item : {X : Type 0} (xs : List X) (i : ℕ) (x : X) → i < length xs → x ≡ get_or xs i x → drop i xs ≡ x ∷ drop (i + 1) xs
next_item {X} xs i x lt e =
    let next : suc i ≡ i + 1 = omega arith in
    drop-cons xs i x lt ∙ ap (λ (y : X). y ∷ drop (suc i) xs) (sym e) ∙ ap (λ (n : ℕ). x ∷ drop n xs) next

-- what an empty buffer lends once the text is in it
pub lent : (text empty full : Bytes) → empty ≡ [] → full ≡ empty ++ text → (slice : Bytes) → slice ≡ full → slice ≡ text
lent text empty full none wrote slice is = is ∙ wrote ∙ ap (λ (x : Bytes). x ++ text) none

-- a write that fails is no want of memory
pub no_memory : {X : Type 0} (r : Result X WriteError) → IfErr r (λ e. e ≡ WriteFault) → r ≡ Err NoMemory → ⊥
no_memory (Ok x) h m = absurd (cc)
no_memory (Err e) h m = absurd (cc)
