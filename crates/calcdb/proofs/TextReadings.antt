-- Texts of which a front was read, up to a byte over the limit.
use Rattle.std.proofs.Common.{◌≡◌, ◌⊎◌, ◌≤◌, ◌<◌, ◌+◌, Bool, true, false, nat_le, [], ◌++◌, length, List, Option, Some, None, Result, Ok, Err, refl, sym, ap, subst, ◌∙◌, arith}
use Rattle.std.specs.Io.KnownBytes.{Consumes, IsAtEnd}
use Rattle.std.proofs.lemmas.Bool.{leb-true, leb-false, lt-leb}
use Rattle.std.proofs.lemmas.List.{append-nil, length-append}
use Rattle.procedure.specs.Bytes.{Bytes}
use Rattle.calcdb.specs.Commands.{Names}
use Rattle.calcdb.specs.LineByLine.{TellsScript}
use Rattle.calcdb.specs.Pairs.{image_of_pairs, table_of_pairs}
use Rattle.calcdb.specs.Preambles.{Preamble, preamble_of}
use Rattle.calcdb.specs.Scripts.{Script, script_after, script_of}
use Rattle.calcdb.specs.declared.scripts.ScriptFault.{ScriptFault}
use Rattle.calcdb.specs.declared.scripts.ScriptFault.TheVariants.{NoMemory, Size}
use Rattle.calcdb.specs.declared.scripts.TheConstants.{SCRIPT_BYTES}

-- texts that are too long say the same
abbrev pub RefusesLong : {Y : Type 0} → (Bytes → Y) → Type 0
RefusesLong says = (a b : Bytes) → SCRIPT_BYTES < length a → SCRIPT_BYTES < length b → says a ≡ says b

long_preamble : (a : Bytes) → SCRIPT_BYTES < length a → preamble_of a ≡ Err Size
unfolding preamble_of
long_preamble a h = rw (lt-leb (length a) SCRIPT_BYTES h) refl

-- the script with a preamble, where there is one
abbrev script_with : {L : Type 0} → (Names → L → List Bytes → Option L) → L → Result Preamble ScriptFault → Result (Script L) ScriptFault
script_with added none says = elim says [ Ok p ↦ script_after added none p | Err e ↦ Err e ]

pub long_scripts : {L : Type 0} (added : Names → L → List Bytes → Option L) (none : L) → RefusesLong (script_of added none)
long_scripts added none a b ha hb = ap (script_with added none) (long_preamble a ha ∙ sym (long_preamble b hb))

pub long_pairs : RefusesLong image_of_pairs
unfolding table_of_pairs
long_pairs a b ha hb = rw (lt-leb (length a) SCRIPT_BYTES ha, lt-leb (length b) SCRIPT_BYTES hb) refl

module _ {Y : Type 0} (says : Bytes → Y) (refuses : RefusesLong says) where
  same_by : (source text left : Bytes) (v : Bool) → nat_le (length text) SCRIPT_BYTES ≡ v → source ≡ text ++ left → (length text ≤ SCRIPT_BYTES → left ≡ []) → says source ≡ says text
  same_by source text left true e parts at_end = ap says (parts ∙ ap (λ (l : Bytes). text ++ l) (at_end (leb-true (length text) SCRIPT_BYTES e)) ∙ append-nil text)
  same_by source text left false e parts at_end =
      let long : length source ≡ length text + length left = ap (λ (l : Bytes). length l) parts ∙ length-append text left in
      let more : SCRIPT_BYTES < length text = leb-false (length text) SCRIPT_BYTES e in
      refuses source text (omega (arith, long, more)) more

  -- what was read says what all of the bytes say
  pub same_reading : (old new : Option Bytes) (source text : Bytes) → old ≡ Some source → Consumes old new text → (length text ≤ SCRIPT_BYTES → IsAtEnd new) → says source ≡ says text
  same_reading None new source text is h at_end = absurd (cc)
  same_reading (Some xs) None source text is h at_end = absurd h
  same_reading (Some xs) (Some ys) source text is h at_end =
      let same : xs ≡ source = cc in
      same_by source text ys (nat_le (length text) SCRIPT_BYTES) refl (sym same ∙ h) at_end

module _ {Y : Type 0} where
  told : (r : Result Y ScriptFault) (y : Y) (says : Result Y ScriptFault) → r ≡ Ok y → TellsScript (λ x. x) r says → says ≡ Ok y
  told (Ok x) y says is h = h ∙ is
  told (Err e) y says is h = absurd (cc)

  told_fault : (r : Result Y ScriptFault) (e : ScriptFault) (says : Result Y ScriptFault) → r ≡ Err e → TellsScript (λ x. x) r says → (e ≡ NoMemory) ⊎ (says ≡ Err e)
  told_fault (Ok x) e says is h = absurd (cc)
  told_fault (Err f) e says is h =
      let same : f ≡ e = cc in
      subst (λ (x : ScriptFault). (x ≡ NoMemory) ⊎ (says ≡ Err x)) same h

  -- what a text was read as, of which the same bytes were seen
  pub read_as : (says : Bytes → Result Y ScriptFault) (text seen : Bytes) (r : Result Y ScriptFault) (y : Y) → seen ≡ text → r ≡ Ok y → TellsScript (λ x. x) r (says seen) → says text ≡ Ok y
  read_as says text seen r y same is h = ap says (sym same) ∙ told r y (says seen) is h

  pub refused_as : (says : Bytes → Result Y ScriptFault) (text seen : Bytes) (r : Result Y ScriptFault) (e : ScriptFault) → seen ≡ text → r ≡ Err e → TellsScript (λ x. x) r (says seen) →
      (e ≡ NoMemory) ⊎ (says text ≡ Err e)
  refused_as says text seen r e same is h = subst (λ (t : Bytes). (e ≡ NoMemory) ⊎ (says t ≡ Err e)) same (told_fault r e (says seen) is h)
