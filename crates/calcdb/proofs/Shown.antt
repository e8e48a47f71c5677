-- Texts that are shown line by line.
use Rattle.std.proofs.Common.{◌≡◌, ◌⊎◌, inl, inr, ◌<◌, ℕ, ◌+◌, List, [], ◌∷◌, ◌++◌, length, get_or, drop, Option, Result, Ok, Err, refl, sym, ap, subst, ◌∙◌, append_assoc}
use Rattle.std.proofs.lemmas.List.{append-nil}
use Rattle.std.proofs.KnownBytes.{Appends-nil}
use Rattle.std.specs.Io.KnownBytes.{Appends}
use Rattle.std.specs.Prelude.{IfErr, OnOk}
use Rattle.procedure.specs.Bytes.{Bytes}
use Rattle.commitlog.specs.LogReadings.{Damaged, IsReading, NotALog}
use Rattle.commitlog.specs.Records.{Record}
use Rattle.commitlog.specs.declared.decoding.LogError.{LogError}
use Rattle.commitlog.specs.declared.decoding.LogError.TheVariants as log
use Rattle.image.specs.Images.{Entry, Image}
use Rattle.image.specs.Refusals.{IsAnswer, Refuses}
use Rattle.image.specs.declared.errors.ReadError.{ReadError}
use Rattle.calcdb.specs.Outcomes.{fault_text}
use Rattle.calcdb.specs.Output.{entries_text, entry_text, image_text}
use Rattle.calcdb.specs.Reasons.{log_reason, read_reason}
use Rattle.calcdb.specs.Refusing.{Declines, FailsAs, no_memory}
use Rattle.calcdb.specs.Runs.{Sent}
use Rattle.calcdb.specs.Showing.{AgreesWithPrint, BreaksOff, EndsShow, IsShowFault, PrintsImage, PrintsLog, StopsIn, of_image, record_text, records_text}
use Rattle.procedure.specs.Streams.{IsBegun}
use Rattle.calcdb.specs.declared.faults.Fault.{Fault}
use Rattle.calcdb.specs.declared.faults.Fault.TheVariants as fault
use Rattle.calcdb.specs.declared.faults.Reason.{Reason}
use Rattle.calcdb.specs.declared.faults.Reason.TheVariants as reason
use Rattle.calcdb.proofs.Declined.{declined, fails_wider, suits_said}
use Rattle.procedure.proofs.WriteProgress.{Gone, all_gone, begun_on, more_gone, next_item, nothing_gone}

-- ---- where a text stops

pub write_breaks_off : (text line : Bytes) (old new : Option Bytes) (f : Fault) → line ≡ text → (f ≡ fault.Write) × IsBegun old new line → BreaksOff text old new f
write_breaks_off text line old new f same (is, begun) = (inl is, subst (IsBegun old new) same begun)

pub memory_breaks_off : (text : Bytes) (old : Option Bytes) → BreaksOff text old old fault.NoMemory
memory_breaks_off text old = (inr refl, ([], text, refl, Appends-nil old))

pub header_stops : (text : Bytes) (old new : Option Bytes) (f : Fault) → FailsAs (λ g. g ≡ no_memory) (λ (t : Bytes). t ≡ text) old new f → StopsIn text old new f
header_stops text old new (fault.Line n) (is, out) = absurd (cc)
header_stops text old new fault.Size (is, out) = absurd (cc)
header_stops text old new fault.Read (is, out) = absurd (cc)
header_stops text old new fault.NoMemory h = absurd h
header_stops text old new (fault.Refused r) (is, out) = inr (inl (is, subst (λ f. Appends old new (fault_text f)) is out))
header_stops text old new fault.Write (t, inl is, begun) = inl (inl refl, subst (IsBegun old new) is begun)
header_stops text old new fault.Write (t, inr (f, wants, is), begun) = inr (inr (refl, subst (IsBegun old new) (is ∙ rw wants refl) begun))

-- lines that were written, or broke off
pub sent_lines : (r : Result (Unit {0}) Fault) (old new : Option Bytes) (text : Bytes) → OnOk r (Appends old new text) → IfErr r (λ f. BreaksOff text old new f) → Sent r old new text
sent_lines (Ok x) old new text ok err = ok
sent_lines (Err f) old new text ok (inl is, begun) = subst (λ (g : Fault). Sent (Err g) old new text) (sym is) begun
sent_lines (Err f) old new text ok (inr is, begun) = subst (λ (g : Fault). Sent (Err g) old new text) (sym is) begun

-- nothing is left
pub all_out : {old now : Option Bytes} {text left : Bytes} → Gone old now text left → left ≡ [] → Appends old now text
all_out {old} {now} {text} gone none = all_gone old now text (subst (Gone old now text) none gone)

-- one part more of what is left
module _ {old now : Option Bytes} {text left : Bytes} (gone : Gone old now text left) (new : Option Bytes) (part rest : Bytes) (parts : left ≡ part ++ rest) where
  pub part_gone : Appends now new part → Gone old new text rest
  part_gone = more_gone old now new text left part rest gone parts

  pub part_breaks_off : (f : Fault) → BreaksOff part now new f → BreaksOff text old new f
  part_breaks_off f (is, begun) = (is, begun_on old now new text left part rest gone parts begun)

-- a text of two parts
module _ (old new : Option Bytes) (front rest : Bytes) (f : Fault) where
  pub front_breaks_off : BreaksOff front old new f → BreaksOff (front ++ rest) old new f
  front_breaks_off = part_breaks_off (nothing_gone old (front ++ rest)) new front rest refl f

  pub front_stops : StopsIn front old new f → StopsIn (front ++ rest) old new f
  front_stops (inl broken) = inl (front_breaks_off broken)
  front_stops (inr said) = inr said

  pub rest_breaks_off : (now : Option Bytes) → Appends old now front → BreaksOff rest now new f → BreaksOff (front ++ rest) old new f
  rest_breaks_off now wrote = part_breaks_off (part_gone (nothing_gone old (front ++ rest)) now front rest refl wrote) new rest [] (sym (append-nil rest)) f

-- ---- line by line

pub next_record : (i : ℕ) (r : Record) (all rs : List Record) → all ≡ r ∷ rs → records_text i all ≡ record_text i r ++ records_text (i + 1) rs
unfolding records_text
next_record i r all rs is = rw is refl

pub no_record : (i : ℕ) (rs : List Record) → rs ≡ [] → records_text i rs ≡ []
unfolding records_text
no_record i rs is = rw is refl

pub next_entry : (es : List Entry) (i : ℕ) (e : Entry) → i < length es → e ≡ get_or es i e → entries_text (drop i es) ≡ entry_text e ++ entries_text (drop (i + 1) es)
next_entry es i e lt is = rw (next_item es i e lt is) refl

pub first_entry : (e : Entry) (all es : List Entry) → all ≡ e ∷ es → entries_text all ≡ entry_text e ++ entries_text es
first_entry e all es is = rw is refl

-- ---- texts behind one another

pub three_pushed : (out x y z a b new : Bytes) → a ≡ out ++ x → b ≡ a ++ y → new ≡ b ++ z → new ≡ out ++ (x ++ (y ++ z))
three_pushed out x y z a b new e f h = h ∙ ap (λ (l : Bytes). l ++ z) (f ∙ ap (λ (l : Bytes). l ++ y) e) ∙ simp append_assoc

-- ---- what bytes print

stops_agree : (text : Bytes) (old new : Option Bytes) (f : Fault) (says : Result Bytes Reason) → says ≡ Ok text → StopsIn text old new f → AgreesWithPrint (Err f) says old new
stops_agree text old new f says is (inl (inl failed, begun)) = inl (rw failed tt)
stops_agree text old new f says is (inl (inr wanting, begun)) = inr (wanting, text, is)
stops_agree text old new f says is (inr said) = inl (suits_said no_memory f old new reason.NoMemory says refl (inl refl) said)

-- a text that was written, or stopped, is what is said
pub told_agrees : (r : Result (Unit {0}) Fault) (says : Result Bytes Reason) (text : Bytes) (old new : Option Bytes) → says ≡ Ok text → OnOk r (Appends old new text) →
    IfErr r (λ f. StopsIn text old new f) → AgreesWithPrint r says old new
told_agrees (Ok x) says text old new is out stops = (text, is, out)
told_agrees (Err f) says text old new is out stops = stops_agree text old new f says is stops

module _ (Says : Result Bytes Reason → Type 0) (old new : Option Bytes) where
  pub shown_ends : (r : Result (Unit {0}) Fault) (text : Bytes) → Says (Ok text) → IfErr r (λ f. StopsIn text old new f) → IfErr r (λ f. EndsShow Says old new f)
  shown_ends (Ok x) text says h = tt
  shown_ends (Err f) text says (inl broken) = inr (text, says, broken)
  shown_ends (Err f) text says (inr said) = inl (declined (IsShowFault Says) (λ (t : Bytes). ⊥) old new no_memory f tt (inl refl) (inl refl) (inl said))

  pub shown_text : (r : Result (Unit {0}) Fault) (text : Bytes) → Says (Ok text) → OnOk r (Appends old new text) → OnOk r ((t : Bytes) × Says (Ok t) × Appends old new t)
  shown_text (Ok x) text says h = (text, says, h)
  shown_text (Err f) text says h = tt

  pub refused_ends : (r : Reason) (f : Fault) → (r ≡ reason.NoMemory) ⊎ Says (Err r) → Declines (fault.Refused r) old new f → EndsShow Says old new f
  refused_ends r f is h = inl (declined (IsShowFault Says) (λ (text : Bytes). ⊥) old new (fault.Refused r) f tt is (inl refl) h)

module _ (P Q : Result Bytes Reason → Type 0) (wider : (says : Result Bytes Reason) → P says → Q says) (old new : Option Bytes) where
  wider_fault : (f : Fault) → IsShowFault P f → IsShowFault Q f
  wider_fault (fault.Refused r) (inl is) = inl is
  wider_fault (fault.Refused r) (inr is) = inr (wider (Err r) is)
  wider_fault (fault.Line n) is = absurd is
  wider_fault fault.Size is = absurd is
  wider_fault fault.Read is = absurd is
  wider_fault fault.Write is = absurd is
  wider_fault fault.NoMemory is = absurd is

  ends_as : (f : Fault) → EndsShow P old new f → EndsShow Q old new f
  ends_as f (inl h) = inl (fails_wider (IsShowFault P) (IsShowFault Q) (λ (text : Bytes). ⊥) (λ (text : Bytes). ⊥) wider_fault (λ t h. h) old new f h)
  ends_as f (inr (text, is, stops)) = inr (text, wider (Ok text) is, stops)

  pub ends_wider : (r : Result (Unit {0}) Fault) → IfErr r (λ f. EndsShow P old new f) → IfErr r (λ f. EndsShow Q old new f)
  ends_wider (Ok x) h = tt
  ends_wider (Err f) h = ends_as f h

  pub text_wider : (r : Result (Unit {0}) Fault) → OnOk r ((text : Bytes) × P (Ok text) × Appends old new text) → OnOk r ((text : Bytes) × Q (Ok text) × Appends old new text)
  text_wider (Ok x) (text, is, out) = (text, wider (Ok text) is, out)
  text_wider (Err f) h = tt

-- ---- refusals

pub refused_log : (bytes : Bytes) (e : LogError) → (e ≡ log.NotALog → IsReading bytes NotALog) → ((i : ℕ) → e ≡ log.Damaged i → IsReading bytes (Damaged i)) →
    (log_reason e ≡ reason.NoMemory) ⊎ PrintsLog bytes (Err (log_reason e))
refused_log bytes log.NotALog not damaged = inr (NotALog, not refl, refl)
refused_log bytes (log.Damaged i) not damaged = inr (Damaged i, damaged i refl, refl)
refused_log bytes log.NoMemory not damaged = inl refl

pub refused_image : (bytes : Bytes) (e : ReadError) → Refuses e bytes → (read_reason e ≡ reason.NoMemory) ⊎ PrintsImage bytes (Err (read_reason e))
refused_image bytes e is = inr (Err e, is, refl)

-- an image that was read is all that the bytes print
pub image_only : (bytes : Bytes) (i : Image) → ((j : Result Image ReadError) → IsAnswer bytes j → Ok i ≡ j) → (says : Result Bytes Reason) → PrintsImage bytes says → says ≡ Ok (image_text i)
image_only bytes i only says (j, answer, same) = same ∙ ap of_image (sym (only j answer))
