-- Faults that were said, as ends of a command.
use Rattle.std.proofs.Common.{◌≡◌, ◌⊎◌, inl, inr, Option, refl, Result, Err}
use Rattle.std.specs.Io.KnownBytes.{Appends}
use Rattle.procedure.specs.Bytes.{Bytes}
use Rattle.calcdb.specs.Outcomes.{HasLine, fault_text}
use Rattle.calcdb.specs.Refusing.{Declines, FailsAs, IsLine, IsSaid, Suits, no_memory}
use Rattle.procedure.specs.Streams.{IsBegun}
use Rattle.calcdb.specs.declared.faults.Fault.{Fault}
use Rattle.calcdb.specs.declared.faults.Fault.TheVariants as fault
use Rattle.calcdb.specs.declared.faults.Reason.{Reason}
use Rattle.calcdb.specs.declared.faults.Reason.TheVariants as reason

module _ (P : Fault → Type 0) (S : Bytes → Type 0) (old new : Option Bytes) where
  fails_with : (f : Fault) → HasLine f → P f → Appends old new (fault_text f) → FailsAs P S old new f
  fails_with (fault.Line n) has is out = (is, out)
  fails_with fault.Size has is out = (is, out)
  fails_with (fault.Refused r) has is out = (is, out)
  fails_with fault.Read has is out = absurd has
  fails_with fault.Write has is out = absurd has
  fails_with fault.NoMemory has is out = absurd has

  said : (f r : Fault) → HasLine f → P f → IsSaid f old new r → FailsAs P S old new r
  said f r has is (inl (same, out)) = rw same (fails_with f has is out)
  said f r has is (inr (same, out)) = rw same (fault_text f, inr (f, is, refl), out)

  -- a fault that was declined is an end of the command, where want of memory may be one
  pub declined : (f r : Fault) → HasLine f → P f → P no_memory → Declines f old new r → FailsAs P S old new r
  declined f r has is wants (inl h) = said f r has is h
  declined f r has is wants (inr h) = said no_memory r tt wants h

  -- what may be written, of which a beginning went out
  pub begun : (text : Bytes) → S text → IsBegun old new text → FailsAs P S old new fault.Write
  begun text is out = (text, inl is, out)

module _ (P Q : Fault → Type 0) (S T : Bytes → Type 0) (faults : (f : Fault) → P f → Q f) (texts : (t : Bytes) → S t → T t) (old new : Option Bytes) where
  wider_line : (text : Bytes) → IsLine P S text → IsLine Q T text
  wider_line text (inl is) = inl (texts text is)
  wider_line text (inr (f, is, same)) = inr (f, faults f is, same)

  -- an end of a command that has more faults and texts
  pub fails_wider : (f : Fault) → FailsAs P S old new f → FailsAs Q T old new f
  fails_wider (fault.Line n) (is, out) = (faults (fault.Line n) is, out)
  fails_wider fault.Size (is, out) = (faults fault.Size is, out)
  fails_wider (fault.Refused r) (is, out) = (faults (fault.Refused r) is, out)
  fails_wider fault.Read (is, out) = (faults fault.Read is, out)
  fails_wider fault.Write (text, is, out) = (text, wider_line text is, out)
  fails_wider fault.NoMemory h = absurd h

pub suits_said : {X : Type 0} (f x : Fault) (old new : Option Bytes) (r : Reason) (says : Result X Reason) → f ≡ fault.Refused r → (r ≡ reason.NoMemory) ⊎ (says ≡ Err r) → IsSaid f old new x →
    Suits x says
suits_said f x old new r says is told (inl (same, out)) = rw (same, is) told
suits_said f x old new r says is told (inr (same, out)) = rw same tt

-- a reason that was declined is that of the input
pub suits_declined : {X : Type 0} (x : Fault) (old new : Option Bytes) (r : Reason) (says : Result X Reason) → (r ≡ reason.NoMemory) ⊎ (says ≡ Err r) → Declines (fault.Refused r) old new x →
    Suits x says
suits_declined x old new r says told (inl h) = suits_said (fault.Refused r) x old new r says refl told h
suits_declined x old new r says told (inr h) = suits_said no_memory x old new reason.NoMemory says refl (inl refl) h

-- a header line that wasn't written is want of memory
pub suits_header : {X : Type 0} (f : Fault) (text : Bytes) (old new : Option Bytes) (says : Result X Reason) → FailsAs (λ g. g ≡ no_memory) (λ (t : Bytes). t ≡ text) old new f → Suits f says
suits_header (fault.Line n) text old new says (is, out) = absurd (cc)
suits_header fault.Size text old new says (is, out) = absurd (cc)
suits_header (fault.Refused r) text old new says (is, out) = inl (cc)
suits_header fault.Read text old new says (is, out) = absurd (cc)
suits_header fault.Write text old new says h = tt
suits_header fault.NoMemory text old new says h = absurd h
