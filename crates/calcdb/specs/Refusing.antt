-- How a command ends that says in one line why it isn't done.
use Rattle.std.specs.Prelude.{◌≡◌, ◌⊎◌, [], Option, Result, Err}
use Rattle.std.specs.Io.KnownBytes.{Appends}
use Rattle.procedure.specs.Bytes.{Bytes}
use Rattle.calcdb.specs.Outcomes.{fault_text}
use Rattle.procedure.specs.Streams.{IsBegun}
use Rattle.calcdb.specs.declared.faults.Fault.{Fault}
use Rattle.calcdb.specs.declared.faults.Fault.TheVariants as fault
use Rattle.calcdb.specs.declared.faults.Reason.{Reason}
use Rattle.calcdb.specs.declared.faults.Reason.TheVariants as reason
use Rattle.calcdb.specs.declared.scripts.ScriptFault.{ScriptFault}
use Rattle.calcdb.specs.declared.scripts.ScriptFault.TheVariants as script

abbrev pub no_memory : Fault
no_memory = fault.Refused reason.NoMemory

-- the fault of a text, in the words of the program
abbrev pub text_fault : ScriptFault → Fault
text_fault (script.Line n) = fault.Line n
text_fault script.Size = fault.Size
text_fault script.NoMemory = no_memory

-- the line of a fault was written, and the answer is the fault; or a write failed, after a beginning of it
abbrev pub IsSaid : Fault → Option Bytes → Option Bytes → Fault → Type 0
IsSaid f old new r = ((r ≡ f) × Appends old new (fault_text f)) ⊎ ((r ≡ fault.Write) × IsBegun old new (fault_text f))

-- the fault was said, or want of memory was
abbrev pub Declines : Fault → Option Bytes → Option Bytes → Fault → Type 0
Declines f old new r = IsSaid f old new r ⊎ IsSaid no_memory old new r

-- of a command whose faults, and what it writes where there is none, are these
module _ (IsFault : Fault → Type 0) (IsText : Bytes → Type 0) where
  -- what may be written: that, or the line of a fault
  abbrev pub IsLine : Bytes → Type 0
  IsLine text = IsText text ⊎ ((f : Fault) × IsFault f × (text ≡ fault_text f))

  -- what went out by the time of a fault: its line; where a write failed a beginning of what may be written, and where a read failed nothing
  abbrev pub FailsAs : Option Bytes → Option Bytes → Fault → Type 0
  FailsAs old new (fault.Line n) = IsFault (fault.Line n) × Appends old new (fault_text (fault.Line n))
  FailsAs old new fault.Size = IsFault fault.Size × Appends old new (fault_text fault.Size)
  FailsAs old new (fault.Refused r) = IsFault (fault.Refused r) × Appends old new (fault_text (fault.Refused r))
  FailsAs old new fault.Read = IsFault fault.Read × Appends old new []
  FailsAs old new fault.Write = (text : Bytes) × IsLine text × IsBegun old new text
  FailsAs old new fault.NoMemory = ⊥

-- how writing a text ends that isn't written: want of memory was said, or a write failed after a beginning of it
abbrev pub FailsText : Bytes → Option Bytes → Option Bytes → Fault → Type 0
FailsText text = FailsAs (λ f. f ≡ no_memory) (λ t. t ≡ text)

-- want of memory, or a reason by which the input is refused
module _ (Refuses : Reason → Type 0) where
  abbrev pub IsRefusal : Fault → Type 0
  IsRefusal (fault.Refused r) = (r ≡ reason.NoMemory) ⊎ Refuses r
  IsRefusal _ = ⊥

-- the faults that are answered where the input says this: its refusal; and whatever it says, that a write failed or memory was wanting
abbrev pub Suits : {X : Type 0} → Fault → Result X Reason → Type 0
Suits (fault.Refused r) says = (r ≡ reason.NoMemory) ⊎ (says ≡ Err r)
Suits fault.Write says = Unit {0}
Suits _ says = ⊥
