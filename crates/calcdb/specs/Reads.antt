-- What a part of a text is read as, or nothing where it is faulty.
use Rattle.std.specs.Prelude.{◌≡◌, Option, Some, None, Result, Ok, Err}
use Rattle.calcdb.specs.declared.faults.misreads.Misread.{Misread}
use Rattle.calcdb.specs.declared.faults.unread.Unread.{Unread}
use Rattle.calcdb.specs.declared.faults.unread.Unread.TheVariants.{Faulty, NoMemory}

infixl 10 ◌>>=◌
abbrev pub ◌>>=◌ : {X Y : Type 0} → Option X → (X → Option Y) → Option Y
None >>= f = None
(Some x) >>= f = f x

abbrev pub FailsToRead : {Y : Type 0} → Unread → Option Y → Type 0
FailsToRead (Faulty why) read = read ≡ None
FailsToRead NoMemory read = Unit {0}

-- what a call answers is what is read, want of memory apart
abbrev pub ReadsAs : {X Y : Type 0} → (X → Y) → Result X Unread → Option Y → Type 0
ReadsAs view (Ok x) read = read ≡ Some (view x)
ReadsAs view (Err e) read = FailsToRead e read

-- what a call answers that takes no memory is what is read
abbrev pub ReadsExactly : {X Y : Type 0} → (X → Y) → Result X Misread → Option Y → Type 0
ReadsExactly view (Ok x) read = read ≡ Some (view x)
ReadsExactly view (Err why) read = read ≡ None
