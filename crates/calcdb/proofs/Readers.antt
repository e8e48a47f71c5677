-- Errors that a reader hands on.
use Rattle.std.proofs.Common.{◌≡◌, List, ◌++◌, Option, Some, None, Result, Ok, Err}
use Rattle.std.specs.Result.{IsErrAnd}
use Rattle.calcdb.specs.Reads.{◌>>=◌, FailsToRead, ReadsAs}
use Rattle.calcdb.specs.declared.faults.misreads.Misread.{Misread}
use Rattle.calcdb.specs.declared.faults.unread.Unread.{Unread}
use Rattle.calcdb.specs.declared.faults.unread.Unread.TheVariants.{Faulty, NoMemory}

-- where a part isn't read, what it is a part of isn't
pub fails_on : {X Y : Type 0} (e : Unread) (part : Option X) (read : Option Y) → (part ≡ None → read ≡ None) → FailsToRead e part → FailsToRead e read
fails_on (Faulty why) part read whole h = whole h
fails_on NoMemory part read whole h = tt

-- the error of a part is handed on for the whole
pub handed_on : {X Y A : Type 0} (view : A → Y) (r : Result A Unread) (e : Unread) (part : Option X) (read : Option Y) →
    IsErrAnd r (λ f. f ≡ e) → FailsToRead e part → (part ≡ None → read ≡ None) → ReadsAs view r read
handed_on view (Ok x) e part read is h whole = absurd is
handed_on view (Err f) e part read is h whole = rw is (fails_on e part read whole h)

-- and so is that of a part which takes no memory
pub fault_handed_on : {X Y A : Type 0} (view : A → Y) (r : Result A Unread) (why : Misread) (part : Option X) (read : Option Y) →
    IsErrAnd r (λ f. f ≡ Faulty why) → part ≡ None → (part ≡ None → read ≡ None) → ReadsAs view r read
fault_handed_on view (Ok x) why part read is none whole = absurd is
fault_handed_on view (Err f) why part read is none whole = rw is (whole none)

-- what is read, behind what was read before
abbrev pub behind : {X : Type 0} → List X → Option (List X) → Option (List X)
behind front read = read >>= λ xs. Some (front ++ xs)
