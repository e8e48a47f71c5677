-- What the parts of a recovery and of an audit give.
use Rattle.std.specs.Prelude.{◌≡◌, ◌⊎◌, ◌+◌, ℕ, Bool, List, [], ◌∷◌, length, drop, Option, Some, None, Result, Ok, Err}
use Rattle.sha2.specs.Sha256.{sha256}
use Rattle.procedure.specs.Bytes.{Bytes, Cell}
use Rattle.procedure.specs.Table.{Table}
use Rattle.procedure.specs.Procedures.{Procedure}
use Rattle.commitlog.specs.Records.{Record, Call}
use Rattle.commitlog.specs.Histories.{EachAfter, after, table_after}
use Rattle.commitlog.specs.declared.formats.Version.{Version}
use Rattle.image.specs.Images.{Entry, Image}
use Rattle.image.specs.declared.merges.MergeError.{MergeError}
use Rattle.replay.specs.Audits.{InOrderBut, IsOutOfOrder, Passes}
use Rattle.replay.specs.Headers.{IsSpelling}
use Rattle.replay.specs.Recovery.{Recovery, chain_of}
use Rattle.replay.specs.Refusals.{of_merge}
use Rattle.replay.specs.Replays.{Diverges, IsAnsweredOn, IsFirst, LeavesFewOn, Overflows, RunsAgain, calls_in}
use Rattle.replay.specs.declared.audits.Audited.{Audited}
use Rattle.replay.specs.declared.calls.CallError.{CallError}
use Rattle.replay.specs.declared.calls.CallError.TheVariants as stopped
use Rattle.replay.specs.declared.errors.AuditError.{AuditError}
use Rattle.replay.specs.declared.errors.AuditError.TheVariants as audit
use Rattle.replay.specs.declared.errors.RecoverError.{RecoverError}
use Rattle.replay.specs.declared.errors.RecoverError.TheVariants as recover

-- the digest of the image's spelling in the log's version, where it has one
abbrev pub HasDigest : Version → Image → Option Bytes → Type 0
HasDigest v i (Some d) = (bytes : Bytes) × IsSpelling v i bytes × (d ≡ sha256 bytes)
HasDigest v i None = (bytes : Bytes) → IsSpelling v i bytes → ⊥

-- the keys that aren't gone, with their values
abbrev pub pairs_of : List Entry → List (Bytes × Bytes)
pairs_of [] = []
pairs_of ((k, None) ∷ es) = pairs_of es
pairs_of ((k, Some v) ∷ es) = (k, v) ∷ pairs_of es

-- what running a record again on a table gives
abbrev pub EntryAgain : List Procedure → Table → Record → Result Table CallError → Type 0
EntryAgain c t r (Ok u) = IsAnsweredOn c t r × LeavesFewOn c t r × (u ≡ table_after c t r)
EntryAgain c t r (Err stopped.Diverged) = IsAnsweredOn c t r → ⊥
EntryAgain c t r (Err stopped.TooMany) = IsAnsweredOn c t r × (LeavesFewOn c t r → ⊥)
EntryAgain c t r (Err stopped.NoMemory) = Unit {0}

abbrev pub CallAgain : List Procedure → Table → (procedure : ℕ) → List Bytes → (outcome : ℕ) → List Cell → Result Table CallError → Type 0
CallAgain c t p args o r x = EntryAgain c t (Call 0 0 p args o r) x

-- what putting the images together gives
abbrev pub Chained : List Image → Result Image RecoverError → Type 0
Chained is (Ok i) = chain_of is ≡ Ok i
Chained is (Err e) = ((x : MergeError) × (chain_of is ≡ Err x) × (e ≡ of_merge x)) ⊎ (e ≡ recover.NoMemory)

-- what running records again from a place on gives
abbrev pub RunAgain : List Procedure → Table → ℕ → List Record → Bool → Result Recovery RecoverError → Type 0
RunAgain c t k l torn (Ok r) = EachAfter (RunsAgain c t) (drop k l) × (r ≡ record { state = after c t (drop k l); calls = calls_in (drop k l); torn = torn })
RunAgain c t k l torn (Err (recover.Diverged p)) = (j : ℕ) × IsFirst (RunsAgain c t) (Diverges c t) (drop k l) j × (p ≡ k + j)
RunAgain c t k l torn (Err recover.TooMany) = (j : ℕ) × IsFirst (RunsAgain c t) (Overflows c t) (drop k l) j
RunAgain c t k l torn (Err recover.NoMemory) = Unit {0}
RunAgain c t k l torn (Err recover.WrongCatalog) = ⊥
RunAgain c t k l torn (Err recover.WrongOpening) = ⊥
RunAgain c t k l torn (Err recover.PlaceOutside) = ⊥
RunAgain c t k l torn (Err recover.NotFull) = ⊥
RunAgain c t k l torn (Err (recover.NotPartial j)) = ⊥
RunAgain c t k l torn (Err (recover.Gap j)) = ⊥
RunAgain c t k l torn (Err recover.NotALog) = ⊥
RunAgain c t k l torn (Err (recover.Damaged j)) = ⊥

-- why a record isn't run again, at its place, as a refusal of a recovery
abbrev pub at_place : CallError → ℕ → RecoverError
at_place stopped.Diverged p = recover.Diverged p
at_place stopped.TooMany p = recover.TooMany
at_place stopped.NoMemory p = recover.NoMemory

-- what the records give, one after another
abbrev pub AreAudited : List Procedure → Table → List Record → Bool → Result Audited AuditError → Type 0
AreAudited c t l torn (Ok a) = EachAfter (Passes c t) l × (a ≡ record { records = length l; calls = calls_in l; torn = torn })
AreAudited c t l torn (Err (audit.Disorder j)) = IsFirst (Passes c t) IsOutOfOrder l j
AreAudited c t l torn (Err (audit.Diverged j)) = IsFirst (Passes c t) (InOrderBut (Diverges c t)) l j
AreAudited c t l torn (Err audit.TooMany) = (j : ℕ) × IsFirst (Passes c t) (InOrderBut (Overflows c t)) l j
AreAudited c t l torn (Err audit.NoMemory) = Unit {0}
AreAudited c t l torn (Err audit.NotAnOpening) = ⊥
AreAudited c t l torn (Err audit.NotALog) = ⊥
AreAudited c t l torn (Err (audit.Damaged j)) = ⊥
AreAudited c t l torn (Err audit.WrongCatalog) = ⊥
AreAudited c t l torn (Err audit.WrongOpening) = ⊥

-- and of an audit
abbrev pub audited_at : CallError → ℕ → AuditError
audited_at stopped.Diverged p = audit.Diverged p
audited_at stopped.TooMany p = audit.TooMany
audited_at stopped.NoMemory p = audit.NoMemory
