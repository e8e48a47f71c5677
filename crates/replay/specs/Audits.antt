-- What an audit of a log from its opening answers.
use Rattle.std.specs.Prelude.{◌≡◌, ◌⊎◌, ℕ, true, false, List, length, Ok, Err}
use Rattle.std.specs.declared.result.Result.{Result}
use Rattle.procedure.specs.Bytes.{Bytes}
use Rattle.procedure.specs.Table.{Table}
use Rattle.procedure.specs.Procedures.{Procedure}
use Rattle.commitlog.specs.Records.{Record}
use Rattle.commitlog.specs.Histories.{EachAfter}
use Rattle.commitlog.specs.LogReadings.{Reading, IsReading}
use Rattle.commitlog.specs.declared.formats.Version.{Version}
use Rattle.commitlog.specs.declared.formats.LogHeader.{LogHeader}
use Rattle.commitlog.specs.declared.decoding.Ending.{Ending}
use Rattle.image.specs.Images.{Image}
use Rattle.image.specs.Merges.{table_of}
use Rattle.image.specs.Openings.{is_opening}
use Rattle.replay.specs.Replays.{RunsAgain, Diverges, Overflows, IsFirst, calls_in, is_torn}
use Rattle.replay.specs.Orders.{IsInOrder}
use Rattle.replay.specs.Answers.{ToReading}
use Rattle.replay.specs.Refusals.{audit_of_log}
use Rattle.replay.specs.Headers.{NamesCatalog, NamesOpening}
use Rattle.replay.specs.declared.audits.Audited.{Audited}
use Rattle.replay.specs.declared.errors.AuditError.{AuditError}
use Rattle.replay.specs.declared.errors.AuditError.TheVariants as refused

abbrev pub IsOutOfOrder : List Record → Record → Type 0
IsOutOfOrder l r = IsInOrder l r → ⊥

-- in order, and run again it says what it said
abbrev pub Passes : List Procedure → Table → List Record → Record → Type 0
Passes c t l r = IsInOrder l r × RunsAgain c t l r

-- in order, and as F says
abbrev pub InOrderBut : (List Record → Record → Type 0) → List Record → Record → Type 0
InOrderBut F l r = IsInOrder l r × F l r

-- the header names the catalog and the opening
abbrev pub NamesBoth : List Procedure → Image → Version → LogHeader → Type 0
NamesBoth c i v h = NamesCatalog h c × NamesOpening v h i

abbrev pub FailsAt : (List Record → Record → Type 0) → List Procedure → Image → List Record → ℕ → Type 0
FailsAt F c i l j = IsFirst (Passes c (table_of i)) F l j

-- what is answered to an opening and a log that was read: the first of these refusals whose condition holds, or the
-- numbers of its records and calls
abbrev pub OfLog : List Procedure → Image → Version → LogHeader → List Record → Ending → Result Audited AuditError → Type 0
OfLog c i v h l e (Err refused.WrongCatalog) = NamesCatalog h c → ⊥
OfLog c i v h l e (Err refused.WrongOpening) = NamesCatalog h c × (NamesOpening v h i → ⊥)
OfLog c i v h l e (Err (refused.Disorder j)) = NamesBoth c i v h × FailsAt IsOutOfOrder c i l j
OfLog c i v h l e (Err (refused.Diverged j)) = NamesBoth c i v h × FailsAt (InOrderBut (Diverges c (table_of i))) c i l j
OfLog c i v h l e (Err refused.TooMany) = NamesBoth c i v h × (j : ℕ) × FailsAt (InOrderBut (Overflows c (table_of i))) c i l j
OfLog c i v h l e (Ok a) = NamesBoth c i v h × EachAfter (Passes c (table_of i)) l × (a ≡ record { records = length l; calls = calls_in l; torn = is_torn e })
-- no other refusal is of the log
OfLog c i v h l e (Err refused.NotAnOpening) = ⊥
OfLog c i v h l e (Err refused.NotALog) = ⊥
OfLog c i v h l e (Err (refused.Damaged j)) = ⊥
OfLog c i v h l e (Err refused.NoMemory) = ⊥

-- to an opening and what bytes say as a log
abbrev pub OfReading : List Procedure → Image → Reading → Result Audited AuditError → Type 0
OfReading c i = ToReading (λ e. Err (audit_of_log e)) (OfLog c i)

-- what is answered, want of memory apart
abbrev pub IsAudit : List Procedure → Image → Bytes → Result Audited AuditError → Type 0
IsAudit c i text a = ((is_opening i ≡ false) × (a ≡ Err refused.NotAnOpening)) ⊎ ((is_opening i ≡ true) × (r : Reading) × IsReading text r × OfReading c i r a)
