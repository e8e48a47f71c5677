-- A log that passes its audit is one history, and each front of such a log passes.
use Rattle.std.proofs.Common.{◌≡◌, ◌⊎◌, inl, inr, List, length, IfOk, Ok, Err, refl, subst}
use Rattle.std.specs.declared.result.Result.{Result}
use Rattle.procedure.specs.Bytes.{Bytes}
use Rattle.procedure.specs.Procedures.{Procedure}
use Rattle.commitlog.specs.Histories.{EachAfter}
use Rattle.commitlog.specs.LogReadings.{Reading, Log, NotALog, Damaged, IsReading}
use Rattle.commitlog.proofs.Histories.{each-front}
use Rattle.image.specs.Images.{Image}
use Rattle.image.specs.Merges.{table_of}
use Rattle.replay.specs.Audits.{IsAudit, OfReading, Passes}
use Rattle.replay.specs.Promises.{FrontsPass, IsOneHistory}
use Rattle.replay.specs.Replays.{calls_in, is_torn}
use Rattle.replay.specs.declared.audits.Audited.{Audited}
use Rattle.replay.specs.declared.errors.AuditError.{AuditError}
use Rattle.replay.specs.declared.errors.AuditError.TheVariants as refused
use Rattle.replay.proofs.Auditing.{or_no_memory}
use Rattle.replay.proofs.LogFronts.{fronts_are_read}
use Rattle.replay.proofs.Promised.{all_again}

passed : (c : List Procedure) (i : Image) (text : Bytes) (a : Audited) (r : Reading) → IsReading text r → OfReading c i r (Ok a) → IsOneHistory c i text
passed c i text a NotALog read is = absurd (cc)
passed c i text a (Damaged j) read is = absurd (cc)
passed c i text a (Log v h l e) read is =
    (v, h, l, e, read, is.0.0, is.0.1, (λ j r s. (is.1 j r s).1.0), (λ j r s. (is.1 j r s).0.0), (λ j r s. (is.1 j r s).0.1))

pub one_history : (c : List Procedure) (i : Image) (text : Bytes) (x : Result Audited AuditError) → IsAudit c i text x ⊎ (x ≡ Err refused.NoMemory) → IfOk x (λ _. IsOneHistory c i text)
one_history c i text (Err e) answer = tt
one_history c i text (Ok a) (inr none) = absurd (cc)
one_history c i text (Ok a) (inl (inl other)) = let two = other.1 in absurd (cc)
one_history c i text (Ok a) (inl (inr told)) = passed c i text a told.1 told.2 told.3

pub fronts_pass : (c : List Procedure) (i : Image) (text : Bytes) (x : Result Audited AuditError) → IsAudit c i text x ⊎ (x ≡ Err refused.NoMemory) → FrontsPass c i text x
fronts_pass c i text x answer v h l history orderly front =
    let read = fronts_are_read v h l text front in
    let m = read.0 in
    let again = all_again c (table_of i) l history.legal history.few in
    let each : EachAfter (Passes c (table_of i)) l = λ j r s. ((orderly j r s, history.cyclic j r s), again j r s) in
    let each_read : EachAfter (Passes c (table_of i)) m = each-front (Passes c (table_of i)) m read.1 (subst (EachAfter (Passes c (table_of i))) read.2 each) in
    let found : Audited = record { records = length m; calls = calls_in m; torn = is_torn read.3 } in
    let is : IsAudit c i text (Ok found) = inr (history.opens, Log v h m read.3, read.4, ((history.catalog, history.named), each_read, refl)) in
    (m, read.1, read.2, read.3, read.4, or_no_memory c i text x (Ok found) answer is)
