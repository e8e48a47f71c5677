-- The log of a core passes its audit.
use Rattle.std.proofs.Common.{◌≡◌, ◌⊎◌, inl, inr, ◌≤◌, arith, List, [], ◌++◌, length, Result, Ok, Err, sym, ap, ◌∙◌, subst}
use Rattle.std.specs.List.{AllByRecursion}
use Rattle.std.proofs.lemmas.List.{append-nil, length-append}
use Rattle.procedure.specs.Bytes.{Bytes}
use Rattle.procedure.specs.Procedures.{Procedure}
use Rattle.image.specs.Images.{Image}
use Rattle.commitlog.specs.Histories.{IsOrderly}
use Rattle.commitlog.specs.LogBytes.{Fits, first_digest, log_bytes, log_header_bytes, magic, records_bytes}
use Rattle.commitlog.specs.LogReadings.{IsHeader}
use Rattle.commitlog.specs.Records.{Record}
use Rattle.commitlog.specs.declared.formats.LogHeader.{LogHeader}
use Rattle.commitlog.specs.declared.formats.Version.TheVariants.{Two}
use Rattle.commitlog.specs.declared.limits.TheConstants.{LOG_RECORDS}
use Rattle.replay.specs.Headers.{NamesCatalog, NamesOpening}
use Rattle.replay.specs.Promises.{FrontsPass, IsFrontOf}
use Rattle.replay.specs.declared.audits.Audited.{Audited}
use Rattle.replay.specs.declared.errors.AuditError.{AuditError}
use Rattle.replay.specs.declared.errors.AuditError.TheVariants as refused
use Rattle.steps.specs.CoreViews.{CoreView}
use Rattle.calcdb.specs.OwnFiles.{HasHistory}

-- all of a log's bytes are a front of them
whole_front : (h : LogHeader) (l : List Record) → IsHeader h → AllByRecursion (Fits Two) l → length l ≤ LOG_RECORDS → IsFrontOf Two h l (log_bytes Two h l)
whole_front h l header fits most = record {
  header = header;
  records = fits;
  count = most;
  long = omega (arith, length-append (log_header_bytes Two h) (records_bytes (first_digest Two h) l), length-append (magic Two) (h.catalog ++ h.opening), length-append h.catalog h.opening, header.catalog, header.opening);
  behind = [];
  bytes = sym (append-nil (log_bytes Two h l));
}

module _ (core : CoreView) (catalog : List Procedure) (opening : Image) (log : List Record) (h : LogHeader) (text : Bytes) (x : Result Audited AuditError)
    (same_catalog : catalog ≡ core.catalog) (same_opening : opening ≡ core.opening) (same_log : log ≡ core.log)
  where
    answer : {a : Audited} → (x ≡ Ok a) ⊎ (x ≡ Err refused.NoMemory) → ((a : Audited) × (x ≡ Ok a)) ⊎ (x ≡ Err refused.NoMemory)
    answer {a} (inl is) = inl (a, is)
    answer (inr none) = inr none

    -- an audit of it finds nothing, unless memory ran out
    pub passes : HasHistory core → NamesCatalog h core.catalog → NamesOpening Two h core.opening → IsHeader h → IsOrderly core.log → length core.log ≤ LOG_RECORDS →
        AllByRecursion (Fits Two) log → text ≡ log_bytes Two h log → FrontsPass catalog opening text x → ((a : Audited) × (x ≡ Ok a)) ⊎ (x ≡ Err refused.NoMemory)
    passes history names_catalog names_opening header orderly most fits is fronts =
        let own : FrontsPass core.catalog core.opening text x = subst (λ (i : Image). FrontsPass core.catalog i text x) same_opening (subst (λ (c : List Procedure). FrontsPass c opening text x) same_catalog fronts) in
        let text_is : text ≡ log_bytes Two h core.log = is ∙ ap (log_bytes Two h) same_log in
        let whole = whole_front h core.log header (subst (AllByRecursion (Fits Two)) same_log fits) most in
        let f = own Two h core.log (history Two h names_catalog names_opening) orderly (subst (IsFrontOf Two h core.log) (sym text_is) whole) in
        answer f.5

-- a refusal is out of memory
pub only_memory : (x : Result Audited AuditError) (e : AuditError) → ((a : Audited) × (x ≡ Ok a)) ⊎ (x ≡ Err refused.NoMemory) → x ≡ Err e → e ≡ refused.NoMemory
only_memory x e (inl (a, is)) was = absurd (cc)
only_memory x e (inr none) was = cc
