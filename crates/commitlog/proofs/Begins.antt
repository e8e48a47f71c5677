-- A header and the records behind it.
use Rattle.std.proofs.Common.{◌≡◌, ℕ, List, ◌++◌, length, take, drop, refl, sym, ap, subst, ◌∙◌, append_assoc, arith}
use Rattle.std.specs.Prelude.{Result, Ok, Err}
use Rattle.std.proofs.lemmas.List.{take-append-drop, take-take}
use Rattle.sha2.specs.Sha256.{sha256}
use Rattle.procedure.specs.Bytes.{Bytes}
use Rattle.commitlog.specs.Records.{Record}
use Rattle.commitlog.specs.declared.formats.Version.{Version}
use Rattle.commitlog.specs.declared.formats.LogHeader.{LogHeader}
use Rattle.commitlog.specs.declared.decoding.Ending.{Ending}
use Rattle.commitlog.specs.declared.decoding.LogError.{LogError}
use Rattle.commitlog.specs.declared.decoding.LogError.TheVariants as refused
use Rattle.commitlog.specs.LogBytes.{magic, log_header_bytes, first_digest, records_bytes, digest_after}
use Rattle.commitlog.specs.LogReadings.{Fronts, EndsAfter, StopsAfter, IsDamage, IsHeader, Begins, Reading, Log, NotALog, Damaged, IsReading}
use Rattle.commitlog.specs.StoredLogs.{AnswersBy, IsAnswer, TellsBy, reading_of}
use Rattle.commitlog.specs.declared.decoding.StoredLog.{StoredLog}
use Rattle.commitlog.proofs.OneReadings.{one_reading}

-- the letters and the digests that were cut off are the header's
pub header_is : (v : Version) (h : LogHeader) (bytes cut digests : Bytes) → take 8 bytes ≡ magic v → cut ≡ take 72 bytes → digests ≡ drop 8 cut → h.catalog ++ h.opening ≡ digests →
    log_header_bytes v h ≡ take 72 bytes
header_is v h bytes cut digests letters is_cut are_digests are =
    let front = take 72 bytes in
    let same : take 8 front ≡ magic v = take-take 8 72 bytes (omega arith) ∙ letters in
    ap (λ (x : Bytes). x ++ (h.catalog ++ h.opening)) (sym same)
    ∙ ap (λ (x : Bytes). take 8 front ++ x) (are ∙ are_digests ∙ ap (drop 8) is_cut)
    ∙ take-append-drop 8 front

pub begins : (v : Version) (h : LogHeader) (d : Bytes) (rs : List Record) (rest bytes : Bytes) → IsHeader h → log_header_bytes v h ≡ take 72 bytes → d ≡ sha256 (take 72 bytes) →
    Fronts v d rs rest (drop 72 bytes) → Begins v h rs rest bytes
begins v h d rs rest bytes lengths front digest f =
    let first : d ≡ first_digest v h = digest ∙ ap sha256 (sym front) in
    record {
      header = lengths;
      text =
          sym (take-append-drop 72 bytes)
          ∙ ap (λ (x : Bytes). x ++ drop 72 bytes) (sym front)
          ∙ ap (λ (x : Bytes). log_header_bytes v h ++ x) (f.text ∙ ap (λ (x : Bytes). records_bytes x rs ++ rest) first)
          ∙ sym (append_assoc (log_header_bytes v h) (records_bytes (first_digest v h) rs) rest);
      records = f.records;
      count = f.count;
    }

pub ends_so : (v : Version) (h : LogHeader) (d : Bytes) (rs : List Record) (e : Ending) (bytes : Bytes) → IsHeader h → log_header_bytes v h ≡ take 72 bytes → d ≡ sha256 (take 72 bytes) →
    EndsAfter v d (drop 72 bytes) rs e → IsReading bytes (Log v h rs e)
ends_so v h d rs e bytes lengths front digest told = (told.0, begins v h d rs told.0 bytes lengths front digest told.1, told.2)

-- where records stop
pub stops_so : {X : Type 0} (reads : X → Reading) (v : Version) (h : LogHeader) (d : Bytes) (e : LogError) (bytes : Bytes) → IsHeader h → log_header_bytes v h ≡ take 72 bytes → d ≡ sha256 (take 72 bytes) →
    StopsAfter v d (drop 72 bytes) e → AnswersBy reads bytes (Err e)
stops_so reads v h d refused.NotALog bytes lengths front digest told = absurd told.3
stops_so reads v h d refused.NoMemory bytes lengths front digest told = absurd told.3
stops_so reads v h d (refused.Damaged i) bytes lengths front digest told =
    let first : d ≡ first_digest v h = digest ∙ ap sha256 (sym front) in
    let damage : IsDamage v (digest_after (first_digest v h) told.0) i told.1 =
    subst (λ (n : ℕ). IsDamage v (digest_after (first_digest v h) told.0) n told.1) (sym told.3.0)
    (subst (λ (x : Bytes). IsDamage v (digest_after x told.0) (length told.0) told.1) first told.3.1) in
    (v, h, told.0, told.1, begins v h d told.0 told.1 bytes lengths front digest told.2, sym told.3.0, damage)

abbrev failed : {X : Type 0} → LogError → Result X LogError
failed e = Err e

-- which isn't for want of memory
pub stops_unlike : {X : Type 0} (v : Version) (d : Bytes) (e : LogError) (bytes : Bytes) → StopsAfter v d bytes e → failed {X = X} e ≡ Err refused.NoMemory → ⊥
stops_unlike v d refused.NotALog bytes told same = told.3
stops_unlike v d refused.NoMemory bytes told same = told.3
stops_unlike v d (refused.Damaged i) bytes told same = cc

-- the one reading is told
pub tells : {X : Type 0} (reads : X → Reading) (bytes : Bytes) (o : Result X LogError) (r : Reading) → AnswersBy reads bytes o → IsReading bytes r → TellsBy reads o r
tells reads bytes (Ok log) r a b = one_reading bytes r (reads log) b a
tells reads bytes (Err refused.NotALog) r a b = one_reading bytes r NotALog b a
tells reads bytes (Err (refused.Damaged i)) r a b = one_reading bytes r (Damaged i) b a
tells reads bytes (Err refused.NoMemory) r a b = tt

-- and that a text is no log, or where it is damaged, whatever the memory is
pub tells_no_log : {A : Type 0} (bytes : Bytes) (o : Result (StoredLog A) LogError) → IsAnswer bytes o → IsReading bytes NotALog → o ≡ Err refused.NotALog
tells_no_log bytes (Ok log) a b = absurd (cc (one_reading bytes NotALog (reading_of log) b a))
tells_no_log bytes (Err refused.NotALog) a b = refl
tells_no_log bytes (Err (refused.Damaged i)) a b = absurd (cc (one_reading bytes NotALog (Damaged i) b a))
tells_no_log bytes (Err refused.NoMemory) (v, h, rs, e, a) b = absurd (cc (one_reading bytes NotALog (Log v h rs e) b a))

pub tells_damage : {A : Type 0} (bytes : Bytes) (o : Result (StoredLog A) LogError) (i : ℕ) → IsAnswer bytes o → IsReading bytes (Damaged i) → o ≡ Err (refused.Damaged i)
tells_damage bytes (Ok log) i a b = absurd (cc (one_reading bytes (Damaged i) (reading_of log) b a))
tells_damage bytes (Err refused.NotALog) i a b = absurd (cc (one_reading bytes (Damaged i) NotALog b a))
tells_damage bytes (Err (refused.Damaged j)) i a b = cc (one_reading bytes (Damaged i) (Damaged j) b a)
tells_damage bytes (Err refused.NoMemory) i (v, h, rs, e, a) b = absurd (cc (one_reading bytes (Damaged i) (Log v h rs e) b a))
