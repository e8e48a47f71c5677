-- A log that went out record by record.
use Rattle.std.proofs.Common.{◌≡◌, ◌<◌, ◌+◌, ℕ, true, false, List, [], ◌∷◌, ◌++◌, length, get_or, take, drop, Option, Result, Ok, Err, sym, subst, ap, ◌∙◌, append_assoc}
use Rattle.std.proofs.lemmas.List.{drop_more, take-append-drop, take_more}
use Rattle.std.specs.Prelude.{OnErr}
use Rattle.std.specs.Io.KnownBytes.{Appends}
use Rattle.std.proofs.KnownBytes.{Appends-trans}
use Rattle.procedure.specs.Bytes.{Bytes}
use Rattle.commitlog.specs.Records.{Record}
use Rattle.commitlog.specs.LogBytes.{digest_after, first_digest, log_bytes, log_header_bytes, next_digest, record_bytes, records_bytes}
use Rattle.commitlog.specs.LogWriters.{Sent, HasSent, HasStopped}
use Rattle.commitlog.specs.Pieces.{Sends}
use Rattle.commitlog.proofs.Chains.{digest_more, records_more, records_on}
use Rattle.commitlog.specs.declared.formats.LogHeader.{LogHeader}
use Rattle.commitlog.specs.declared.formats.Version.TheVariants.{Two}

log_bytes-last : (h : LogHeader) (rs : List Record) (r : Record) → log_bytes Two h (rs ++ r ∷ []) ≡ log_bytes Two h rs ++ record_bytes (digest_after (first_digest Two h) rs) r
log_bytes-last h rs r =
    ap (λ (y : Bytes). log_header_bytes Two h ++ y) (records_more (first_digest Two h) rs r)
    ∙ sym (append_assoc (log_header_bytes Two h) (records_bytes (first_digest Two h) rs) (record_bytes (digest_after (first_digest Two h) rs) r))

-- a record more went out whole
pub one_more : (start : Option Bytes) (old new : Sent) (h : LogHeader) (rs : List Record) (r : Record) → HasSent start old h rs → Sends old.bytes new.bytes old.is_faulty new.is_faulty (record_bytes old.digest r) → new.digest ≡ next_digest old.digest r
    → new.is_faulty ≡ false → HasSent start new h (rs ++ r ∷ [])
one_more start old new h rs r was sends is sound =
    let d = digest_after (first_digest Two h) rs in
    let went = Appends-trans start old.bytes new.bytes (log_bytes Two h rs) (record_bytes old.digest r) was.bytes (sends.whole (λ e. absurd (cc))) in
    record {
      bytes = subst (Appends start new.bytes) (ap (λ (x : Bytes). log_bytes Two h rs ++ record_bytes x r) was.digest ∙ sym (log_bytes-last h rs r)) went;
      digest = is ∙ ap (λ (x : Bytes). next_digest x r) was.digest ∙ sym (digest_more (first_digest Two h) rs r);
      sound = λ e. absurd (cc);
    }

-- a write failed on the way
pub begins_one_more : (start : Option Bytes) (old new : Sent) (h : LogHeader) (rs : List Record) (r : Record) → HasSent start old h rs → Sends old.bytes new.bytes old.is_faulty new.is_faulty (record_bytes old.digest r)
    → new.is_faulty ≡ true → HasStopped start new h rs (r ∷ [])
begins_one_more start old new h rs r was sends faulty =
    let (out, left, parts, went) = sends.begun in
    record {
      out = out;
      left = left;
      parts = log_bytes-last h rs r ∙ ap (λ (x : Bytes). log_bytes Two h rs ++ record_bytes x r) (sym was.digest) ∙ ap (λ (x : Bytes). log_bytes Two h rs ++ x) parts;
      bytes = Appends-trans start old.bytes new.bytes (log_bytes Two h rs) out was.bytes went;
      faulty = faulty;
    }

-- ---- records one after another

regrouped : (t a o l b : Bytes) → ((t ++ a) ++ (o ++ l)) ++ b ≡ t ++ ((a ++ o) ++ (l ++ b))
regrouped t a o l b = simp append_assoc

-- what follows the log of some records in that of more
abbrev rest_of : LogHeader → (rs more : List Record) → Bytes
rest_of h rs more = records_bytes (digest_after (first_digest Two h) rs) more

log_bytes-more : (h : LogHeader) (rs more : List Record) → log_bytes Two h (rs ++ more) ≡ log_bytes Two h rs ++ rest_of h rs more
log_bytes-more h rs more =
    ap (λ (y : Bytes). log_header_bytes Two h ++ y) (records_on (first_digest Two h) rs more)
    ∙ sym (append_assoc (log_header_bytes Two h) (records_bytes (first_digest Two h) rs) (rest_of h rs more))

pub sent_so_far : (start : Option Bytes) (s : Sent) (h : LogHeader) (rs records : List Record) (i : ℕ) (r : Record) → i < length records → r ≡ get_or records i r → HasSent start s h ((rs ++ take i records) ++ r ∷ []) →
    HasSent start s h (rs ++ take (i + 1) records)
sent_so_far start s h rs records i r lt is sent =
    subst (HasSent start s h)
    (append_assoc rs (take i records) (r ∷ []) ∙ ap (λ (x : Record). rs ++ (take i records ++ x ∷ [])) is ∙ ap (λ (l : List Record). rs ++ l) (sym (take_more records i r lt))) sent

-- one of them stops it
pub stops_in : (start : Option Bytes) (s : Sent) (h : LogHeader) (rs records : List Record) (i : ℕ) (r : Record) → i < length records → r ≡ get_or records i r → HasStopped start s h (rs ++ take i records) (r ∷ []) →
    HasStopped start s h rs records
stops_in start s h rs records i r lt is stopped =
    let front = take i records in
    let back = drop (i + 1) records in
    let parts : records ≡ front ++ (r ∷ back) =
    sym (take-append-drop i records) ∙ ap (λ (l : List Record). front ++ l) (drop_more records i r lt) ∙ ap (λ (x : Record). front ++ (x ∷ back)) (sym is) in
    let a = rest_of h rs front in
    let b = rest_of h ((rs ++ front) ++ r ∷ []) back in
    let before : log_bytes Two h (rs ++ front) ≡ log_bytes Two h rs ++ a = log_bytes-more h rs front in
    let lists : rs ++ records ≡ ((rs ++ front) ++ r ∷ []) ++ back =
    ap (λ (l : List Record). rs ++ l) parts ∙ sym (append_assoc rs front (r ∷ back)) ∙ sym (append_assoc (rs ++ front) (r ∷ []) back) in
    let whole : log_bytes Two h (rs ++ records) ≡ ((log_bytes Two h rs ++ a) ++ (stopped.out ++ stopped.left)) ++ b =
    ap (λ (l : List Record). log_bytes Two h l) lists ∙ log_bytes-more h ((rs ++ front) ++ r ∷ []) back ∙ ap (λ (x : Bytes). x ++ b) (stopped.parts ∙ ap (λ (x : Bytes). x ++ (stopped.out ++ stopped.left)) before) in
    record {
      out = a ++ stopped.out;
      left = stopped.left ++ b;
      parts = whole ∙ regrouped (log_bytes Two h rs) a stopped.out stopped.left b;
      bytes = subst (Appends start s.bytes) (ap (λ (x : Bytes). x ++ stopped.out) before ∙ append_assoc (log_bytes Two h rs) a stopped.out) stopped.bytes;
      faulty = stopped.faulty;
    }

pub if_err : {T E P : Type 0} (r : Result T E) → P → OnErr r P
if_err (Ok x) p = tt
if_err (Err e) p = p
