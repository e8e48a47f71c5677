-- Records one after another.
use Rattle.std.proofs.Common.{◌≡◌, ◌<◌, ◌+◌, ℕ, List, [], ◌∷◌, ◌++◌, length, refl, sym, ap, subst, ◌∙◌, append_assoc, arith}
use Rattle.std.specs.List.{AllByRecursion}
use Rattle.std.proofs.lemmas.List.{length-append, append-nil}
use Rattle.procedure.specs.Bytes.{Bytes}
use Rattle.commitlog.specs.Records.{Record}
use Rattle.commitlog.specs.declared.formats.Version.{Version}
use Rattle.commitlog.specs.declared.limits.TheConstants.{LOG_RECORDS}
use Rattle.commitlog.specs.LogBytes.{Fits, next_digest, record_bytes, records_bytes, digest_after}
use Rattle.commitlog.specs.LogReadings.{Ends, EndsAfterSome, Fronts, IsStop, StandsFirst, StopsAfter}
use Rattle.commitlog.specs.declared.decoding.Ending.{Ending}
use Rattle.commitlog.specs.declared.decoding.LogError.{LogError}

-- with one record more
pub records_more : (d : Bytes) (rs : List Record) (r : Record) → records_bytes d (rs ++ r ∷ []) ≡ records_bytes d rs ++ record_bytes (digest_after d rs) r
records_more d [] r = append-nil (record_bytes d r)
records_more d (x ∷ rs) r =
    ap (λ (t : Bytes). record_bytes d x ++ t) (records_more (next_digest d x) rs r)
    ∙ sym (append_assoc (record_bytes d x) (records_bytes (next_digest d x) rs) (record_bytes (digest_after (next_digest d x) rs) r))

-- with more records
pub records_on : (d : Bytes) (rs more : List Record) → records_bytes d (rs ++ more) ≡ records_bytes d rs ++ records_bytes (digest_after d rs) more
records_on d [] more = refl
records_on d (x ∷ rs) more =
    ap (λ (t : Bytes). record_bytes d x ++ t) (records_on (next_digest d x) rs more)
    ∙ sym (append_assoc (record_bytes d x) (records_bytes (next_digest d x) rs) (records_bytes (digest_after (next_digest d x) rs) more))

pub digest_more : (d : Bytes) (rs : List Record) (r : Record) → digest_after d (rs ++ r ∷ []) ≡ next_digest (digest_after d rs) r
digest_more d [] r = refl
digest_more d (x ∷ rs) r = digest_more (next_digest d x) rs r

pub fit_more : (v : Version) (rs : List Record) (r : Record) → AllByRecursion (Fits v) rs → Fits v r → AllByRecursion (Fits v) (rs ++ r ∷ [])
fit_more v [] r fits one = (one, tt)
fit_more v (x ∷ rs) r fits one = (fits.0, fit_more v rs r fits.1 one)

pub fronts_more : (v : Version) (d : Bytes) (rs : List Record) (r : Record) (rest left all : Bytes) → Fronts v d rs rest all → length rs < LOG_RECORDS → Fits v r →
    rest ≡ record_bytes (digest_after d rs) r ++ left → Fronts v d (rs ++ r ∷ []) left all
fronts_more v d rs r rest left all f room fits text = record {
  text =
      f.text ∙ ap (λ (t : Bytes). records_bytes d rs ++ t) text
      ∙ sym (append_assoc (records_bytes d rs) (record_bytes (digest_after d rs) r) left)
      ∙ ap (λ (t : Bytes). t ++ left) (sym (records_more d rs r));
  records = fit_more v rs r f.records fits;
  count = omega (arith, length-append rs (r ∷ []));
}

-- the same, where the digest is that of the last record
pub goes_on : (v : Version) (d g : Bytes) (rs : List Record) (r : Record) (rest left all : Bytes) → Fronts v d rs rest all → g ≡ digest_after d rs → length rs < LOG_RECORDS → Fits v r →
    rest ≡ record_bytes g r ++ left → Fronts v d (rs ++ r ∷ []) left all
goes_on v d g rs r rest left all f same room fits text =
    fronts_more v d rs r rest left all f room fits (text ∙ ap (λ (x : Bytes). record_bytes x r ++ left) same)

pub digest_on : (d g h : Bytes) (rs : List Record) (r : Record) → g ≡ digest_after d rs → h ≡ next_digest g r → h ≡ digest_after d (rs ++ r ∷ [])
digest_on d g h rs r same e = e ∙ ap (λ (x : Bytes). next_digest x r) same ∙ sym (digest_more d rs r)

-- so many records stand at the front behind the digest d, and g is the digest of the last
pub record Counted (v : Version) (d g : Bytes) (n : ℕ) (rest all : Bytes) : Type 0 where
  pub records : List Record
  pub count : length records ≡ n
  pub fronts : Fronts v d records rest all
  pub digest : g ≡ digest_after d records

pub none_counted : (v : Version) (d all : Bytes) → Counted v d d 0 all all
none_counted v d all = record { records = []; count = refl; fronts = record { text = refl; records = tt; count = omega arith }; digest = refl }

pub counts_on : (v : Version) (d g h : Bytes) (n : ℕ) (rest left all : Bytes) → n < LOG_RECORDS → StandsFirst v g h rest left → Counted v d g n rest all → Counted v d h (n + 1) left all
counts_on v d g h n rest left all room next c =
    let r = next.0 in
    record {
      records = c.records ++ r ∷ [];
      count = omega (arith, c.count, length-append c.records (r ∷ []));
      fronts = goes_on v d g c.records r rest left all c.fronts c.digest (omega (arith, c.count, room)) next.1 next.3;
      digest = digest_on d g h c.records r c.digest next.2;
    }

pub ends_there : (v : Version) (d g : Bytes) (n : ℕ) (rest all : Bytes) (e : Ending) → Ends v rest e → Counted v d g n rest all → EndsAfterSome v d all n e
ends_there v d g n rest all e ends c = (c.records, c.count, (rest, c.fronts, ends))

pub stops_there : (v : Version) (d g : Bytes) (n : ℕ) (rest all : Bytes) (e : LogError) → IsStop v g n rest e → Counted v d g n rest all → StopsAfter v d all e
stops_there v d g n rest all e stops c =
    (c.records, rest, c.fronts, subst (λ (k : ℕ). IsStop v (digest_after d c.records) k rest e) (sym c.count) (subst (λ (x : Bytes). IsStop v x n rest e) c.digest stops))
