-- What a text says as a log: its version, its header, the records that stand whole at its front, and what stands after
-- them. Each text has one reading.
use Rattle.std.specs.Prelude.{◌≡◌, ◌≢◌, ◌⊎◌, ◌≤◌, ◌<◌, ◌+◌, ℕ, List, [], ◌++◌, length, take, drop}
use Rattle.std.specs.List.{AllByRecursion}
use Rattle.byteorder.specs.Endian.{big_number}
use Rattle.sha2.specs.Sha256.{sha256}
use Rattle.procedure.specs.Bytes.{Bytes}
use Rattle.commitlog.specs.Records.{Record}
use Rattle.commitlog.specs.LogBytes.{Fits, body, digest_after, first_digest, greatest_body, log_bytes, magic, next_digest, record_bytes, records_bytes}
use Rattle.commitlog.specs.declared.limits.TheConstants.{LOG_RECORDS, HEADER_BYTES}
use Rattle.commitlog.specs.declared.formats.Version.{Version}
use Rattle.commitlog.specs.declared.formats.LogHeader.{LogHeader}
use Rattle.commitlog.specs.declared.checking.Front.{Front}
use Rattle.commitlog.specs.declared.checking.Front.TheVariants as front
use Rattle.commitlog.specs.declared.checking.Next.{Next}
use Rattle.commitlog.specs.declared.checking.Next.TheVariants as next
use Rattle.commitlog.specs.declared.decoding.LogError.{LogError}
use Rattle.commitlog.specs.declared.decoding.LogError.TheVariants as refused
use Rattle.commitlog.specs.declared.decoding.Ending.{Ending}
use Rattle.commitlog.specs.declared.decoding.Ending.TheVariants.{Clean, Torn}

-- ---- what stands after the whole records at the front

-- the length that a record states
abbrev pub stated_length : Bytes → ℕ
stated_length rest = big_number 4 rest

abbrev pub stated_body : Bytes → Bytes
stated_body rest = take (stated_length rest) (drop 4 rest)

abbrev pub stated_digest : Bytes → Bytes
stated_digest rest = take 32 (drop (stated_length rest) (drop 4 rest))

-- what is left after a record
abbrev pub after_record : Bytes → Bytes
after_record rest = drop (4 + stated_length rest + 32) rest

-- a record's length, and as many bytes as it and the digest want
abbrev pub IsWhole : Bytes → Type 0
IsWhole rest = 4 + stated_length rest + 32 ≤ length rest

-- something is left: under 4 bytes, or a lawful length and fewer bytes than it and the digest want
abbrev pub IsTorn : Version → Bytes → Type 0
IsTorn v rest = (0 < length rest) × ((length rest < 4) ⊎ ((stated_length rest ≤ greatest_body v) × (length rest < 4 + stated_length rest + 32)))

-- the body is that of no record of the version
abbrev pub IsNoBody : Version → Bytes → Type 0
IsNoBody v text = (r : Record) → Fits v r → body r ≢ text

-- it is that of one
abbrev pub IsBody : Version → Bytes → Type 0
IsBody v text = (r : Record) × Fits v r × (body r ≡ text)

-- they are no record behind the digest d: the body is that of none, or the digest is another
abbrev pub IsNoRecord : Version → Bytes → Bytes → Bytes → Type 0
IsNoRecord v d text digest = IsNoBody v text ⊎ (digest ≢ sha256 (d ++ text))

abbrev pub IsForeign : Version → Bytes → Bytes → Type 0
IsForeign v d rest = IsNoRecord v d (stated_body rest) (stated_digest rest)

-- a length over the greatest, or a whole record that is none behind the digest d, or whose place i is past the last
abbrev pub IsDamage : Version → Bytes → ℕ → Bytes → Type 0
IsDamage v d i rest = (4 ≤ length rest) × ((greatest_body v < stated_length rest) ⊎ (IsWhole rest × (IsForeign v d rest ⊎ (i ≡ LOG_RECORDS))))

abbrev pub Ends : Version → Bytes → Ending → Type 0
Ends v rest Clean = rest ≡ []
Ends v rest Torn = IsTorn v rest

-- which of these stands at the front
abbrev pub IsFront : Version → Bytes → Front → Type 0
IsFront v rest front.Clean = rest ≡ []
IsFront v rest front.Torn = IsTorn v rest
IsFront v rest front.TooLong = (4 ≤ length rest) × (greatest_body v < stated_length rest)
IsFront v rest (front.Whole n) = (n ≡ stated_length rest) × (n ≤ greatest_body v) × IsWhole rest

-- a record that has this digest stands at the front behind the digest d, and then what is left
abbrev pub StandsFirst : Version → Bytes → Bytes → Bytes → Bytes → Type 0
StandsFirst v d after rest left = (r : Record) × Fits v r × (after ≡ next_digest d r) × (rest ≡ record_bytes d r ++ left)

-- what comes at place i behind the digest d
abbrev pub IsNext : Version → Bytes → ℕ → Bytes → Next → Type 0
IsNext v d i rest (next.End e) = Ends v rest e
IsNext v d i rest (next.Entry after n) = (i < LOG_RECORDS) × StandsFirst v d after rest (drop n rest) × (n ≤ length rest) × (0 < n)

-- why nothing more is read there
abbrev pub IsStop : Version → Bytes → ℕ → Bytes → LogError → Type 0
IsStop v d i rest refused.NotALog = ⊥
IsStop v d i rest (refused.Damaged j) = (j ≡ i) × IsDamage v d i rest
IsStop v d i rest refused.NoMemory = ⊥

-- the bytes begin with these records, the first behind the digest d
pub record Fronts (v : Version) (d : Bytes) (rs : List Record) (rest all : Bytes) : Type 0 where
  pub text : all ≡ records_bytes d rs ++ rest
  pub records : AllByRecursion (Fits v) rs
  pub count : length rs ≤ LOG_RECORDS

-- they end so after them
abbrev pub EndsAfter : Version → Bytes → Bytes → List Record → Ending → Type 0
EndsAfter v d all rs e = (rest : Bytes) × Fronts v d rs rest all × Ends v rest e

-- so many stand there, and the bytes end so after them
abbrev pub EndsAfterSome : Version → Bytes → Bytes → ℕ → Ending → Type 0
EndsAfterSome v d all n e = (rs : List Record) × (length rs ≡ n) × EndsAfter v d all rs e

-- or what comes after some is no record
abbrev pub StopsAfter : Version → Bytes → Bytes → LogError → Type 0
StopsAfter v d all e = (rs : List Record) × (rest : Bytes) × Fronts v d rs rest all × IsStop v (digest_after d rs) (length rs) rest e

-- ---- whole texts

pub record IsHeader (h : LogHeader) : Type 0 where
  pub catalog : length h.catalog ≡ 32
  pub opening : length h.opening ≡ 32

-- the text is a log of these records, and then the rest
pub record Begins (v : Version) (h : LogHeader) (rs : List Record) (rest all : Bytes) : Type 0 where
  pub header : IsHeader h
  pub text : all ≡ log_bytes v h rs ++ rest
  pub records : AllByRecursion (Fits v) rs
  pub count : length rs ≤ LOG_RECORDS

pub data Reading : Type 0 where
  Log : Version → LogHeader → List Record → Ending → Reading
  NotALog : Reading
  Damaged : ℕ → Reading

abbrev pub IsReading : Bytes → Reading → Type 0
IsReading text (Log v h rs e) = (rest : Bytes) × Begins v h rs rest text × Ends v rest e
IsReading text NotALog = (length text < HEADER_BYTES) ⊎ ((v : Version) → take 8 text ≢ magic v)
IsReading text (Damaged i) =
    (v : Version) × (h : LogHeader) × (rs : List Record) × (rest : Bytes) ×
    Begins v h rs rest text × (length rs ≡ i) × IsDamage v (digest_after (first_digest v h) rs) i rest

-- each text has at most one
abbrev pub OneReading : Type 0
OneReading = (text : Bytes) (x y : Reading) → IsReading text x → IsReading text y → x ≡ y

-- a log that is written has its records, and ends clean
abbrev pub IsReadAgain : Type 0
IsReadAgain =
    (v : Version) (h : LogHeader) (rs : List Record) → IsHeader h → AllByRecursion (Fits v) rs → length rs ≤ LOG_RECORDS →
    IsReading (log_bytes v h rs) (Log v h rs Clean)
