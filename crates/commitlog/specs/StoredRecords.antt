-- The records that stand in a log's bytes, one after another.
use Rattle.std.specs.Prelude.{◌≡◌, ℕ, zero, suc, List, [], ◌∷◌, length, Option, Some, None}
use Rattle.procedure.specs.Bytes.{Bytes}
use Rattle.commitlog.specs.BodyReading.{record_in}
use Rattle.commitlog.specs.LogBytes.{greatest_value}
use Rattle.commitlog.specs.LogReadings.{Fronts, after_record, stated_body}
use Rattle.commitlog.specs.Records.{Record}
use Rattle.commitlog.specs.declared.formats.Version.{Version}

-- the first of records was taken, if there is one
abbrev pub TakesFirst : List Record → Option Record → List Record → Type 0
TakesFirst old None new = (old ≡ []) × (new ≡ [])
TakesFirst old (Some r) new = old ≡ r ∷ new

-- bytes begin with so many records
abbrev pub AreSpelled : Version → ℕ → Bytes → Type 0
AreSpelled v n bytes = (d : Bytes) × (rs : List Record) × (left : Bytes) × Fronts v d rs left bytes × (length rs ≡ n)

abbrev pub with_first : Option Record → List Record → List Record
with_first None rs = rs
with_first (Some r) rs = r ∷ rs

-- so many records at the front of bytes that begin with them
abbrev pub records_in : Version → ℕ → Bytes → List Record
records_in v zero bytes = []
records_in v (suc n) bytes = with_first (record_in (greatest_value v) (stated_body bytes)) (records_in v n (after_record bytes))
