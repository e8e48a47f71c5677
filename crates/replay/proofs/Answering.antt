-- What is answered to what bytes say as a log, by what is answered to a log.
use Rattle.std.proofs.Common.{◌≡◌, ◌⊎◌, inl, inr, ℕ, List, Err, refl, sym, ◌∙◌, subst}
use Rattle.std.specs.declared.result.Result.{Result}
use Rattle.std.proofs.Math.Logic.{⊎_map}
use Rattle.procedure.specs.Bytes.{Bytes}
use Rattle.commitlog.specs.Records.{Record}
use Rattle.commitlog.specs.LogReadings.{Reading, Log, NotALog, Damaged, IsReading}
use Rattle.commitlog.specs.declared.formats.Version.{Version}
use Rattle.commitlog.specs.declared.formats.LogHeader.{LogHeader}
use Rattle.commitlog.specs.declared.decoding.Ending.{Ending}
use Rattle.commitlog.specs.declared.decoding.LogError.{LogError}
use Rattle.commitlog.specs.declared.decoding.LogError.TheVariants as log
use Rattle.commitlog.proofs.OneReadings.{one_reading}
use Rattle.replay.specs.Answers.{ToReading}

module _ {X : Type 0} (refusal : LogError → X) (OfLog : Version → LogHeader → List Record → Ending → X → Type 0) where
  -- what is answered to the bytes
  abbrev pub ToBytes : Bytes → X → Type 0
  ToBytes text x = (r : Reading) × IsReading text r × ToReading refusal OfLog r x

  module _ (one : (v : Version) (h : LogHeader) (l : List Record) (e : Ending) (x y : X) → OfLog v h l e x → OfLog v h l e y → x ≡ y) where
    one_of_reading : (r : Reading) (x y : X) → ToReading refusal OfLog r x → ToReading refusal OfLog r y → x ≡ y
    one_of_reading NotALog x y a b = a ∙ sym b
    one_of_reading (Damaged j) x y a b = a ∙ sym b
    one_of_reading (Log v h l e) x y a b = one v h l e x y a b

    -- there is one answer, since there is one reading
    pub one_of_bytes : (text : Bytes) (x y : X) → ToBytes text x → ToBytes text y → x ≡ y
    one_of_bytes text x y a b = one_of_reading a.0 x y a.2 (subst (λ r. ToReading refusal OfLog r y) (one_reading text b.0 a.0 b.1 a.1) b.2)

  module _ (text : Bytes) (Is : X → Type 0) (from : (x : X) → ToBytes text x → Is x) where
    pub from_log : (v : Version) (h : LogHeader) (l : List Record) (e : Ending) (x : X) → IsReading text (Log v h l e) →
        OfLog v h l e x ⊎ (x ≡ refusal log.NoMemory) → Is x ⊎ (x ≡ refusal log.NoMemory)
    from_log v h l e x read = ⊎_map (λ said. from x (Log v h l e, read, said)) (λ none. none)

    abbrev unread : {Y : Type 0} → LogError → Result Y LogError
    unread e = Err e

    pub from_no_log : {Y : Type 0} (e : LogError) → (unread {Y = Y} e ≡ Err log.NotALog → IsReading text NotALog) → ((j : ℕ) → unread {Y = Y} e ≡ Err (log.Damaged j) → IsReading text (Damaged j)) →
        Is (refusal e) ⊎ (refusal e ≡ refusal log.NoMemory)
    from_no_log log.NotALog not_one damaged = inl (from _ (NotALog, not_one refl, refl))
    from_no_log (log.Damaged j) not_one damaged = inl (from _ (Damaged j, damaged j refl, refl))
    from_no_log log.NoMemory not_one damaged = inr refl
