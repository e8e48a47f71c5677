-- What a file holds of a log that was cut off while it was written.
use Rattle.std.proofs.Common.{◌≡◌, ◌⊎◌, inl, inr, ℕ, ◌+◌, ◌≤◌, ◌<◌, List, [], ◌∷◌, ◌++◌, length, append_assoc, sym, ap, subst, ◌∙◌, arith}
use Rattle.std.specs.List.{AllByRecursion}
use Rattle.std.proofs.lemmas.List.{append_cancel_left, length-append}
use Rattle.procedure.specs.Bytes.{Bytes}
use Rattle.commitlog.specs.LogBytes.{Fits, digest_after, first_digest, log_bytes, log_header_bytes, magic, records_bytes}
use Rattle.commitlog.specs.LogReadings.{IsHeader}
use Rattle.commitlog.specs.Records.{Record}
use Rattle.commitlog.specs.declared.formats.LogHeader.{LogHeader}
use Rattle.commitlog.specs.declared.formats.Version.{Version}
use Rattle.commitlog.specs.declared.formats.Version.TheVariants.{Two}
use Rattle.commitlog.specs.declared.limits.TheConstants.{LOG_RECORDS}
use Rattle.commitlog.proofs.OneReadings.{Refuses, ends_refuses, one_chain}
use Rattle.steps.specs.CoreViews.{CoreView}
use Rattle.calcdb.specs.LiveRuns.{CutOffIsFront}

either : (a b : ℕ) → (a ≤ b) ⊎ (b < a)
either a b = grind arith

-- of a text that begins with records, no fewer are read up to where it ends
no_fewer : (v : Version) (d : Bytes) (fs ms : List Record) (out rest : Bytes) → AllByRecursion (Fits v) fs → AllByRecursion (Fits v) ms →
    records_bytes d fs ++ out ≡ records_bytes d ms ++ rest → Refuses v (digest_after d ms) rest → length fs ≤ length ms
no_fewer v d fs ms out rest fits fits' texts stop =
    elim (either (length fs) (length ms)) [
      | inl enough ↦ enough
      | inr fewer ↦
          let same = one_chain v (length fs) d fs ms out rest fits fits' (omega arith) (omega (arith, fewer)) (λ less. absurd (omega (arith, less))) (λ _. stop) texts in
          absurd (omega (arith, fewer, ap (λ (rs : List Record). length rs) same.0))
    ]

all_front : {X : Type 0} (P : X → Type 0) (xs ys : List X) → AllByRecursion P (xs ++ ys) → AllByRecursion P xs
all_front P [] ys a = tt
all_front P (x ∷ xs) ys a = (a.0, all_front P xs ys a.1)

header_length : (h : LogHeader) → IsHeader h → length (log_header_bytes Two h) ≡ 72
header_length h lengths = omega (arith, length-append (magic Two) (h.catalog ++ h.opening), length-append h.catalog h.opening, lengths.catalog, lengths.opening)

pub cut_off_is_front : (core : CoreView) → length core.log ≤ LOG_RECORDS → AllByRecursion (Fits Two) core.log → CutOffIsFront core
cut_off_is_front core few fits h text least header f =
    let head = log_header_bytes Two h in
    let d = first_digest Two h in
    let written = log_bytes Two h f.front in
    let holds : text ≡ written ++ f.out = cc in
    let long : length text ≡ 72 + length (records_bytes d f.front) + length f.out =
    omega (arith, ap (λ (b : Bytes). length b) holds, length-append written f.out, length-append head (records_bytes d f.front), header_length h header) in (
      record {
        header = header;
        records = fits;
        count = few;
        long = omega (arith, long);
        behind = f.left;
        bytes = f.text ∙ sym (append_assoc written f.out f.left) ∙ ap (λ (b : Bytes). b ++ f.left) (sym holds);
      },
      λ m left e parts reading.
          let rest = reading.0 in
          let along : records_bytes d f.front ++ f.out ≡ records_bytes d m ++ rest =
          append_cancel_left head (records_bytes d f.front ++ f.out) (records_bytes d m ++ rest)
          (sym (append_assoc head (records_bytes d f.front) f.out) ∙ sym holds ∙ reading.1.text ∙ append_assoc head (records_bytes d m) rest) in
          let enough = no_fewer Two d f.front m f.out rest (all_front (Fits Two) f.front f.back (subst (AllByRecursion (Fits Two)) f.records fits)) reading.1.records along
          (ends_refuses Two (digest_after d m) rest e reading.2) in
          omega (arith, f.enough, enough),
    )
