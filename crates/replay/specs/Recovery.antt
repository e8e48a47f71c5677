-- What is recovered from images and a log, and when nothing is.
use Rattle.std.specs.Prelude.{◌≡◌, ◌<◌, ◌+◌, ℕ, Bool, List, [], ◌∷◌, drop, slice_get, Some, None, Ok, Err, refl}
use Rattle.std.specs.declared.result.Result.{Result}
use Rattle.std.specs.Coded.{Coded, code_by, coded×, coded_ℕ, coded_bool}
use Rattle.procedure.specs.Bytes.{Bytes}
use Rattle.procedure.specs.Table.{Table}
use Rattle.procedure.specs.Procedures.{Procedure}
use Rattle.phase.specs.declared.phases.Phase.TheVariants.{Resolve}
use Rattle.commitlog.specs.Records.{Record, Token}
use Rattle.commitlog.specs.Histories.{EachAfter, after}
use Rattle.commitlog.specs.LogReadings.{Reading, IsReading}
use Rattle.commitlog.specs.declared.formats.Version.{Version}
use Rattle.commitlog.specs.declared.formats.LogHeader.{LogHeader}
use Rattle.commitlog.specs.declared.decoding.Ending.{Ending}
use Rattle.image.specs.Images.{Image}
use Rattle.image.specs.Tables.{table_code}
use Rattle.image.specs.Merges.{Refusal, merged_image, refusal_of, table_of}
use Rattle.image.specs.declared.merges.MergeError.{MergeError}
use Rattle.image.specs.declared.merges.MergeError.TheVariants as merge
use Rattle.replay.specs.Replays.{RunsAgain, Diverges, Overflows, IsFirst, calls_in, is_torn}
use Rattle.replay.specs.Headers.{NamesCatalog, NamesOpening}
use Rattle.replay.specs.Answers.{ToReading}
use Rattle.replay.specs.Refusals.{of_log, of_merge}
use Rattle.replay.specs.declared.errors.RecoverError.{RecoverError}
use Rattle.replay.specs.declared.errors.RecoverError.TheVariants as refused

-- the table, how many calls were run, and whether the log's end was torn
pub record Recovery : Type 0 where
  pub state : Table
  pub calls : ℕ
  pub torn : Bool

abbrev pub recovery_code : Coded Recovery
recovery_code =
    code_by (Table × (ℕ × Bool)) (coded× table_code (coded× coded_ℕ coded_bool))
    (λ r. (r.state, (r.calls, r.torn))) (λ p. record { state = p.0; calls = p.1.0; torn = p.1.1 }) (λ _. refl)

-- an image of number 0 is the one that the log began with
abbrev pub BeginsLog : Version → LogHeader → Image → Type 0
BeginsLog v h i = (i.place ≡ 0) × NamesOpening v h i

-- at the place of a checkpoint's image stands its resolve token
abbrev pub IsPlaced : List Record → Image → Type 0
IsPlaced l i = slice_get l i.place ≡ Some (Token Resolve i.number)

-- the log is one of the catalog, and goes on where the image ends
pub record GoesOn (c : List Procedure) (i : Image) (v : Version) (h : LogHeader) (l : List Record) : Type 0 where
  pub catalog : NamesCatalog h c
  pub opening : i.number ≡ 0 → BeginsLog v h i
  pub place : 0 < i.number → IsPlaced l i

-- the records that the image doesn't cover
abbrev pub uncovered : Image → List Record → List Record
uncovered i l = drop i.place l

-- what is recovered, where each call that isn't covered runs again
abbrev pub recovery : List Procedure → Image → List Record → Ending → Recovery
recovery c i l e = record { state = after c (table_of i) (uncovered i l); calls = calls_in (uncovered i l); torn = is_torn e }

-- the first of these records that is as F says stands so many behind the image's place
abbrev pub FailsAt : (List Record → Record → Type 0) → List Procedure → Image → List Record → ℕ → Type 0
FailsAt F c i l j = IsFirst (RunsAgain c (table_of i)) F (uncovered i l) j

-- what is answered to an image and a log that was read: the first of these refusals whose condition holds, or what is
-- recovered
abbrev pub OfLog : List Procedure → Image → Version → LogHeader → List Record → Ending → Result Recovery RecoverError → Type 0
OfLog c i v h l e (Err refused.WrongCatalog) = NamesCatalog h c → ⊥
OfLog c i v h l e (Err refused.WrongOpening) = NamesCatalog h c × (i.number ≡ 0) × (BeginsLog v h i → ⊥)
OfLog c i v h l e (Err refused.PlaceOutside) = NamesCatalog h c × (0 < i.number) × (IsPlaced l i → ⊥)
OfLog c i v h l e (Err (refused.Diverged p)) = GoesOn c i v h l × (j : ℕ) × FailsAt (Diverges c (table_of i)) c i l j × (p ≡ i.place + j)
OfLog c i v h l e (Err refused.TooMany) = GoesOn c i v h l × (j : ℕ) × FailsAt (Overflows c (table_of i)) c i l j
OfLog c i v h l e (Ok r) = GoesOn c i v h l × EachAfter (RunsAgain c (table_of i)) (uncovered i l) × (r ≡ recovery c i l e)
-- no other refusal is of the log
OfLog c i v h l e (Err refused.NotFull) = ⊥
OfLog c i v h l e (Err (refused.NotPartial j)) = ⊥
OfLog c i v h l e (Err (refused.Gap j)) = ⊥
OfLog c i v h l e (Err refused.NotALog) = ⊥
OfLog c i v h l e (Err (refused.Damaged j)) = ⊥
OfLog c i v h l e (Err refused.NoMemory) = ⊥

-- to an image and what bytes say as a log
abbrev pub OfReading : List Procedure → Image → Reading → Result Recovery RecoverError → Type 0
OfReading c i = ToReading (λ e. Err (of_log e)) (OfLog c i)

abbrev pub chain_or : Image → Refusal → Result Image MergeError
chain_or i None = Ok i
chain_or i (Some e) = Err e

-- the images as one, or why they aren't merged
abbrev pub chain_of : List Image → Result Image MergeError
chain_of [] = Err merge.NotFull
chain_of (full ∷ ps) = chain_or (merged_image full ps) (refusal_of full ps)

abbrev pub OfChain : List Procedure → Bytes → Result Image MergeError → Result Recovery RecoverError → Type 0
OfChain c text (Err e) a = a ≡ Err (of_merge e)
OfChain c text (Ok i) a = (r : Reading) × IsReading text r × OfReading c i r a

-- what is answered, want of memory apart
abbrev pub IsRecovery : List Procedure → List Image → Bytes → Result Recovery RecoverError → Type 0
IsRecovery c is text a = OfChain c text (chain_of is) a
