-- One instruction of a call, as it is kept and as the machine has it.
use Rattle.std.proofs.Common.{◌≡◌, ℕ, zero, suc, ◌+◌, ◌-◌, ◌<◌, ◌⊎◌, arith, Bool, true, false, cond, List, [], ◌∷◌, ◌++◌, map, length, Option, Some, None, refl, sym, ap, ◌∙◌, inl, inr}
use Rattle.std.specs.Option.{option_or}
use Rattle.std.proofs.lemmas.List.{map-append}
use Rattle.procedure.specs.Bytes.{Bytes, Cell, same}
use Rattle.procedure.proofs.Base.{keys}
use Rattle.procedure.proofs.Ending.{fed_ended, whole_ended}
use Rattle.procedure.proofs.Fronts.{effect-becomes}
use Rattle.procedure.specs.Needs.{Touch, Nothing, Reads, Writes, becomes_of}
use Rattle.procedure.specs.Procedures.{Instruction}
use Rattle.procedure.specs.Runs.{Front, becomes_at, front, has_ended, need_at, next_becomes, next_need, next_touch, seen_at}
use Rattle.procedure.specs.Table.{Table}
use Rattle.phase.specs.declared.phases.Phase.{Phase}
use Rattle.steps.specs.inside.RecordEdits.{first_noted, noted_of}
use Rattle.steps.specs.Versions.{VersionsByKey, found, live_version, wrote, wrote_key}
use Rattle.steps.specs.machine.Machine.{note, noted}
use Rattle.steps.specs.declared.notes.Note.{Note}
use Rattle.steps.proofs.store.RecordEdits.{first_push}

-- one note more
noted_at : (b : Bool) (k q : Bytes) (x : Cell) (o p : Option Cell) → (b ≡ true → o ≡ p) → option_or o (cond b (Some x) None) ≡ cond b (note p x) o
noted_at true k q x o p e = by o p (e refl)
  where
    by : (o p : Option Cell) → o ≡ p → option_or o (Some x) ≡ note p x
    by None p e = ap (λ z. note z x) e
    by (Some y) p e = ap (λ z. note z x) e
noted_at false k q x None p e = refl
noted_at false k q x (Some y) p e = refl

pub noted_push :
    {A : Type 0} (ns : List (Note A)) (n : Note A) (q : Bytes) →
    first_noted (map noted_of (ns ++ n ∷ [])) q ≡ cond (same q n.key) (note (first_noted (map noted_of ns) n.key) n.before) (first_noted (map noted_of ns) q)
noted_push {A} ns n q =
    ap (λ l. first_noted l q) (map-append noted_of ns (n ∷ []))
    ∙ first_push (map noted_of ns) (noted_of n) q
    ∙ noted_at (same q n.key) n.key q n.before (first_noted (map noted_of ns) q) (first_noted (map noted_of ns) n.key) (λ e. elim (keys q n.key) [
      | inl is ↦ ap (first_noted (map noted_of ns)) is
      | inr f ↦ let both : true ≡ false = sym e ∙ f in absurd (cc)
    ])

-- what the machine says goes by what the versions are at each key
pub found_same : (n : Touch) (vs us : VersionsByKey) → ((q : Bytes) → vs q ≡ us q) → found vs n ≡ found us n
found_same Nothing vs us e = refl
found_same (Reads k) vs us e = ap live_version (e k)
found_same (Writes k) vs us e = ap live_version (e k)

pub noted_same :
    (n : Touch) (x : Option Cell) (vs us : VersionsByKey) (u v : Bytes → Option Cell) → ((q : Bytes) → vs q ≡ us q) → ((q : Bytes) → u q ≡ v q) → (q : Bytes) → noted n x vs u q ≡ noted n x us v q
noted_same Nothing x vs us u v e f q = f q
noted_same (Reads k) x vs us u v e f q = f q
noted_same (Writes k) None vs us u v e f q = f q
noted_same (Writes k) (Some x) vs us u v e f q =
    ap (λ y. cond (same q k) (note y (live_version (vs k))) (u q)) (f k) ∙ ap (λ y. cond (same q k) (note (v k) (live_version y)) (u q)) (e k)
    ∙ ap (λ y. cond (same q k) (note (v k) (live_version (us k))) y) (f q)

pub wrote_same :
    (phase start : Phase) (n : Touch) (x : Option Cell) (vs us : VersionsByKey) → ((q : Bytes) → vs q ≡ us q) → (q : Bytes) → wrote_key phase start n x vs q ≡ wrote_key phase start n x us q
wrote_same phase start Nothing x vs us e q = e q
wrote_same phase start (Reads k) x vs us e q = e q
wrote_same phase start (Writes k) None vs us e q = e q
wrote_same phase start (Writes k) (Some x) vs us e q =
    ap (λ y. cond (same q k) (Some (wrote phase start y x)) (vs q)) (e k) ∙ ap (λ y. cond (same q k) (Some (wrote phase start (us k) x)) y) (e q)

-- what the key becomes, by the need
becomes_by : (args : List Bytes) (f : Front) (x : Cell) (r : List Instruction) → becomes_at args f x r ≡ becomes_of (need_at args f.progress r) x
becomes_by args f x [] = refl
becomes_by args f x (i ∷ is) = effect-becomes i args f.registers x

pub becomes_is : (args : List Bytes) (f : Front) (x : Cell) → next_becomes args f x ≡ becomes_of (next_need args f.progress) x
unfolding next_becomes next_need
becomes_is args f x = becomes_by args f x f.rest

-- a call that goes on has executed fewer instructions than its procedure has
ended_on : (code : List Instruction) (args : List Bytes) (t : Table) (k : ℕ) → has_ended (front code args t (k + length code)) ≡ true
unfolding front
ended_on code args t zero =
    let same : 0 + length code ≡ length code = omega arith in
    ap (λ n. has_ended (front code args t n)) same ∙ whole_ended code args t
ended_on code args t (suc k) =
    let here = ended_on code args t k in
    let f = front code args t (k + length code) in
    let more : suc k + length code ≡ suc (k + length code) = omega arith in
    ap (λ n. has_ended (front code args t n)) more
    ∙ ap has_ended (fed_ended args f (seen_at f.changes t (next_touch args f)) here) ∙ here

within_or_past : (m n : ℕ) → (m < n) ⊎ (m ≡ (m - n) + n)
within_or_past m n = grind arith

pub few_executed : (code : List Instruction) (args : List Bytes) (t : Table) (m : ℕ) → has_ended (front code args t m) ≡ false → m < length code
few_executed code args t m e =
    elim (within_or_past m (length code)) [
      | inl lt ↦ lt
      | inr past ↦ let both : true ≡ false = sym (ap (λ n. has_ended (front code args t n)) past ∙ ended_on code args t (m - length code)) ∙ e in absurd (cc)
    ]
