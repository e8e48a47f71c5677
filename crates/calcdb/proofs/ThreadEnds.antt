-- What a run in threads comes to.
use Rattle.std.proofs.Common.{◌≡◌, ℕ, Bool, true, false, ◌+◌, ◌<◌, List, [], ◌∷◌, ◌++◌, length, take, drop, get_or, Option, Result, Ok, Err, refl, sym, ap, subst, ◌∙◌, append_assoc}
use Rattle.std.specs.Io.KnownBytes.{Appends}
use Rattle.std.specs.Prelude.{IfErr, IfOk, OnOk}
use Rattle.std.proofs.KnownBytes.{Appends-nil}
use Rattle.std.proofs.lemmas.List.{append-nil, take-append-drop}
use base.Growing.{prefix_trans}
use mathlib.Core.List.{IsPrefix}
use Rattle.procedure.specs.Bytes.{Bytes}
use Rattle.image.specs.Images.{Image}
use Rattle.steps.specs.CoreViews.{CoreView}
use Rattle.workers.specs.Checkpointed.{AreCuts, call_count}
use Rattle.calcdb.specs.Runs.{Sent}
use Rattle.calcdb.specs.ThreadRuns.{IsFound, RunsInThreads, ShowsEach, StopsInThreads, Writes, WritesRun, run_text, view_text}
use Rattle.calcdb.specs.declared.looking.Found.{Found}
use Rattle.calcdb.specs.declared.faults.Fault.{Fault}
use Rattle.calcdb.proofs.CarryingOn.{sent_after}
use Rattle.procedure.proofs.WriteProgress.{next_item}

-- what a looker that was told more shows, one that was told less shows
pub shows_less : (told more : List Image) (ks : List Bytes) (text : Bytes) → IsPrefix told more → ShowsEach more ks text → ShowsEach told ks text
shows_less told more [] text p h = h
shows_less told more (k ∷ ks) text p (seen, f, rest, q, found, is, others) = (seen, f, rest, prefix_trans told more seen p q, found, is, shows_less told more ks rest p others)

-- the line of one key
pub one_shown : (told seen : List Image) (k : Bytes) (f : Found Bytes) → IsPrefix told seen → IsFound seen k f → ShowsEach told (k ∷ []) (view_text k f)
one_shown told seen k f p is = (seen, f, [], p, is, sym (append-nil (view_text k f)), refl)

-- the line of one key more
pub shows_more : (told : List Image) (ks : List Bytes) (k : Bytes) (text line : Bytes) → ShowsEach told ks text → ShowsEach told (k ∷ []) line → ShowsEach told (ks ++ k ∷ []) (text ++ line)
shows_more told [] k text line h one = subst (λ (t : Bytes). ShowsEach told (k ∷ []) (t ++ line)) (sym h) one
shows_more told (j ∷ ks) k text line (seen, f, rest, q, found, is, others) one =
    (seen, f, rest ++ line, q, found, ap (λ (t : Bytes). t ++ line) is ∙ append_assoc (view_text j f) rest line, shows_more told ks k rest line others one)

-- the keys up to one, and those after it
pub parts_at : (ks : List Bytes) (i : ℕ) (k : Bytes) → i < length ks → k ≡ get_or ks i k → ks ≡ (take i ks ++ k ∷ []) ++ drop (i + 1) ks
parts_at ks i k lt is = sym (take-append-drop i ks) ∙ ap (λ (l : List Bytes). take i ks ++ l) (next_item ks i k lt is) ∙ sym (append_assoc (take i ks) (k ∷ []) (drop (i + 1) ks))

-- the lines of the keys of a slice, by what was told
pub shows_keys : (told seen : List Image) (keys slice : List Bytes) (text : Bytes) → IsPrefix told seen → slice ≡ keys → ShowsEach seen slice text → ShowsEach told keys text
shows_keys told seen keys slice text p same h = subst (λ (ks : List Bytes). ShowsEach told ks text) same (shows_less told seen slice text p h)

module _ (count : ℕ) (keys : List Bytes) (core : CoreView) (images : List Image) (cuts : AreCuts core images) where
  -- the lines of the run aren't all written
  pub stops_before : (old new : Option Bytes) (f : Fault) → Sent (Err f) old new (run_text count (call_count core.log) (length images) (Ok tt)) → StopsInThreads count keys core images old new f
  stops_before old new f sent = (
    [],
    keys,
    refl,
    run_text count (call_count core.log) (length images) (Ok tt) ++ [],
    record { cuts = cuts; told = []; views = []; shows = refl; parts = refl },
    subst (λ (t : Bytes). Sent (Err f) old new t) (sym (append-nil (run_text count (call_count core.log) (length images) (Ok tt)))) sent,
  )

  -- the lines of the keys aren't
  pub stops_keys : (old mid new : Option Bytes) (f : Fault) (told seen : List Image) (slice : List Bytes) → IsPrefix told seen → slice ≡ keys →
      Appends old mid (run_text count (call_count core.log) (length images) (Ok tt)) →
      (front left : List Bytes) × (slice ≡ front ++ left) × (text : Bytes) × ShowsEach seen front text × Sent (Err f) mid new text → StopsInThreads count keys core images old new f
  stops_keys old mid new f told seen slice p same before (front, left, parts, text, shows, sent) = (
    front,
    left,
    sym same ∙ parts,
    run_text count (call_count core.log) (length images) (Ok tt) ++ text,
    record { cuts = cuts; told = told; views = text; shows = shows_less told seen front text p shows; parts = refl },
    sent_after f old mid new (run_text count (call_count core.log) (length images) (Ok tt)) text before sent,
  )

-- two clauses of a result, as one
pub ok_with : {X E : Type 0} (r : Result X E) (P Q R : X → Type 0) → ((x : X) → P x → Q x → R x) → IfOk r P → IfOk r Q → IfOk r R
ok_with (Ok x) P Q R join p q = join x p q
ok_with (Err e) P Q R join p q = tt

-- in the words of the script
pub same_writes : (b : Bool) (n m : ℕ) (ks js : List Bytes) (core : CoreView) (images : List Image) (old new : Option Bytes) (r : Result (Unit {0}) Fault) → n ≡ m → ks ≡ js → Writes b n ks core images old new r → Writes b m js core images old new r
same_writes b n m ks js core images old new r count keys h = subst (λ (k : ℕ). Writes b k js core images old new r) count (subst (λ (l : List Bytes). Writes b n l core images old new r) keys h)

-- what was written of a run whose keeper goes on
pub writes_going : (b : Bool) (count : ℕ) (ks js : List Bytes) (core : CoreView) (images : List Image) (old new : Option Bytes) (r : Result (Unit {0}) Fault) → b ≡ true → js ≡ ks →
    OnOk r ((text : Bytes) × RunsInThreads count js core images text × Appends old new text) → IfErr r (StopsInThreads count js core images old new) → Writes b count ks core images old new r
writes_going b count ks js core images old new (Ok x) going same ok err =
    subst (λ (e : Bool). WritesRun e count ks core images old new) (sym going) (subst (λ (l : List Bytes). WritesRun true count l core images old new) same ok)
writes_going b count ks js core images old new (Err f) going same ok err = (going, subst (λ (l : List Bytes). StopsInThreads count l core images old new f) same err)

-- and of one whose keeper has failed
pub writes_nothing : (b : Bool) (count : ℕ) (ks : List Bytes) (core : CoreView) (images : List Image) (old : Option Bytes) → b ≡ false → AreCuts core images → Writes b count ks core images old old (Ok tt)
writes_nothing b count ks core images old failed cuts = subst (λ (e : Bool). WritesRun e count ks core images old old) (sym failed) (cuts, Appends-nil old)

-- nothing went out
pub nothing_more : (old new : Option Bytes) → new ≡ old → Appends old new []
nothing_more old new same = subst (λ (o : Option Bytes). Appends old o []) (sym same) (Appends-nil old)
