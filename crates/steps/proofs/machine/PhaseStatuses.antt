-- One record, and the open calls, as the phase changes.
use Rattle.std.proofs.Common.{◌≡◌, ℕ, Bool, true, false, not, Option, Some, None, refl, sym, ap, subst, is_some}
use Rattle.phase.specs.declared.phases.Phase.{Phase}
use Rattle.phase.specs.declared.phases.Phase.TheVariants.{Rest, Prepare, Resolve, Capture, Complete}
use Rattle.procedure.specs.Bytes.{Bytes, Cell}
use Rattle.procedure.specs.Runs.{no_keys}
use Rattle.steps.proofs.machine.OpenCalls.{none_some, same_Some}
use Rattle.steps.proofs.machine.RecordStatus.{rest_not, complete_not, no}
use Rattle.steps.specs.machine.Invariant.{starts, status, StatusAtRest, StatusAtPrepare, StatusAtResolve, StatusAtCapture, passed, StatusAtComplete}
use Rattle.steps.specs.machine.Machine.{Open, CallsBySession, to_visit, cleaned_versions, restarted_open}
use Rattle.steps.specs.Versions.{KeyVersions, VersionsByKey, captured_at}

-- one record

pub prepare_status : (a b b' : Cell) (vis fro vis' fro' : Bool) (U H E U' H' E' : Type 0) → E' → (o : Option KeyVersions) → status Rest a b vis fro U H E o → status Prepare a b' vis' fro' U' H' E' o
prepare_status a b b' vis fro vis' fro' U H E U' H' E' e None x = tt
prepare_status a b b' vis fro vis' fro' U H E U' H' E' e (Some v) x = at v.available v.stable x
  where
    at : (av : Bool) (sb : Option Cell) → StatusAtRest av sb → StatusAtPrepare a H' E' av sb
    at false None x = e
    at false (Some y) x = absurd x
    at true sb x = absurd x

pub resolve_status :
    (a b : Cell) (vis fro vis' fro' : Bool) (U H E : Type 0) → (E → U) → (o : Option KeyVersions) → (o ≡ None → a ≡ None) → status Prepare a b vis fro U H E o → status Resolve a a vis' fro' U H E o
resolve_status a b vis fro vis' fro' U H E eu None n x = n refl
resolve_status a b vis fro vis' fro' U H E eu (Some v) n x = at v.available v.stable x
  where
    at : (av : Bool) (sb : Option Cell) → StatusAtPrepare a H E av sb → StatusAtResolve a a U H av sb
    at false None x = (refl, eu x)
    at false (Some y) x = (x.0, refl, x.1)
    at true None x = absurd x
    at true (Some y) x = absurd x

pub capture_status :
    (a b : Cell) (vis fro vis' fro' : Bool) (U H E : Type 0) → (H → ⊥) → (o : Option KeyVersions) → (is_some o ≡ true → vis' ≡ false) → status Resolve a b vis fro U H E o →
    status Capture a b vis' fro' U H E o
capture_status a b vis fro vis' fro' U H E nh None n x = x
capture_status a b vis fro vis' fro' U H E nh (Some v) n x = subst (λ z. StatusAtCapture a b z fro' U v.available v.stable) (sym (n refl)) (at v.available v.stable x)
  where
    at : (av : Bool) (sb : Option Cell) → StatusAtResolve a b U H av sb → StatusAtCapture a b false fro' U av sb
    at false None x = x
    at false (Some y) x = absurd (nh x.2)
    at true None x = absurd x
    at true (Some y) x = x

-- at the scan's begin it has passed no record
pub fresh_scan : (all : Bool) (vs : VersionsByKey) (fro : Bytes → Bool) (q : Bytes) → is_some (vs q) ≡ true → passed all no_keys (to_visit all vs fro) q ≡ false
fresh_scan true vs fro q e = ap not e
fresh_scan false vs fro q e = refl

pub visit_status :
    (a b : Cell) (vis fro : Bool) (U : Type 0) (l : Cell) (sb : Option Cell) (av : Bool) → StatusAtCapture a b vis fro U av sb →
    StatusAtCapture a b true fro U (captured_at av (record { live = l; stable = sb; available = av })).available (captured_at av (record { live = l; stable = sb; available = av })).stable
visit_status a b vis fro U l sb true x = tt
visit_status a b true fro U l sb false x = absurd x
visit_status a b false fro U l None false x = tt
visit_status a b false fro U l (Some y) false x = absurd x

pub complete_status : (a b a' b' : Cell) (vis fro fro' : Bool) (U H E : Type 0) (o : Option KeyVersions) → status Capture a b vis fro U H E o → status Complete a' b' vis fro' U H E o
complete_status a b a' b' vis fro fro' U H E None x = tt
complete_status a b a' b' vis fro fro' U H E (Some v) x = at vis v.available v.stable x
  where
    at : (vis av : Bool) (sb : Option Cell) → StatusAtCapture a b vis fro U av sb → StatusAtComplete vis av sb
    at false av sb x = tt
    at true true None x = tt
    at true true (Some y) x = absurd x
    at true false sb x = absurd x

pub clean_status : (a b : Cell) (vis fro : Bool) (U H E : Type 0) (o : Option KeyVersions) → status Rest a b vis fro U H E (cleaned_versions o)
clean_status a b vis fro U H E None = tt
clean_status a b vis fro U H E (Some v) = tt

-- open calls

pub rest_prepare : (p : Phase) → starts Rest p ≡ true → starts Prepare p ≡ true
rest_prepare Resolve e = e
rest_prepare Capture e = e
rest_prepare _ e = refl

pub rest_early : (p : Phase) → starts Rest p ≡ true → p ≡ Prepare → ⊥
rest_early Rest e f = rest_not f
rest_early Complete e f = complete_not f
rest_early _ e f = no (sym e)

pub capture_complete : (p : Phase) → starts Capture p ≡ true → starts Complete p ≡ true
capture_complete Resolve e = refl
capture_complete Capture e = refl
capture_complete _ e = no (sym e)

pub restarted_all :
    (P : ℕ → Open → Type 0) (calls : CallsBySession) → ((s : ℕ) (c : Open) → calls s ≡ Some c → P s (record c { start = Rest })) → (s : ℕ) (c : Open) → restarted_open (calls s) ≡ Some c → P s c
restarted_all P calls f s c e = at (calls s) (f s) e
  where
    at : (o : Option Open) → ((c : Open) → o ≡ Some c → P s (record c { start = Rest })) → restarted_open o ≡ Some c → P s c
    at None f e = none_some e
    at (Some d) f e = subst (P s) (same_Some e) (f d refl)

pub restarted_is : (calls : CallsBySession) (s : ℕ) (c : Open) → calls s ≡ Some c → restarted_open (calls s) ≡ Some (record c { start = Rest })
restarted_is calls s c e = ap restarted_open e
