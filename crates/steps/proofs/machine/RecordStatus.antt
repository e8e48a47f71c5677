-- One record's status through each kind of step.
use Rattle.std.proofs.Common.{◌≡◌, Bool, true, false, Option, Some, None, refl, sym, ◌∙◌, true≢false}
use Rattle.phase.specs.declared.phases.Phase.{Phase}
use Rattle.phase.specs.declared.phases.Phase.TheVariants.{Rest, Prepare, Resolve, Capture, Complete}
use Rattle.procedure.specs.Bytes.{Cell}
use Rattle.steps.specs.machine.Invariant.{starts, status, StatusAtPrepare, StatusAtResolve, StatusAtCapture, StatusAtComplete}
use Rattle.steps.specs.Versions.{KeyVersions, live_version, kept, undone, wrote, made_versions, copied}

pub no : {A : Type 0} → true ≡ false → A
no e = absurd (true≢false e)

-- a key that the step left alone
module _ (a a' b : Cell) (same : a ≡ a') (U H E U' H' E' : Type 0) (u : U → U') (h : H → H') (e : E → E') where
  prepare_alone : (av : Bool) (sb : Option Cell) → StatusAtPrepare a H E av sb → StatusAtPrepare a' H' E' av sb
  prepare_alone false None x = e x
  prepare_alone false (Some y) x = (x.0 ∙ same, h x.1)
  prepare_alone true sb x = x

  resolve_alone : (av : Bool) (sb : Option Cell) → StatusAtResolve a b U H av sb → StatusAtResolve a' b U' H' av sb
  resolve_alone true (Some y) x = x
  resolve_alone true None x = x
  resolve_alone false None x = (sym same ∙ x.0, u x.1)
  resolve_alone false (Some y) x = (x.0, sym same ∙ x.1, h x.2)

  capture_alone : (vis fro : Bool) (av : Bool) (sb : Option Cell) → StatusAtCapture a b vis fro U av sb → StatusAtCapture a' b vis fro U' av sb
  capture_alone false fro false None x = (sym same ∙ x.0, u x.1)
  capture_alone _ fro _ _ x = x

  pub status_alone : (p : Phase) (vis fro : Bool) (o : Option KeyVersions) → status p a b vis fro U H E o → status p a' b vis fro U' H' E' o
  status_alone Prepare vis fro (Some v) x = prepare_alone v.available v.stable x
  status_alone Resolve vis fro (Some v) x = resolve_alone v.available v.stable x
  status_alone Capture vis fro (Some v) x = capture_alone vis fro v.available v.stable x
  status_alone _ vis fro _ x = x

pub rest_not : {A : Type 0} → Rest ≡ Prepare → A
rest_not e = absurd (let no : Rest ≡ Prepare = e in cc)

pub complete_not : {A : Type 0} → Complete ≡ Prepare → A
complete_not e = absurd (let no : Complete ≡ Prepare = e in cc)

pub resolve_not : {A : Type 0} → Resolve ≡ Prepare → A
resolve_not e = absurd (let no : Resolve ≡ Prepare = e in cc)

-- a write, by a call that started in st and has the key to itself
module _ (a b y : Cell) (U H E U' H' E' : Type 0) where
  write_late : (vis fro : Bool) (l : Cell) (sb : Option Cell) (av : Bool) → (U → l ≡ a) → StatusAtCapture a b vis fro U av sb →
      StatusAtCapture a b vis fro U' (record (copied Capture (record { live = l; stable = sb; available = av })) { live = y }).available
      (record (copied Capture (record { live = l; stable = sb; available = av })) { live = y }).stable
  write_late true fro l None true lu x = x
  write_late true fro l (Some z) true lu x = x
  write_late true fro l sb false lu x = absurd x
  write_late false fro l None true lu x = x
  write_late false fro l (Some z) true lu x = x
  write_late false fro l None false lu x = lu x.1 ∙ x.0
  write_late false fro l (Some z) false lu x = absurd x

  write_last : (vis : Bool) (l : Cell) (sb : Option Cell) (av : Bool) → StatusAtComplete vis av sb →
      StatusAtComplete vis (record (copied Capture (record { live = l; stable = sb; available = av })) { live = y }).available
      (record (copied Capture (record { live = l; stable = sb; available = av })) { live = y }).stable
  write_last false l sb av x = tt
  write_last true l None true x = x
  write_last true l (Some z) true x = x
  write_last true l sb false x = absurd x

  write_at : (p st : Phase) → starts p st ≡ true → (vis fro : Bool) (l : Cell) (sb : Option Cell) (av : Bool) →
      (U → l ≡ a) → (st ≡ Prepare → E → U) → (H → st ≡ Prepare) → (st ≡ Prepare → H') → ((st ≡ Prepare → ⊥) → E') →
      status p a b vis fro U H E (Some (record { live = l; stable = sb; available = av })) →
      status p a b vis fro U' H' E' (Some (record (copied st (record { live = l; stable = sb; available = av })) { live = y }))
  write_at Rest Rest e vis fro l sb av lu eu hs h' e' x = x
  write_at Rest Complete e vis fro l sb av lu eu hs h' e' x = x
  write_at Prepare Rest e vis fro l None false lu eu hs h' e' x = e' rest_not
  write_at Prepare Rest e vis fro l (Some z) false lu eu hs h' e' x = rest_not (hs x.1)
  write_at Prepare Rest e vis fro l sb true lu eu hs h' e' x = absurd x
  write_at Prepare Complete e vis fro l None false lu eu hs h' e' x = e' complete_not
  write_at Prepare Complete e vis fro l (Some z) false lu eu hs h' e' x = complete_not (hs x.1)
  write_at Prepare Complete e vis fro l sb true lu eu hs h' e' x = absurd x
  write_at Prepare Prepare e vis fro l None false lu eu hs h' e' x = (lu (eu refl x), h' refl)
  write_at Prepare Prepare e vis fro l (Some z) false lu eu hs h' e' x = (x.0, h' refl)
  write_at Prepare Prepare e vis fro l sb true lu eu hs h' e' x = absurd x
  write_at Resolve Prepare e vis fro l None false lu eu hs h' e' x = (lu x.1 ∙ x.0, x.0, h' refl)
  write_at Resolve Prepare e vis fro l (Some z) false lu eu hs h' e' x = (x.0, x.1, h' refl)
  write_at Resolve Prepare e vis fro l None true lu eu hs h' e' x = absurd x
  write_at Resolve Prepare e vis fro l (Some z) true lu eu hs h' e' x = x
  write_at Resolve Resolve e vis fro l None false lu eu hs h' e' x = lu x.1 ∙ x.0
  write_at Resolve Resolve e vis fro l (Some z) false lu eu hs h' e' x = resolve_not (hs x.2)
  write_at Resolve Resolve e vis fro l None true lu eu hs h' e' x = absurd x
  write_at Resolve Resolve e vis fro l (Some z) true lu eu hs h' e' x = x
  write_at Capture Resolve e vis fro l sb av lu eu hs h' e' x = write_late vis fro l sb av lu x
  write_at Capture Capture e vis fro l sb av lu eu hs h' e' x = write_late vis fro l sb av lu x
  write_at Complete Resolve e vis fro l sb av lu eu hs h' e' x = write_last vis l sb av x
  write_at Complete Capture e vis fro l sb av lu eu hs h' e' x = write_last vis l sb av x
  write_at Complete Complete e vis fro l sb av lu eu hs h' e' x = x
  write_at _ _ e vis fro l sb av lu eu hs h' e' x = no (sym e)

  -- a key without a record has one made
  made_late : (vis fro : Bool) → fro ≡ false → b ≡ None → StatusAtCapture a b vis fro U true None
  made_late true fro f x = tt
  made_late false fro f x = (x, f)

  made_status :
      (p : Phase) (vis fro : Bool) → U → None ≡ a → (st : Phase) → starts p st ≡ true → E → fro ≡ false → status p a b vis fro U H E None → status p a b vis fro U H E (Some (made_versions p None))
  made_status Rest vis fro u n st e ee f x = tt
  made_status Prepare vis fro u n st e ee f x = ee
  made_status Resolve vis fro u n st e ee f x = (sym n ∙ sym x, u)
  made_status Capture vis fro u n st e ee f x = made_late vis fro f x
  made_status Complete true fro u n st e ee f x = tt
  made_status Complete false fro u n st e ee f x = tt

  pub write_status : (p st : Phase) → starts p st ≡ true → (vis fro : Bool) (o : Option KeyVersions) →
      (U → live_version o ≡ a) → (o ≡ None → U) → (U → E) → (st ≡ Prepare → E → U) → (H → st ≡ Prepare) → (st ≡ Prepare → H') → ((st ≡ Prepare → ⊥) → E') → (o ≡ None → fro ≡ false) →
      status p a b vis fro U H E o → status p a b vis fro U' H' E' (Some (wrote p st o y))
  write_status p st e vis fro None lu nu ue eu hs h' e' fr x =
      write_at p st e vis fro None None (made_versions p None).available lu eu hs h' e' (made_status p vis fro (nu refl) (lu (nu refl)) st e (ue (nu refl)) (fr refl) x)
  write_status p st e vis fro (Some v) lu nu ue eu hs h' e' fr x =
      write_at p st e vis fro v.live v.stable v.available lu eu hs h' e' x

-- a commit of a written key
module _ (a a' b : Cell) (U H E U' H' E' : Type 0) (un : U → ⊥) (u' : U') (e' : E') where
  commit_late : (vis fro : Bool) (sb : Option Cell) (av : Bool) → StatusAtCapture a b vis fro U av sb → StatusAtCapture a' b vis fro U' av sb
  commit_late true fro None true x = x
  commit_late true fro (Some z) true x = x
  commit_late true fro sb false x = absurd x
  commit_late false fro None true x = x
  commit_late false fro (Some z) true x = x
  commit_late false fro None false x = absurd (un x.1)
  commit_late false fro (Some z) false x = absurd x

  commit_at : (p st : Phase) → starts p st ≡ true → (vis fro : Bool) (l : Cell) (sb : Option Cell) (av : Bool) → (H → st ≡ Prepare) →
      status p a b vis fro U H E (Some (record { live = l; stable = sb; available = av })) →
      status p a' b vis fro U' H' E' (Some (kept st p (record { live = l; stable = sb; available = av })))
  commit_at Rest Rest e vis fro l sb av hs x = x
  commit_at Rest Complete e vis fro l sb av hs x = x
  commit_at Prepare Rest e vis fro l None false hs x = e'
  commit_at Prepare Rest e vis fro l (Some z) false hs x = rest_not (hs x.1)
  commit_at Prepare Rest e vis fro l sb true hs x = absurd x
  commit_at Prepare Complete e vis fro l None false hs x = e'
  commit_at Prepare Complete e vis fro l (Some z) false hs x = complete_not (hs x.1)
  commit_at Prepare Complete e vis fro l sb true hs x = absurd x
  commit_at Prepare Prepare e vis fro l sb false hs x = e'
  commit_at Prepare Prepare e vis fro l sb true hs x = absurd x
  commit_at Resolve Prepare e vis fro l None false hs x = absurd (un x.1)
  commit_at Resolve Prepare e vis fro l (Some z) false hs x = x.0
  commit_at Resolve Prepare e vis fro l None true hs x = absurd x
  commit_at Resolve Prepare e vis fro l (Some z) true hs x = x
  commit_at Resolve Resolve e vis fro l None false hs x = absurd (un x.1)
  commit_at Resolve Resolve e vis fro l (Some z) false hs x = resolve_not (hs x.2)
  commit_at Resolve Resolve e vis fro l None true hs x = absurd x
  commit_at Resolve Resolve e vis fro l (Some z) true hs x = x
  commit_at Capture Resolve e vis fro l sb av hs x = commit_late vis fro sb av x
  commit_at Capture Capture e vis fro l sb av hs x = commit_late vis fro sb av x
  commit_at Complete Resolve e vis fro l sb av hs x = x
  commit_at Complete Capture e vis fro l sb av hs x = x
  commit_at Complete Complete e vis fro l sb av hs x = x
  commit_at _ _ e vis fro l sb av hs x = no (sym e)

  pub commit_status :
      (p st : Phase) → starts p st ≡ true → (vis fro : Bool) (v : KeyVersions) → (H → st ≡ Prepare) → status p a b vis fro U H E (Some v) → status p a' b vis fro U' H' E' (Some (kept st p v))
  commit_status p st e vis fro v hs x = commit_at p st e vis fro v.live v.stable v.available hs x

-- an undone key
module _ (a b : Cell) (U H E U' H' E' : Type 0) (u' : U') (e' : E') where
  undo_late :
      (vis fro : Bool) (sb : Option Cell) (av : Bool) → StatusAtCapture a b vis fro U av sb →
      StatusAtCapture a b vis fro U' (undone av a (record { live = a; stable = sb; available = av })).available (undone av a (record { live = a; stable = sb; available = av })).stable
  undo_late true fro None true x = x
  undo_late true fro (Some z) true x = x
  undo_late true fro sb false x = absurd x
  undo_late false fro None true x = x
  undo_late false fro (Some z) true x = x
  undo_late false fro None false x = (x.0, u')
  undo_late false fro (Some z) false x = absurd x

  undo_at : (p : Phase) (vis fro : Bool) (l : Cell) (sb : Option Cell) (av : Bool) →
      status p a b vis fro U H E (Some (record { live = l; stable = sb; available = av })) →
      status p a b vis fro U' H' E' (Some (undone av a (record { live = l; stable = sb; available = av })))
  undo_at Rest vis fro l sb false x = tt
  undo_at Prepare vis fro l sb false x = e'
  undo_at Resolve vis fro l None true x = x
  undo_at Resolve vis fro l (Some z) true x = x
  undo_at Resolve vis fro l None false x = (x.0, u')
  undo_at Resolve vis fro l (Some z) false x = (x.1, u')
  undo_at Capture vis fro l sb true x = undo_late vis fro sb true x
  undo_at Capture vis fro l sb false x = undo_late vis fro sb false x
  undo_at Complete false fro l sb av x = tt
  undo_at Complete true fro l sb true x = x
  undo_at _ _ fro l sb _ x = absurd x

  pub undo_status : (p : Phase) (vis fro : Bool) (v : KeyVersions) → status p a b vis fro U H E (Some v) → status p a b vis fro U' H' E' (Some (undone v.available a v))
  undo_status p vis fro v x = undo_at p vis fro v.live v.stable v.available x
