-- The log and the images of a core, as recovering asks for them.
use Rattle.std.proofs.Common.{◌≡◌, ◌≤◌, ℕ, List, [], ◌∷◌, ◌++◌, Result, Ok, Err, inl, inr, length, refl, sym, ap, subst}
use Rattle.std.specs.Prelude.{IfErr, IfOk}
use Rattle.std.proofs.lemmas.List.{append-nil}
use Rattle.std.specs.List.{AllByRecursion, Contains}
use Rattle.std.proofs.lemmas.List.Elements.{All-contains, All-from_recursion}
use Rattle.procedure.specs.Procedures.{Procedure}
use Rattle.procedure.specs.Table.{Table}
use Rattle.commitlog.specs.Cuts as cuts
use Rattle.commitlog.specs.LogReadings.{IsReadAgain}
use Rattle.commitlog.specs.Records.{Record}
use Rattle.commitlog.specs.declared.decoding.Ending.TheVariants.{Clean}
use Rattle.commitlog.specs.declared.limits.TheConstants.{LOG_RECORDS}
use Rattle.image.specs.Images.{Image}
use Rattle.image.specs.Merges.{last_of, table_of}
use Rattle.image.specs.declared.images.Kind.{Kind}
use Rattle.image.specs.declared.images.Kind.TheVariants.{Full, Partial}
use Rattle.replay.specs.Promises.{FrontsAreRead, IsChainOf, IsHistory, IsImageOf}
use Rattle.replay.specs.Promises as recovering
use Rattle.replay.specs.Recovery.{Recovery}
use Rattle.replay.specs.declared.errors.RecoverError.{RecoverError}
use Rattle.replay.specs.declared.errors.RecoverError.TheVariants as refused
use Rattle.steps.specs.CoreViews.{CoreView, table_now}
use Rattle.steps.specs.CutImages.{AllTaken}
use Rattle.steps.specs.CutImages as taking
use Rattle.calcdb.specs.OwnFiles.{AreItsImages, AreRecovered, GivesTableNow, HasHistory}

module _ (c : List Procedure) (t : Table) (l : List Record) where
  of_kind : (k : Kind) (i : cuts.CutImage) → taking.IsOfKind k c t l i → recovering.IsOfKind k c t l i
  of_kind Full i is = is
  of_kind Partial i is = is

  pub taken_are_images : (is : List Image) → AllTaken c t l is → AllByRecursion (IsImageOf c t l) is
  taken_are_images [] taken = tt
  taken_are_images (i ∷ is) (here, taken) = (record { cut = here.has_cut; image = of_kind i.kind (taking.plain i) here.cut }, taken_are_images is taken)

-- what holds of all images holds of those among them
all_among : (P : Image → Type 0) (is js : List Image) → AllByRecursion P is → AllByRecursion (Contains is) js → AllByRecursion P js
all_among P is [] all among = tt
all_among P is (j ∷ js) all (here, there) = (All-contains P is j (All-from_recursion P is all) here, all_among P is js all there)

-- so the log and the images of a core are what they are recovered from
pub are_recovered : (core : CoreView) (is : List Image) → FrontsAreRead → HasHistory core → AreItsImages core is → AreRecovered core is
are_recovered core is read history images v h text full ps x catalog opening front chained few among answer =
    let found = read v h core.log text front in
    let m = found.0 in
    let left = found.1 in
    let of_parts : IsHistory core.catalog core.opening v h (m ++ left) = subst (IsHistory core.catalog core.opening v h) found.2 (history v h catalog opening) in
    let its : AllByRecursion (IsImageOf core.catalog (table_of core.opening) (m ++ left)) (full ∷ ps) =
    subst (λ (l : List Record). AllByRecursion (IsImageOf core.catalog (table_of core.opening) l) (full ∷ ps)) found.2
    (all_among (IsImageOf core.catalog (table_of core.opening) core.log) is (full ∷ ps) images among) in (
      m,
      left,
      found.2,
      found.3,
      found.4,
      λ cut. answer core.opening v h m left found.3 full ps of_parts found.4 refl (record { chain = chained; few = few; images = its }) cut,
    )

-- the last of a chain is one of its images
last_image : (P : Image → Type 0) (full : Image) (ps : List Image) → AllByRecursion P (full ∷ ps) → P (last_of full ps)
last_image P full [] (here, there) = here
last_image P full (p ∷ ps) (here, there) = last_image P p ps there

abbrev state_or : Table → Result Recovery RecoverError → Table
state_or t (Ok r) = r.state
state_or t (Err e) = t

told : (core : CoreView) (place : ℕ) (x : Result Recovery RecoverError) → recovering.Recovers core.catalog core.opening place core.log Clean x →
    IfOk x (λ r. r.state ≡ table_now core) × IfErr x (λ e. e ≡ refused.NoMemory)
told core place (Ok r) (inl e) = (ap (state_or (table_now core)) e, tt)
told core place (Ok r) (inr e) = absurd (cc)
told core place (Err e) (inl is) = absurd (cc)
told core place (Err e) (inr is) =
    let same : e ≡ refused.NoMemory = cc in (tt, same)

-- and the whole log leads to its table
pub gives_table_now : (core : CoreView) (is : List Image) → IsReadAgain → length core.log ≤ LOG_RECORDS → HasHistory core → AreItsImages core is → GivesTableNow core is
gives_table_now core is again few_records history images v h full ps x header fits catalog opening chained few among answer =
    let c = core.catalog in
    let t = table_of core.opening in
    let all : core.log ≡ core.log ++ [] = sym (append-nil core.log) in
    let whole : IsHistory c core.opening v h (core.log ++ []) = subst (IsHistory c core.opening v h) all (history v h catalog opening) in
    let its = all_among (IsImageOf c t core.log) is (full ∷ ps) images among in
    let chain : IsChainOf c t (core.log ++ []) full ps = record { chain = chained; few = few; images = subst (λ (l : List Record). AllByRecursion (IsImageOf c t l) (full ∷ ps)) all its } in
    told core (last_of full ps).place x
    (answer core.opening v h core.log [] Clean full ps whole (again v h core.log header fits few_records) refl chain (last_image (IsImageOf c t core.log) full ps its).cut)
