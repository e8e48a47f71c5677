-- What calls of a core leave of its log: how many calls it has, and the images of its checkpoints.
use Rattle.std.proofs.Common.{◌≡◌, ℕ, ◌+◌, List, [], ◌∷◌, ◌++◌, sym, ap, ◌∙◌, subst}
use Rattle.std.specs.Prelude.{cond}
use Rattle.std.proofs.lemmas.List.Sums.{sum_by-append}
use Rattle.procedure.specs.Procedures.{Procedure}
use Rattle.procedure.specs.Table.{Table}
use Rattle.commitlog.specs.Records.{Record}
use Rattle.commitlog.specs.Cuts.{HasCut}
use Rattle.commitlog.specs.Histories.{IsCyclic}
use Rattle.commitlog.specs.Laws.{KeepsCuts, KeepsImages}
use Rattle.image.specs.Images.{Image}
use Rattle.image.specs.Merges.{table_of}
use Rattle.image.specs.declared.images.Kind.{Kind}
use Rattle.image.specs.declared.images.Kind.TheVariants.{Full, Partial}
use Rattle.steps.specs.CoreViews.{CoreView}
use Rattle.steps.specs.CutImages.{AllTaken, IsOfKind, plain}
use Rattle.workers.specs.Claims.{is_call}
use Rattle.workers.specs.Checkpointed.{AreCuts, Checkpointed, ImagesStay, KeepsOrigin, LogGrows, call_count}

of_kind-stays : (c : List Procedure) (t : Table) (l m : List Record) (i : Image) → KeepsImages → IsCyclic l → HasCut l i.number → (k : Kind) → IsOfKind k c t l (plain i) → IsOfKind k c t (l ++ m) (plain i)
of_kind-stays c t l m i keeps cyclic cut Full is = (keeps c t l m (plain i) cyclic cut).full is
of_kind-stays c t l m i keeps cyclic cut Partial is = (keeps c t l m (plain i) cyclic cut).partial is

pub images_stay : KeepsCuts → KeepsImages → ImagesStay
images_stay cuts keeps c t l m i cyclic is =
    record {
      has_cut = (cuts c t l m i.number is.has_cut).stays;
      cut = of_kind-stays c t l m i keeps cyclic is.has_cut i.kind is.cut;
    }

all_stay : ImagesStay → (c : List Procedure) (t : Table) (l m : List Record) → IsCyclic l → (is : List Image) → AllTaken c t l is → AllTaken c t (l ++ m) is
all_stay stay c t l m cyclic [] taken = tt
all_stay stay c t l m cyclic (i ∷ is) taken = (stay c t l m i cyclic taken.0, all_stay stay c t l m cyclic is taken.1)

-- what a core has after a call that adds some records, so many of them calls
pub record Grows (old new : CoreView) (calls : ℕ) : Type 0 where
  pub more : List Record
  pub catalog : new.catalog ≡ old.catalog
  pub opening : new.opening ≡ old.opening
  pub log : new.log ≡ old.log ++ more
  pub count : call_count more ≡ calls

pub cuts_grow : ImagesStay → (old new : CoreView) (n : ℕ) (is : List Image) → Grows old new n → IsCyclic old.log → AreCuts old is → AreCuts new is
cuts_grow stay old new n is g cyclic cuts =
    let P : List Procedure → Image → List Record → Type 0 = λ c o l. AllTaken c (table_of o) l is in
    subst (λ (c : List Procedure). P c new.opening new.log) (sym g.catalog)
    (subst (λ (o : Image). P old.catalog o new.log) (sym g.opening)
    (subst (λ (l : List Record). P old.catalog old.opening l) (sym g.log) (all_stay stay old.catalog (table_of old.opening) old.log g.more cyclic is cuts)))

count_grows : (old new : CoreView) (n : ℕ) → Grows old new n → call_count new.log ≡ call_count old.log + n
count_grows old new n g = ap call_count g.log ∙ (sum_by-append (λ r. cond (is_call r) 1 0) old.log g.more ∙ ap (λ (m : ℕ). call_count old.log + m) g.count)

-- what a core has after a call that adds no record
pub record Keeps (old new : CoreView) : Type 0 where
  pub catalog : new.catalog ≡ old.catalog
  pub opening : new.opening ≡ old.opening
  pub log : new.log ≡ old.log

pub cuts_keep : (old new : CoreView) (is : List Image) → Keeps old new → AreCuts old is → AreCuts new is
cuts_keep old new is k cuts =
    let P : List Procedure → Image → List Record → Type 0 = λ c o l. AllTaken c (table_of o) l is in
    subst (λ (c : List Procedure). P c new.opening new.log) (sym k.catalog)
    (subst (λ (o : Image). P old.catalog o new.log) (sym k.opening)
    (subst (λ (l : List Record). P old.catalog old.opening l) (sym k.log) cuts))

-- A call of a core with its images is one of its core, seen through the view. P is what the core promises of it.
pub record AddsNone (was inside : Checkpointed) (new : CoreView) (P : CoreView → Type 0) : Type 0 where
  pub core : P was.core
  pub images : inside.images ≡ was.images
  pub origin : KeepsOrigin was.core new
  pub log : new.log ≡ was.core.log
  pub calls : call_count new.log ≡ call_count was.core.log

pub adds_none : (was inside : Checkpointed) (new : CoreView) (P : CoreView → Type 0) →
    inside ≡ was → P inside.core → ((old : CoreView) → P old → Keeps old new) → AddsNone was inside new P
adds_none was inside new P is promise keeps =
    let core : P was.core = subst (λ (v : Checkpointed). P v.core) is promise in
    let k = keeps was.core core in
    let images : inside.images ≡ was.images = ap (λ (v : Checkpointed). v.images) is in
    record { core = core; images = images; origin = (k.catalog, k.opening); log = k.log; calls = ap call_count k.log }

pub record AddsSome (was inside : Checkpointed) (new : CoreView) (n : ℕ) (P : CoreView → Type 0) : Type 0 where
  pub core : P was.core
  pub images : inside.images ≡ was.images
  pub origin : KeepsOrigin was.core new
  pub log : LogGrows was.core.log new.log
  pub calls : call_count new.log ≡ call_count was.core.log + n

pub adds_some : (was inside : Checkpointed) (new : CoreView) (n : ℕ) (P : CoreView → Type 0) →
    inside ≡ was → P inside.core → ((old : CoreView) → P old → Grows old new n) → AddsSome was inside new n P
adds_some was inside new n P is promise grows =
    let core : P was.core = subst (λ (v : Checkpointed). P v.core) is promise in
    let g = grows was.core core in
    let images : inside.images ≡ was.images = ap (λ (v : Checkpointed). v.images) is in
    record { core = core; images = images; origin = (g.catalog, g.opening); log = (g.more, g.log); calls = count_grows was.core new n g }
