-- A keeper has what it was told of.
use Rattle.std.proofs.Common.{◌≡◌, ℕ, true, List, [], ◌∷◌, ◌++◌, ◌-◌, Option, Some, None, refl, sym, ap, ◌∙◌, subst, drop, length, arith}
use Rattle.std.proofs.Math.Seq.{drop-append_seam}
use mathlib.Core.Logic.{∥∥₁_map}
use Rattle.std.specs.Prelude.{IfSome, is_some, slice_get}
use Rattle.std.specs.Option.{option_to_list}
use Rattle.std.proofs.lemmas.List.{length-append}
use Rattle.commitlog.specs.Records.{Record}
use Rattle.image.specs.Images.{Image}
use Rattle.workers.specs.Checkpointed.{Checkpointed, LogGrows, IsTakenInto, last_image}

-- it keeps what it has where nothing is added
pub same_kept : (P : List Record → List Image → Type 0) {log new : List Record} {is js : List Image} → new ≡ log → js ≡ is → ∥ P log is ∥₁ → ∥ P new js ∥₁
same_kept P {log = log} {js = js} logs images h = subst (λ (l : List Record). ∥ P l js ∥₁) (sym logs) (subst (λ (i : List Image). ∥ P log i ∥₁) (sym images) h)

-- what was added is what comes after what was there
added : (log new : List Record) → LogGrows log new → log ++ drop (length log) new ≡ new
added log new g = ap (λ (l : List Record). log ++ drop (length log) l) g.1 ∙ (ap (λ (l : List Record). log ++ l) (drop-append_seam log g.0) ∙ sym g.1)

module _ {K : Type 0} (Has : K → K → List Record → List Image → Type 0) (before now : K) where
  had : (begun : Option K) {log new : List Record} {is js : List Image} → ((b : K) → Has b before log is → Has b now new js) → IfSome begun (λ b. Has b before log is) → IfSome begun (λ b. Has b now new js)
  had None then h = h
  had (Some b) then h = then b h

  -- it takes the records that were added
  pub more_kept : (begun : Option K) (log new more : List Record) {is js : List Image} →
      ((b : K) (l : List Record) (i : List Image) → Has b before l i → Has b now (l ++ more) i) →
      more ≡ drop (length log) new → LogGrows log new → js ≡ is →
      ∥ IfSome begun (λ b. Has b before log is) ∥₁ → ∥ IfSome begun (λ b. Has b now new js) ∥₁
  more_kept begun log new more {is = is} {js = js} takes same goes images h =
      let all = ap (λ (l : List Record). log ++ l) same ∙ added log new goes in
      ∥∥₁_map h (had begun (λ b x. subst (λ (l : List Record). Has b now l js) all (subst (λ (i : List Image). Has b now (log ++ more) i) (sym images) (takes b log is x))))

  -- it takes the image that was taken
  pub image_kept : (begun : Option K) {log new : List Record} (is : List Image) {js : List Image} {i : Image} →
      ((b : K) (l : List Record) (k : List Image) → Has b before l k → Has b now l (k ++ i ∷ [])) →
      new ≡ log → js ≡ is ++ i ∷ [] →
      ∥ IfSome begun (λ b. Has b before log is) ∥₁ → ∥ IfSome begun (λ b. Has b now new js) ∥₁
  image_kept begun {log = log} is {js = js} takes logs images h =
      ∥∥₁_map h (had begun (λ b x. subst (λ (l : List Record). Has b now l js) (sym logs) (subst (λ (k : List Image). Has b now log k) (sym images) (takes b log is x))))

at_seam : (xs : List Image) (y : Image) → slice_get (xs ++ y ∷ []) (length xs) ≡ Some y
at_seam [] y = refl
at_seam (x ∷ xs) y = at_seam xs y

last_is : (xs : List Image) (y : Image) → last_image (xs ++ y ∷ []) ≡ Some y
last_is xs y =
    let before : length (xs ++ y ∷ []) - 1 ≡ length xs = omega (arith, length-append xs (y ∷ [])) in
    ap (λ (n : ℕ). slice_get (xs ++ y ∷ []) n) before ∙ at_seam xs y

taken_some : (waiting : Option Image) (old new : List Image) → new ≡ old ++ option_to_list waiting → true ≡ is_some waiting → (i : Image) × (new ≡ old ++ i ∷ []) × (last_image new ≡ Some i)
taken_some None old new images took = absurd (cc)
taken_some (Some i) old new images took = (i, images, ap last_image images ∙ last_is old i)

-- an image that was taken is the last
pub taken_last : (old new : Checkpointed) → IsTakenInto old new true → (i : Image) × (new.images ≡ old.images ++ i ∷ []) × (last_image new.images ≡ Some i)
taken_last old new t = taken_some old.core.checkpoint.waiting old.images new.images t.images t.took

-- nothing is asked of a keeper that has nothing
pub nothing_kept : {K : Type 0} (begun : Option K) → IfSome begun (λ b. Unit {0})
nothing_kept None = tt
nothing_kept (Some b) = tt
