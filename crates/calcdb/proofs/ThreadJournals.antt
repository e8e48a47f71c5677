-- What a journal of a run in threads has.
use Rattle.std.proofs.Common.{◌≡◌, ℕ, true, false, List, [], ◌++◌, Option, Some, None, length, refl, sym, ap, ◌∙◌, subst, append_assoc}
use Rattle.std.proofs.lemmas.List.{append-nil}
use Rattle.std.specs.Prelude.{IfSome, is_some}
use mathlib.Core.Logic.{∥∥₁_elim, ∥∥₁_map, ∥∥₁_prop}
use Rattle.commitlog.specs.Records.{Record}
use Rattle.image.specs.Images.{Image}
use Rattle.steps.specs.CoreViews.{CoreView}
use Rattle.workers.specs.Checkpointed.{IsFrom}
use Rattle.calcdb.specs.Journals.{IsTold, Taken, taken_of, with_more}
use Rattle.calcdb.proofs.Keeping.{same_taken}

-- nothing more
pub with_nothing : (t : Taken) → t ≡ with_more t [] []
with_nothing t = same_taken t.catalog t.catalog t.opening t.opening t.records (t.records ++ []) t.images refl refl (sym (append-nil t.records)) ∙ ap (λ (i : List Image). record { catalog = t.catalog; opening = t.opening; records = t.records ++ []; images = i }) (sym (append-nil t.images))

-- more, and then more
pub with_both : (t : Taken) (rs qs : List Record) (is js : List Image) → with_more (with_more t rs is) qs js ≡ with_more t (rs ++ qs) (is ++ js)
with_both t rs qs is js =
    same_taken t.catalog t.catalog t.opening t.opening ((t.records ++ rs) ++ qs) (t.records ++ (rs ++ qs)) ((t.images ++ is) ++ js) refl refl (append_assoc t.records rs qs)
    ∙ ap (λ (i : List Image). record { catalog = t.catalog; opening = t.opening; records = t.records ++ (rs ++ qs); images = i }) (append_assoc t.images is js)

module _ {J F : Type 0} (Has : J → J → Taken → Type 0) (Front : J → J → Taken → ℕ → Type 0) (start now : J) where
  -- one that has failed has a front of what it was told of by then, whatever it is told
  pub told_on : (f : F) (t : Taken) (rs : List Record) (is : List Image) → IsTold Has Front start now (Some f) t → IsTold Has Front start now (Some f) (with_more t rs is)
  told_on f t rs is h =
      record {
        before = h.before;
        records = h.records;
        images = h.images;
        later_records = h.later_records ++ rs;
        later_images = h.later_images ++ is;
        all = ap (λ (x : Taken). with_more x rs is) h.all ∙ with_both (with_more h.before h.records h.images) h.later_records rs h.later_images is;
        front = h.front;
      }

  pub told_had : (o : Option F) (t : Taken) (rs : List Record) (is : List Image) → is_some o ≡ true → IsTold Has Front start now o t → IsTold Has Front start now o (with_more t rs is)
  told_had None t rs is failed h = absurd (cc)
  told_had (Some f) t rs is failed h = told_on f t rs is h

  -- one that hasn't has all
  pub told_all : (o : Option F) (t : Taken) → is_some o ≡ false → IsTold Has Front start now o t → Has start now t
  told_all None t going h = h
  told_all (Some f) t going h = absurd (cc)

  -- one that just failed
  pub told_front : (f : F) (t : Taken) (rs : List Record) (is : List Image) → Front start now (with_more t rs is) (length t.records) → IsTold Has Front start now (Some f) (with_more t rs is)
  told_front f t rs is front =
      record {
        before = t;
        records = rs;
        images = is;
        later_records = [];
        later_images = [];
        all = with_nothing (with_more t rs is);
        front = front;
      }

  pub told_same : (o : Option F) (t u : Taken) → t ≡ u → IsTold Has Front start now o t → IsTold Has Front start now o u
  told_same o t u is h = subst (λ (x : Taken). IsTold Has Front start now o x) is h

-- what a core had at first, and its log and images since, is all that it has
pub all_since : (first core : CoreView) (images : List Image) → first.log ≡ [] → IsFrom first.catalog first.opening core → with_more (taken_of first []) core.log images ≡ taken_of core images
all_since first core images none from =
    same_taken first.catalog core.catalog first.opening core.opening (first.log ++ core.log) core.log images (sym from.0) (sym from.1) (ap (λ (l : List Record). l ++ core.log) none)

-- what is said of a log and of images holds of the same ones
pub told_of : (P : List Record → List Image → Type 0) (old core : CoreView) (is js : List Image) → core ≡ old → js ≡ is → ∥ P old.log is ∥₁ → ∥ P core.log js ∥₁
told_of P old core is js same images h = subst (λ (v : CoreView). ∥ P v.log js ∥₁) (sym same) (subst (λ (i : List Image). ∥ P old.log i ∥₁) (sym images) h)

-- what is said of the beginning that is named
told_begun : {K : Type 0} (P : K → Type 0) (begun : Option K) (k : K) → ∥ begun ≡ Some k ∥₁ → ∥ P k ∥₁ → ∥ IfSome begun P ∥₁
told_begun P begun k is h = ∥∥₁_elim is ∥∥₁_prop (λ e. ∥∥₁_map h (λ p. subst (λ o. IfSome o P) (sym e) p))

-- a keeper that was told of what a core has, since the beginning that is named
pub told_after : {K : Type 0} (Has : K → K → List Record → List Image → Type 0) (begun : Option K) (start now : K) (old core : CoreView) (is js : List Image) → core ≡ old → js ≡ is →
    ∥ begun ≡ Some start ∥₁ → ∥ Has start now old.log is ∥₁ → ∥ IfSome begun (λ b. Has b now core.log js) ∥₁
told_after Has begun start now old core is js same images named h = told_begun (λ b. Has b now core.log js) begun start named (told_of (Has start now) old core is js same images h)

-- what is said of a beginning holds of the keeper that comes back as it was
pub still_begun : {K : Type 0} (begun : Option K) (k j : K) → j ≡ k → ∥ begun ≡ Some k ∥₁ → ∥ begun ≡ Some j ∥₁
still_begun begun k j is h = subst (λ x. ∥ begun ≡ Some x ∥₁) (sym is) h

pub same_keeper : {K : Type 0} (k j : K) → Some k ≡ Some j → k ≡ j
same_keeper k j is = cc
