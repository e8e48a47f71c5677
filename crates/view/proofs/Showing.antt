-- What images show, one image after another.
use Rattle.std.proofs.Common.{◌≡◌, ℕ, Bool, List, [], ◌∷◌, ◌++◌, Some, None, sym, ap, ◌∙◌, fold, subst, T, IsTrue, append_assoc, MatchResult, Ok, Err}
use Rattle.std.specs.declared.result.Result.{Result}
use Rattle.std.proofs.lemmas.List.{append-nil}
use Rattle.std.proofs.lemmas.List.Sums.{fold-append}
use Rattle.procedure.specs.Table.{Table, no_table, with_cells, merged}
use Rattle.procedure.proofs.Base.{with_cells-entries}
use Rattle.procedure.proofs.Maps.{entries-map_of}
use Rattle.image.specs.Images.{Image, IsLawfulImage, changes_of}
use Rattle.image.specs.declared.images.Kind.{Kind}
use Rattle.image.specs.declared.images.Kind.TheVariants.{Full, Partial}
use Rattle.view.specs.Rows.{changed}
use Rattle.view.specs.Shown.{shown, shown_by, number_of, last_number}

is_sorted : {b : Bool} → IsTrue b → T b
is_sorted is = subst T (sym is) tt

-- an image's entries, one after another, are its changes
merged-lawful : (t : Table) (i : Image) → IsLawfulImage i → merged t (changes_of i) ≡ with_cells t i.entries
merged-lawful t i lawful = sym (with_cells-entries t (changes_of i)) ∙ ap (with_cells t) (entries-map_of i.entries (is_sorted lawful.rises))

shown_by-lawful : (k : Kind) (t : Table) (i : Image) → IsLawfulImage i → shown_by k t (changes_of i) ≡ changed k t i.entries
shown_by-lawful Full t i lawful = merged-lawful no_table i lawful
shown_by-lawful Partial t i lawful = merged-lawful t i lawful

-- an image more
pub shown-more : (is : List Image) (i : Image) → IsLawfulImage i → shown (is ++ i ∷ []) ≡ changed i.kind (shown is) i.entries
shown-more is i lawful = fold-append (λ t (j : Image). shown_by j.kind t (changes_of j)) no_table is (i ∷ []) ∙ shown_by-lawful i.kind (shown is) i lawful

pub number-more : (is : List Image) (i : Image) → number_of (is ++ i ∷ []) ≡ i.number
number-more is i = fold-append (λ n (j : Image). j.number) 0 is (i ∷ [])

pub last-more : (is : List Image) (i : Image) → last_number (is ++ i ∷ []) ≡ Some i.number
last-more is i = fold-append (λ n (j : Image). Some j.number) None is (i ∷ [])

-- images that are taken in one after another
pub all_taken_in : (before more : List Image) → fold (λ is (i : Image). is ++ i ∷ []) before more ≡ before ++ more
all_taken_in before [] = sym (append-nil before)
all_taken_in before (i ∷ more) = all_taken_in (before ++ i ∷ []) more ∙ append_assoc before (i ∷ []) more

-- what is published after a publication, and what is pending
pub published_all : (new handed_on old handed waiting pending : List Image) → new ≡ fold (λ is (i : Image). is ++ i ∷ []) handed_on handed → waiting ≡ [] → handed_on ≡ old →
    handed ++ waiting ≡ pending → new ≡ old ++ pending
published_all new handed_on old handed waiting pending is none same all =
    is ∙ all_taken_in handed_on handed
    ∙ (λ j. same j ++ (sym (append-nil handed) ∙ ap (λ w. handed ++ w) (sym none) ∙ all) j)

pub none_left : (handed waiting : List Image) → handed ≡ [] → waiting ≡ [] → handed ++ waiting ≡ []
none_left handed waiting a b = λ j. a j ++ b j

-- a table that takes in an image shows it
pub taken_in : (before after : List Image) (i : Image) (old new : Table) (number : ℕ) → IsLawfulImage i → old ≡ shown before → after ≡ before ++ i ∷ [] →
    new ≡ changed i.kind old i.entries → number ≡ i.number → (new ≡ shown after) × (number ≡ number_of after)
taken_in before after i old new number lawful was more changes n = (
  changes ∙ ap (λ t. changed i.kind t i.entries) was ∙ sym (shown-more before i lawful) ∙ ap shown (sym more),
  n ∙ sym (number-more before i) ∙ ap number_of (sym more),
)

-- what is published and what is pending are all that was appended, also after a publication that was refused
pub still_all : {X E : Type 0} (r : Result X E) (new_published published new_pending pending waiting all : List Image) →
    MatchResult r (λ _. (new_published ≡ fold (λ is (i : Image). is ++ i ∷ []) published pending) × (new_pending ≡ [])) (λ _. (new_published ≡ published) × (new_pending ≡ pending)) →
    all ≡ published ++ (pending ++ waiting) → all ≡ new_published ++ (new_pending ++ waiting)
still_all (Ok x) new_published published new_pending pending waiting all values was =
    was ∙ sym (append_assoc published pending waiting)
    ∙ (λ j. sym (values.0 ∙ all_taken_in published pending) j ++ (sym values.1 j ++ waiting))
still_all (Err e) new_published published new_pending pending waiting all values was = was ∙ (λ j. sym values.0 j ++ (sym values.1 j ++ waiting))
