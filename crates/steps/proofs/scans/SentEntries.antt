-- What a streamed scan sends of a record, and what it counts.
use Rattle.std.proofs.Common.{◌≡◌, ℕ, zero, suc, arith, List, [], ◌∷◌, Option, Some, None, append-nil, option_map, slice_set, refl, sym, ap, ◌∙◌, subst}
use Rattle.std.proofs.lemmas.List.{set-get_or}
use Rattle.procedure.specs.Bytes.{Cell}
use Rattle.image.specs.Images.{Entry}
use Rattle.pipe.specs.Rings as ring
use Rattle.pipe.specs.declared.taps.Tap.{Tap}
use Rattle.record_store.specs.Stores.{StoreRecord, Slots, changed, record_at, stable_at, stable_of, with_stable}
use Rattle.record_store.specs.declared.records.Stable.TheVariants.{Empty, Was}
use Rattle.steps.proofs.store.RecordEdits.{changed_twice}
use Rattle.steps.specs.Versions.{KeyVersions}
use Rattle.steps.specs.inside.RecordEdits.{edited}
use Rattle.steps.specs.inside.SetAside.{aside_at}
use Rattle.steps.specs.inside.Sends.{IsSent}
use Rattle.steps.specs.declared.checkpoints.Tally.{Tally}
use Rattle.steps.specs.declared.given.Given.{Given}

module _ {A : Type 0} (tap : Tap A) (given : Given Entry) (tally : Tally) where
  pub sent_none : (es : List Entry) → es ≡ [] → IsSent es tap tap given given tally tally
  sent_none es none = subst (λ l. IsSent l tap tap given given tally tally) (sym none) record {
    sent = sym (append-nil (ring.sent tap));
    gave = sym (append-nil given.entries);
    count = omega arith;
    chain = refl;
  }

-- A STABLE VERSION THAT IS PUT BACK

put_again : (x : Cell) (o : Option StoreRecord) → stable_of o ≡ Was x → option_map (λ r. with_stable (Was x) (with_stable Empty r)) o ≡ o
put_again x None e = absurd (cc)
put_again x (Some r) e = ap (λ s. Some (record r { stable = s })) (sym e)

pub put_back : (x : Cell) (slots : Slots) (i : ℕ) → stable_at slots i ≡ Was x → changed (with_stable (Was x)) (changed (with_stable Empty) slots i) i ≡ slots
put_back x slots i e =
    changed_twice (with_stable Empty) (with_stable (Was x)) slots i ∙ ap (slice_set slots i) (put_again x (record_at slots i) e) ∙ set-get_or slots i None

-- a change of versions sets no record aside
pub aside_edited : (f : KeyVersions → KeyVersions) (slots : Slots) (i j : ℕ) → aside_at (changed (edited f) slots i) j ≡ aside_at slots j
aside_edited f [] i j = refl
aside_edited f (None ∷ slots) zero j = refl
aside_edited f (Some r ∷ slots) zero zero = refl
aside_edited f (Some r ∷ slots) zero (suc j) = refl
aside_edited f (x ∷ slots) (suc i) zero = refl
aside_edited f (x ∷ slots) (suc i) (suc j) = aside_edited f slots i j
