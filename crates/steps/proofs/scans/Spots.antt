-- Where a scan stands.
use Rattle.std.proofs.Common.{◌≡◌, ℕ, Option, Some, None, IsSome, IfSome, length, length-set, option_map, refl, subst, sym, ap, ◌∙◌}
use Rattle.record_store.specs.ChangedSets.{ChangedSets}
use Rattle.record_store.specs.Stores.{HasKeysOnce, Slots, changed, record_at}
use Rattle.steps.specs.Checkpointing.{visited}
use Rattle.steps.specs.CoreViews.{SameKeys}
use Rattle.steps.specs.Versions.{given_of, versions_in}
use Rattle.steps.specs.inside.CoreFields.{IsCore}
use Rattle.steps.specs.inside.RecordEdits.{IsFound, captured, edited, given_by}
use Rattle.steps.specs.inside.SetAside.{aside_at}
use Rattle.steps.specs.inside.Spots.{VisitsKey, key_of_spot}
use Rattle.steps.specs.declared.captures.Spot.{Spot}
use Rattle.steps.specs.declared.cores.Core.TheInside.{Inside}
use Rattle.steps.proofs.scans.ScanPlaces.{given_found, given_none, visited_found, visited_none}
use Rattle.steps.proofs.scans.SentEntries.{aside_edited}
use Rattle.steps.proofs.store.SlotEdits.{keys_same}

-- what was found of its key
abbrev pub FoundAt : Slots → Option Spot → Type 0
FoundAt slots spot = IfSome spot (λ s. IsFound slots s.key s.slot)

module _ (slots : Slots) (spot : Option Spot) (s : Spot) (is : spot ≡ Some s) (found : FoundAt slots spot) where
  found_there : (slot : Option ℕ) → s.slot ≡ slot → IsFound slots s.key slot
  found_there slot at = subst (IsFound slots s.key) at (subst (FoundAt slots) is found)

  -- the record there is visited
  module _ (slot : ℕ) (at : s.slot ≡ Some slot) where
    abbrev there : IsFound slots s.key (Some slot)
    there = found_there (Some slot) at

    pub visits_record : (new : Slots) → new ≡ changed (edited captured) slots slot → VisitsKey slots new (key_of_spot spot)
    visits_record new e = record {
      slots = ap (λ (l : Slots). length l) e ∙ length-set slots slot (option_map (edited captured) (record_at slots slot));
      keys = subst (SameKeys slots) (sym e) (keys_same (edited captured) (λ r. refl) slots slot);
      aside = λ i. ap (λ (l : Slots). aside_at l i) e ∙ aside_edited captured slots slot i;
      versions = λ q.
          ap (λ (l : Slots). versions_in l q) e ∙ visited_found slots slot s.key q there.once there.finds
          ∙ ap (λ (o : Option Spot). visited (key_of_spot o) q (versions_in slots q)) (sym is);
    }

    pub given_there : given_by (record_at slots slot) ≡ given_of (versions_in slots) (key_of_spot spot)
    given_there = given_found slots slot s.key there.once there.finds ∙ ap (λ (o : Option Spot). given_of (versions_in slots) (key_of_spot o)) (sym is)

  -- no record is there
  module _ (at : s.slot ≡ None) where
    pub visits_none : VisitsKey slots slots (key_of_spot spot)
    visits_none = record {
      slots = refl;
      keys = λ i. refl;
      aside = λ i. refl;
      versions = λ q.
          visited_none slots s.key q (found_there None at).finds ∙ ap (λ (o : Option Spot). visited (key_of_spot o) q (versions_in slots q)) (sym is);
    }

    pub none_there : None ≡ given_of (versions_in slots) (key_of_spot spot)
    none_there = given_none slots s.key (found_there None at).finds ∙ ap (λ (o : Option Spot). given_of (versions_in slots) (key_of_spot o)) (sym is)

pub once_there : (slots : Slots) (spot : Option Spot) → FoundAt slots spot → IsSome (key_of_spot spot) → HasKeysOnce slots
once_there slots None found some = absurd (cc)
once_there slots (Some s) found some = found.once

-- a core whose changed keys are the same
pub same_changed : {A : Type 0} (c : Inside A) (changed : ChangedSets) → changed ≡ c.changed → IsCore c → IsCore (record c { changed = changed })
same_changed c changed same ok = subst (λ (x : ChangedSets). IsCore (record c { changed = x })) (sym same) ok
