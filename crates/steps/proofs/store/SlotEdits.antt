-- Edits of a store's records keep each record in its slot, and so the scan that goes by the slots.
use Rattle.std.proofs.Common.{◌≡◌, ℕ, Bool, List, Option, Some, None, option_map, inl, inr, refl, sym, ap, ◌∙◌, get_or-set_other, map, Vec, false, true, true≢false}
use Rattle.std.proofs.Math.ListN.{get_or-map}
use Rattle.std.proofs.lemmas.Bool.{cases_eq}
use Rattle.procedure.specs.Bytes.{Bytes, Cell}
use Rattle.procedure.specs.Table.{Changes}
use Rattle.phase.specs.declared.phases.Phase.{Phase}
use Rattle.phase.specs.declared.phases.Phase.TheVariants.{Rest, Prepare, Resolve, Capture, Complete}
use Rattle.image.specs.declared.images.Kind.{Kind}
use Rattle.image.specs.declared.images.Kind.TheVariants.{Full, Partial}
use Rattle.record_store.proofs.Fields.{edited_here}
use Rattle.record_store.proofs.Making.{at_with_other}
use Rattle.record_store.specs.ChangedSets.{KeySet}
use Rattle.record_store.specs.Stores.{StoreRecord, Slots, record_at_rest, changed, key_at, record_at, with_aside, with_record}
use Rattle.record_store.specs.Versions.{KeepsKey}
use Rattle.steps.specs.CoreViews.{SameKeys}
use Rattle.steps.specs.inside.SetAside.{aside_at, is_aside}
use Rattle.steps.specs.machine.NewestFirst.{MachineImage}
use Rattle.steps.specs.inside.RecordEdits.{KeepsSlots}
use Rattle.steps.specs.inside.CheckpointFields.{IsTracked, ScansIn, spots}
use Rattle.steps.specs.declared.checkpoints.Checkpoint.{Checkpoint}

pub slots_same : (slots new : Slots) → new ≡ slots → KeepsSlots slots new
slots_same slots new e = record { keys = λ i key is. ap (λ (l : Slots). key_at l i) e ∙ is; aside = λ i is. ap (λ (l : Slots). aside_at l i) (sym e) ∙ is }

pub slots_then : (a b c : Slots) → KeepsSlots a b → KeepsSlots b c → KeepsSlots a c
slots_then a b c f g = record { keys = λ i key is. g.keys i key (f.keys i key is); aside = λ i is. f.aside i (g.aside i is) }

same_key : (f : StoreRecord → StoreRecord) → KeepsKey f → (o : Option StoreRecord) → option_map (λ r. r.key) (option_map f o) ≡ option_map (λ r. r.key) o
same_key f keeps None = refl
same_key f keeps (Some r) = ap (λ (k : Bytes). Some k) (keeps r)

-- a change of a record that doesn't set it aside
abbrev pub KeepsAside : (StoreRecord → StoreRecord) → Type 0
KeepsAside f = (r : StoreRecord) → (f r).aside ≡ true → r.aside ≡ true

same_aside : (f : StoreRecord → StoreRecord) → KeepsAside f → (o : Option StoreRecord) → is_aside (option_map f o) ≡ true → is_aside o ≡ true
same_aside f keeps None is = is
same_aside f keeps (Some r) is = keeps r is

-- each slot has the key that it had
pub keys_same : (f : StoreRecord → StoreRecord) → KeepsKey f → (slots : Slots) (i : ℕ) → SameKeys slots (changed f slots i)
keys_same f keeps slots i j =
    elim (cases_eq j i) [
      | inl e ↦
          ap (key_at (changed f slots i)) e
          ∙ ap (option_map (λ (r : StoreRecord). r.key)) (edited_here (option_map f) refl slots i)
          ∙ same_key f keeps (record_at slots i)
          ∙ ap (key_at slots) (sym e)
      | inr differs ↦ ap (option_map (λ (r : StoreRecord). r.key)) (get_or-set_other slots i j (option_map f (record_at slots i)) None differs)
    ]

keys_changed : (f : StoreRecord → StoreRecord) → KeepsKey f → (slots : Slots) (i j : ℕ) (key : Bytes) → key_at slots j ≡ Some key → key_at (changed f slots i) j ≡ Some key
keys_changed f keeps slots i j key is = keys_same f keeps slots i j ∙ is

-- a change of the record in a slot
pub slots_changed : (f : StoreRecord → StoreRecord) → KeepsKey f → KeepsAside f → (slots : Slots) (i : ℕ) → KeepsSlots slots (changed f slots i)
slots_changed f keeps stays slots i = record { keys = keys_changed f keeps slots i; aside = by }
  where
    by : (j : ℕ) → aside_at (changed f slots i) j ≡ true → aside_at slots j ≡ true
    by j is =
        elim (cases_eq j i) [
          | inl e ↦
              ap (aside_at slots) e
              ∙ same_aside f stays (record_at slots i) (sym (ap (aside_at (changed f slots i)) e ∙ ap is_aside (edited_here (option_map f) refl slots i)) ∙ is)
          | inr differs ↦ sym (ap is_aside (get_or-set_other slots i j (option_map f (record_at slots i)) None differs)) ∙ is
        ]

-- a record more, in a slot that was vacant, changed so and not set aside
pub slots_made :
    (f : StoreRecord → StoreRecord) → KeepsKey f → (slots : Slots) (i : ℕ) (r : StoreRecord) → record_at slots i ≡ None →
    KeepsSlots slots (changed (with_aside false) (changed f (with_record slots i r) i) i)
slots_made f keeps slots i r vacant = record {
  keys = λ j key is. keys_changed (with_aside false) (λ r. refl) (changed f (with_record slots i r) i) i j key (keys_changed f keeps (with_record slots i r) i j key (created j key is));
  aside = by;
}
  where
    created : (j : ℕ) (key : Bytes) → key_at slots j ≡ Some key → key_at (with_record slots i r) j ≡ Some key
    created j key is =
        elim (cases_eq j i) [
          | inl e ↦ absurd (let none : key_at slots j ≡ None = ap (key_at slots) e ∙ ap (option_map (λ (r : StoreRecord). r.key)) vacant in cc)
          | inr differs ↦ ap (option_map (λ (r : StoreRecord). r.key)) (at_with_other slots i r j differs) ∙ is
        ]

    cleared : (o : Option StoreRecord) → is_aside (option_map (with_aside false) o) ≡ false
    cleared None = refl
    cleared (Some r) = refl

    written : Slots
    written = changed f (with_record slots i r) i

    by : (j : ℕ) → aside_at (changed (with_aside false) written i) j ≡ true → aside_at slots j ≡ true
    by j is =
        elim (cases_eq j i) [
          | inl e ↦
              absurd
              (true≢false (sym is ∙ ap (aside_at (changed (with_aside false) written i)) e ∙ ap is_aside (edited_here (option_map (with_aside false)) refl written i) ∙ cleared (record_at written i)))
          | inr differs ↦
              sym (
              ap is_aside (get_or-set_other written i j (option_map (with_aside false) (record_at written i)) None differs)
              ∙ ap is_aside (get_or-set_other (with_record slots i r) i j (option_map f (record_at (with_record slots i r) i)) None differs)
              ∙ ap is_aside (at_with_other slots i r j differs)
              )
              ∙ is
        ]

-- all records come to rest
pub slots_rested : (slots : Slots) → KeepsSlots slots (map (option_map record_at_rest) slots)
slots_rested slots = record {
  keys = λ i key is. ap (option_map (λ (r : StoreRecord). r.key)) (get_or-map (option_map record_at_rest) slots i None) ∙ same_key record_at_rest (λ r. refl) (record_at slots i) ∙ is;
  aside = λ i is. same_aside record_at_rest (λ r is. is) (record_at slots i) (sym (ap is_aside (get_or-map (option_map record_at_rest) slots i None)) ∙ is);
}

-- the places of a scan, where the records keep their slots
pub spots_kept : (kind : Kind) (slots new : Slots) (frozen : KeySet) → KeepsSlots slots new → (i : ℕ) (q : Bytes) → spots kind slots frozen i ≡ Some q → spots kind new frozen i ≡ Some q
spots_kept Full slots new frozen keeps i q is = keeps.keys i q is
spots_kept Partial slots new frozen keeps i q is = is

module _ {A : Type 0} where
  -- the scan goes on, where each place keeps its key, and what was captured stands in another list
  pub scan_kept :
      (p : Phase) (k : Checkpoint A) (list : Vec (Bytes × Cell) A) (spot next : ℕ → Option Bytes) (seen wanted : Bytes → Bool) (given : Changes) → list.items ≡ k.captured.items →
      ((i : ℕ) (q : Bytes) → spot i ≡ Some q → next i ≡ Some q) →
      ScansIn p k spot seen wanted given → ScansIn p (record k { captured = list }) next seen wanted given
  scan_kept Capture k list spot next seen wanted given e keeps scan = record {
    visited = λ q is. let (i, below, at) = scan.visited q is in (i, below, keeps i q at);
    to_visit = λ q is. let (i, below, at, then) = scan.to_visit q is in (i, below, keeps i q at, then);
    within = scan.within;
    gave = scan.gave;
    once = scan.once;
    captured = λ way. e ∙ scan.captured way;
    count = scan.count;
    chain = scan.chain;
  }
  scan_kept Rest k list spot next seen wanted given e keeps scan = tt
  scan_kept Prepare k list spot next seen wanted given e keeps scan = tt
  scan_kept Resolve k list spot next seen wanted given e keeps scan = tt
  scan_kept Complete k list spot next seen wanted given e keeps scan = tt

  -- the checkpoint, where each place of its scan keeps its key and as many records stand before its cut
  pub tracked_kept :
      (k : Checkpoint A) (spot next : ℕ → Option Bytes) (p : Phase) (n f : ℕ) (sort : Kind) (cut same : ℕ) (seen wanted : Bytes → Bool) (given : Changes) (images : List MachineImage) →
      ((i : ℕ) (q : Bytes) → spot i ≡ Some q → next i ≡ Some q) → same ≡ cut → IsTracked k spot p n f sort cut seen wanted given images → IsTracked k next p n f sort same seen wanted given images
  tracked_kept k spot next p n f sort cut same seen wanted given images keeps e tracked = record {
    number = tracked.number;
    finished = tracked.finished;
    kind = tracked.kind;
    place = λ cutting. e ∙ tracked.place cutting;
    scan = scan_kept p k k.captured spot next seen wanted given refl keeps tracked.scan;
    waits = tracked.waits;
    heads = tracked.heads;
    none_yet = tracked.none_yet;
  }

  -- the same of a store whose records keep their slots, and of the same frozen keys
  pub tracked_on :
      (k : Checkpoint A) (slots new : Slots) (frozen same : KeySet) (p : Phase) (n f : ℕ) (sort : Kind) (cut again : ℕ) (seen wanted : Bytes → Bool) (given : Changes) (images : List MachineImage) →
      KeepsSlots slots new → same ≡ frozen → again ≡ cut → IsTracked k (spots k.kind slots frozen) p n f sort cut seen wanted given images →
      IsTracked k (spots k.kind new same) p n f sort again seen wanted given images
  tracked_on k slots new frozen same p n f sort cut again seen wanted given images keeps e there tracked =
      tracked_kept k (spots k.kind slots frozen) (spots k.kind new same) p n f sort cut again seen wanted given images
      (λ i q is. ap (λ (s : KeySet). spots k.kind new s i) e ∙ spots_kept k.kind slots new frozen keeps i q is) there tracked
