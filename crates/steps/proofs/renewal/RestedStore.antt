-- The store of a core that goes on with its records at rest.
use Rattle.std.proofs.Common.{◌≡◌, ℕ, zero, suc, ◌≤◌, Bool, true, false, cond, [], ◌∷◌, length, map, Option, Some, None, is_some, option_map, refl, sym, ap, ◌∙◌, arith}
use Rattle.std.proofs.lemmas.List.{length-map}
use Rattle.std.proofs.lemmas.List.Sums.{count_by-le-length, sum_by-cons}
use Rattle.procedure.specs.Bytes.{Bytes, Cell}
use Rattle.procedure.specs.Table.{Table, value_at}
use Rattle.image.specs.Images.{Image, full_image}
use Rattle.image.specs.Merges.{table_of}
use Rattle.record_store.proofs.Versions.{version_some}
use Rattle.record_store.specs.Stores.{Slots, StoreRecord, is_live, live_count, record_at, record_at_rest}
use Rattle.record_store.specs.Versions as stored
use Rattle.steps.specs.Versions.{key_versions, live_version, opened_versions, versions_in}
use Rattle.steps.specs.machine.Machine.{cleaned_versions}
use Rattle.steps.specs.inside.Openings.{IsFilledBy}
use Rattle.steps.proofs.phases.ResolveAndRest.{rested_versions}
use Rattle.steps.proofs.renewal.NextOpening.{table_of-full}

-- where as many records live as there are slots, the first slot's does, and so of the others
first_lives : (o : Option StoreRecord) (slots : Slots) → live_count (o ∷ slots) ≡ length (o ∷ slots) → (is_live o ≡ true) × (live_count slots ≡ length slots)
first_lives o slots all = by (is_live o) refl
  where
    by : (b : Bool) → is_live o ≡ b → (is_live o ≡ true) × (live_count slots ≡ length slots)
    by true e = (e, omega (arith, all, sum_by-cons (λ (o : Option StoreRecord). cond (is_live o) 1 0) o slots, ap {B = ℕ} (λ b. cond b 1 0) e))
    by false e =
        let most : live_count slots ≤ length slots = count_by-le-length is_live slots in
        absurd (omega (arith, all, most, sum_by-cons (λ (o : Option StoreRecord). cond (is_live o) 1 0) o slots, ap {B = ℕ} (λ b. cond b 1 0) e))

-- and so does each
each_lives : (slots : Slots) → live_count slots ≡ length slots → (i : ℕ) (r : StoreRecord) → record_at slots i ≡ Some r → is_some r.live ≡ true
each_lives [] all i r is = absurd (cc)
each_lives (o ∷ slots) all zero r is = sym (ap is_live is) ∙ (first_lives o slots all).0
each_lives (o ∷ slots) all (suc i) r is = each_lives slots (first_lives o slots all).1 i r is

opened : (w : stored.Version) (x : Cell) → is_some w.live ≡ true → w.live ≡ x → cleaned_versions (Some (key_versions w)) ≡ opened_versions x
opened w None some is = absurd (let no : is_some w.live ≡ false = ap is_some is in cc)
opened w (Some b) some is = ap (λ (x : Cell). Some (record { live = x; stable = None; available = false })) is

at_rest : (slots : Slots) → live_count slots ≡ length slots → (q : Bytes) → cleaned_versions (versions_in slots q) ≡ opened_versions (live_version (versions_in slots q))
unfolding versions_in
at_rest slots all q = by (stored.version_of slots q) refl
  where
    by : (o : Option stored.Version) → stored.version_of slots q ≡ o → cleaned_versions (option_map key_versions o) ≡ opened_versions (live_version (option_map key_versions o))
    by None is = refl
    by (Some v) is =
        let held = version_some slots q v is in
        opened v v.live (sym (ap (λ (w : stored.Version). is_some w.live) held.version_is) ∙ each_lives slots all held.slot held.kept held.there) refl

-- a store whose records all live, each with the value of its key, stands for the opening once they are at rest
pub rested_fills :
    (slots : Slots) (t : Table) (next : Image) → next ≡ full_image 0 0 t → length next.entries ≡ length slots → live_count slots ≡ length slots →
    ((q : Bytes) → live_version (versions_in slots q) ≡ value_at t q) → IsFilledBy next (map (option_map record_at_rest) slots)
rested_fills slots t next next_is len all lives = record {
  slots = length-map slots (option_map record_at_rest) ∙ sym len;
  versions = λ q. rested_versions slots q ∙ at_rest slots all q ∙ ap opened_versions (lives q ∙ ap (λ t. value_at t q) (sym (ap table_of next_is ∙ table_of-full 0 0 t)));
}
