-- The opening of the core that goes on from another.
use Rattle.std.proofs.Common.{◌≡◌, ℕ, ◌≤◌, Bool, true, false, cond, List, [], ◌∷◌, length, map, take, Some, None, refl, sym, ap, ◌∙◌, subst, arith}
use Rattle.std.proofs.lemmas.List.{take_all}
use Rattle.std.specs.Cmp.Lexicographic.{nat_list_cmp_total}
use Rattle.std.specs.FinMap as fin
use Rattle.std.specs.FinMap.Entries.{same_entries}
use Rattle.std.specs.Ordering.{eq_by_cmp}
use Rattle.procedure.specs.Bytes.{Bytes, Cell}
use Rattle.procedure.specs.Table.{Changes, Table, change_at, changed_or, no_table, value_at}
use Rattle.procedure.proofs.Base.{same_table, value_at-merged, value_at-no_table}
use Rattle.commitlog.specs.Histories.{after}
use Rattle.commitlog.specs.Records.{Record}
use Rattle.image.proofs.Rising.{by_bytes}
use Rattle.image.proofs.Tables.{lawful_full, sorted_shown}
use Rattle.image.specs.Headers.{map_of, of_captured}
use Rattle.image.specs.Images.{Entry, Image, IsLawfulImage, changes_of, entries_of, full_image}
use Rattle.image.specs.Merges.{table_of}
use Rattle.image.specs.declared.images.Kind.TheVariants.{Full}
use Rattle.record_store.specs.declared.limits.TheConstants.{STORE_RECORDS}
use Rattle.steps.specs.CoreViews.{CoreView, table_now}
use Rattle.steps.specs.Renewals.{next_opening, renew_refusal}
use Rattle.steps.specs.Versions.{live_version, versions_in}
use Rattle.steps.specs.inside.CoreFields.{IsCore, view_of}
use Rattle.steps.specs.declared.cores.Core.TheInside.{Inside}
use Rattle.steps.proofs.machine.OpenCalls.{none_some}
use Rattle.steps.proofs.renewal.LiveEntries.{shown}
use Rattle.steps.proofs.renewal.RenewalRefusals.{none_open_at}
use Rattle.steps.proofs.views.CoreState.{good, none_open, now_is}

-- THE IMAGE OF A TABLE

abbrev map_shown : List (Bytes × Bytes) → List Entry
map_shown es = map (λ e. (e.0, Some e.1)) es

found_shown : (q : Bytes) (es : List (Bytes × Bytes)) → fin.find by_bytes q (map_shown es) ≡ shown (fin.find by_bytes q es)
found_shown q [] = refl
found_shown q (e ∷ es) = ap (cond (eq_by_cmp by_bytes q e.0) (Some (Some e.1))) (found_shown q es) ∙ by (eq_by_cmp by_bytes q e.0) e.1 (fin.find by_bytes q es)
  where
    by : (b : Bool) (v : Bytes) (o : Cell) → cond b (Some (Some v)) (shown o) ≡ shown (cond b (Some v) o)
    by true v o = refl
    by false v o = refl

entry_found : (t : Table) (q : Bytes) → fin.find by_bytes q (entries_of t) ≡ shown (value_at t q)
entry_found t q = found_shown q (fin.entries t) ∙ ap shown (sym (fin.get-entries t q))

-- entries that hold what a table holds are the table's
table_entries : (m : Changes) (t : Table) → ((q : Bytes) → change_at m q ≡ shown (value_at t q)) → fin.entries m ≡ entries_of t
table_entries m t h =
    same_entries by_bytes nat_list_cmp_total (fin.slice_cmp-IsAntisymmetric fin.nat_cmp-IsAntisymmetric) (fin.entries m) (entries_of t)
    (fin.entries_sorted m) (sorted_shown (fin.entries t) (fin.entries_sorted t)) (λ q. sym (fin.get-entries m q) ∙ h q ∙ sym (entry_found t q))

abbrev opening_with : List Entry → Image
opening_with es = record { kind = Full; number = 0; base = 0; place = 0; entries = es }

captured_is : (es : List Entry) (t : Table) → ((q : Bytes) → change_at (map_of es) q ≡ shown (value_at t q)) → of_captured Full 0 0 0 es ≡ full_image 0 0 t
captured_is es t h = ap opening_with (table_entries (map_of es) t h)

-- what the full image of a table holds
pub table_of-full : (number place : ℕ) (t : Table) → table_of (full_image number place t) ≡ t
table_of-full number place t =
    same_table (table_of (full_image number place t)) t
    (λ q.
    value_at-merged no_table (changes_of (full_image number place t)) q
    ∙ ap (λ x. changed_or (change_at (changes_of (full_image number place t)) q) x) (value_at-no_table q)
    ∙ ap (λ o. changed_or o None) (fin.get-from_entries nat_list_cmp_total (entries_of t) q ∙ entry_found t q)
    ∙ present (value_at t q))
  where
    present : (x : Cell) → changed_or (shown x) None ≡ x
    present None = refl
    present (Some b) = refl

-- THE TABLE OF A CORE WITHOUT OPEN CALLS

module _ {A : Type 0} (c : Inside A) (ok : IsCore c) (v : CoreView) (same : view_of c ≡ v) where
  small_table : (k : ℕ) → length v.log ≤ k → fin.len (table_now v) ≤ STORE_RECORDS
  small_table k le =
      subst (λ (l : List Record). fin.len (after v.catalog (table_of v.opening) l) ≤ STORE_RECORDS) (take_all k v.log le)
      (subst (λ (w : CoreView). fin.len (after w.catalog (table_of w.opening) (take k w.log)) ≤ STORE_RECORDS) same (ok.small k))

  -- what is live is what the table holds
  pub live_is : renew_refusal v ≡ None → (q : Bytes) → live_version (versions_in c.store q) ≡ value_at (table_now v) q
  live_is free q =
      ap live_version (sym (ok.stands.versions q))
      ∙ (good c ok).lives.table q (λ s o is. none_some (sym (none_open c ok s (none_open_at c v same free s)) ∙ is))
      ∙ ap (λ t. value_at t q) (now_is c ok ∙ ap table_now same)

  module _ (free : renew_refusal v ≡ None) (es : List Entry) (holds : (q : Bytes) → change_at (map_of es) q ≡ shown (live_version (versions_in c.store q))) where
    pub next_is : of_captured Full 0 0 0 es ≡ next_opening v
    next_is = captured_is es (table_now v) (λ q. holds q ∙ ap shown (live_is free q))

    pub next_lawful : IsLawfulImage (of_captured Full 0 0 0 es)
    next_lawful =
        subst IsLawfulImage (sym next_is)
        (lawful_full 0 0 (table_now v) (let few = small_table (length v.log) (omega arith) in omega (arith, few)))
