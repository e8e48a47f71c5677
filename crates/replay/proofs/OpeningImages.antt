-- The table of an image that was made of a table, and the image of an opening.
use Rattle.std.proofs.Common.{◌≡◌, ℕ, Bool, true, false, true≢false, cond, List, [], ◌∷◌, Option, Some, None, IsSome, refl, sym, ap, ◌∙◌, subst}
use Rattle.std.specs.Prelude.{◌==◌, ◌&&◌}
use Rattle.std.specs.Ordering.{eq_by_cmp}
use Rattle.std.specs.Cmp.Lexicographic.{nat_list_cmp_total}
use Rattle.std.specs.FinMap.{entries, find, get-entries, get-from_entries}
use Rattle.std.specs.List.{AllByRecursion}
use Rattle.std.proofs.lemmas.Bool.{eqb-true}
use Rattle.std.proofs.lemmas.List.Elements.{recursion_from_All}
use Rattle.procedure.specs.Bytes.{Bytes, Cell}
use Rattle.procedure.specs.Table.{Table, change_at, changed_or, no_table, value_at}
use Rattle.procedure.proofs.Base.{same_table, value_at-merged, value_at-no_table}
use Rattle.commitlog.specs.Cuts.{in_full}
use Rattle.image.specs.Images.{Entry, Image, IsLawfulImage, SuitsKind, changes_of, entries_of, full_image}
use Rattle.image.specs.Joins.{present}
use Rattle.image.specs.Merges.{is_full, table_of}
use Rattle.image.specs.Openings.{is_opening}
use Rattle.image.specs.declared.images.Kind.{Kind}
use Rattle.image.specs.declared.images.Kind.TheVariants.{Full, Partial}
use Rattle.image.proofs.Rising.{by_bytes}
use Rattle.image.proofs.Tables.{shown}
use Rattle.replay.proofs.ImageTables.{present_of_image}

find_shown : (q : Bytes) (es : List (Bytes × Bytes)) → find by_bytes q (shown es) ≡ in_full (find by_bytes q es)
find_shown q [] = refl
find_shown q (e ∷ es) = ap (cond (eq_by_cmp by_bytes q e.0) (Some (Some e.1))) (find_shown q es) ∙ either (eq_by_cmp by_bytes q e.0) e.1 (find by_bytes q es)
  where
    either : (b : Bool) (v : Bytes) (o : Cell) → cond b (Some (Some v)) (in_full o) ≡ in_full (cond b (Some v) o)
    either true v o = refl
    either false v o = refl

-- what the image of a table says of a key
pub change_at-full : (number place : ℕ) (t : Table) (q : Bytes) → change_at (changes_of (full_image number place t)) q ≡ in_full (value_at t q)
change_at-full number place t q = get-from_entries nat_list_cmp_total (entries_of t) q ∙ find_shown q (entries t) ∙ ap in_full (sym (get-entries t q))

full_or_none : (x : Cell) → changed_or (in_full x) None ≡ x
full_or_none None = refl
full_or_none (Some v) = refl

pub table_of-full : (number place : ℕ) (t : Table) → table_of (full_image number place t) ≡ t
table_of-full number place t =
    same_table (table_of (full_image number place t)) t (λ q.
    value_at-merged no_table (changes_of (full_image number place t)) q
    ∙ ap (changed_or (change_at (changes_of (full_image number place t)) q)) (value_at-no_table q)
    ∙ ap (λ (o : Option Cell). changed_or o None) (change_at-full number place t q)
    ∙ full_or_none (value_at t q))

-- an opening is the image of its table
all_present : (es : List Entry) → AllByRecursion (λ (e : Entry). IsSome e.1) es → present es ≡ es
all_present [] a = refl
all_present (e ∷ es) a = ap (λ b. cond b (e ∷ present es) (present es)) a.0 ∙ ap (λ xs. e ∷ xs) (all_present es a.1)

entries_are : (i : Image) → IsLawfulImage i → i.kind ≡ Full → i.entries ≡ entries_of (table_of i)
entries_are i h full =
    let suits : SuitsKind Full i.number i.base i.entries = subst (λ (k : Kind). SuitsKind k i.number i.base i.entries) full h.kind in
    sym (all_present i.entries (recursion_from_All (λ (e : Entry). IsSome e.1) i.entries suits.1)) ∙ present_of_image i h

-- the parts of an image to open from
pub record Opening (i : Image) : Type 0 where
  pub kind : i.kind ≡ Full
  pub number : i.number ≡ 0
  pub base : i.base ≡ 0
  pub place : i.place ≡ 0

full_kind : (k : Kind) → is_full k ≡ true → k ≡ Full
full_kind Full e = refl
full_kind Partial e = absurd (true≢false (sym e))

pub parts_of : (i : Image) → is_opening i ≡ true → Opening i
parts_of i e =
    let kind = both (is_full i.kind) ((i.number == 0) && ((i.base == 0) && (i.place == 0))) e in
    let number = both (i.number == 0) ((i.base == 0) && (i.place == 0)) kind.1 in
    let base = both (i.base == 0) (i.place == 0) number.1 in
    record {
      kind = full_kind i.kind kind.0;
      number = eqb-true i.number 0 number.0;
      base = eqb-true i.base 0 base.0;
      place = eqb-true i.place 0 base.1;
    }
  where
    both : (x y : Bool) → (x && y) ≡ true → (x ≡ true) × (y ≡ true)
    both true y e = (refl, e)
    both false y e = absurd (true≢false (sym e))

pub opening_is : (i : Image) → is_opening i ≡ true → IsLawfulImage i → i ≡ full_image 0 0 (table_of i)
opening_is i opens h =
    let o = parts_of i opens in
    λ j. record { kind = o.kind j; number = o.number j; base = o.base j; place = o.place j; entries = entries_are i h o.kind j }
