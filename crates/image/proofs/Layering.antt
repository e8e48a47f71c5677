-- Layers of entries: two of them as one, and one more.
use Rattle.std.proofs.Common.{◌≡◌, List, [], ◌∷◌, ◌++◌, map, refl, sym, ap, ◌∙◌, subst}
use Rattle.std.specs.Option.{option_or}
use Rattle.std.specs.Cmp.Lexicographic.{nat_list_cmp_total}
use Rattle.std.specs.FinMap.{find, same_map, slice_cmp-IsAntisymmetric, nat_cmp-IsAntisymmetric}
use Rattle.std.proofs.lemmas.List.{map-append}
use Rattle.procedure.specs.Bytes.{Bytes}
use Rattle.procedure.specs.Table.{Table, changed_or, no_table, value_at, with_cells}
use Rattle.image.specs.Images.{Entry, Rises, entries_of}
use Rattle.image.specs.Joins.{Say, later_of, present}
use Rattle.image.specs.Layers.{AllRise, with_layers}
use Rattle.image.proofs.Rising.{by_bytes}
use Rattle.image.proofs.Tables.{in_turn, present_is_table, value_at-no_table, value_at-with_cells}

-- where the others say the same over another list
module _ (older newer set others : List Entry) (same : (q : Bytes) → later_of set others q ≡ later_of older newer q) where
  pub says_same : (es : List Entry) → Say (later_of set others) es → Say (later_of older newer) es
  says_same es says = record { rises = says.rises; finds = λ q. says.finds q ∙ same q }

  pub says_alone : others ≡ [] → Rises set → Say (later_of older newer) set
  says_alone none rises = record { rises = rises; finds = λ q. ap (λ (l : List Entry). option_or (find by_bytes q l) (find by_bytes q set)) (sym none) ∙ same q }

-- a table changed by two lists in turn is changed by one that says what both do
pub changed_by_both : (t : Table) (older newer es : List Entry) → Say (later_of older newer) es → with_cells t es ≡ with_cells (with_cells t older) newer
changed_by_both t older newer es says =
    same_map nat_list_cmp_total (slice_cmp-IsAntisymmetric nat_cmp-IsAntisymmetric) _ _
    (λ q.
    value_at-with_cells t es q
    ∙ ap (λ o. changed_or o (value_at t q)) (says.finds q)
    ∙ sym (in_turn (find by_bytes q newer) (find by_bytes q older) (value_at t q))
    ∙ ap (changed_or (find by_bytes q newer)) (sym (value_at-with_cells t older q))
    ∙ sym (value_at-with_cells (with_cells t older) newer q))

-- one more layer
pub with_layers-append : (t : Table) (ls : List (List Entry)) (es : List Entry) → with_layers t (ls ++ es ∷ []) ≡ with_cells (with_layers t ls) es
with_layers-append t [] es = refl
with_layers-append t (l ∷ ls) es = with_layers-append (with_cells t l) ls es

pub all_rise-append : (ls : List (List Entry)) (es : List Entry) → AllRise ls → Rises es → AllRise (ls ++ es ∷ [])
all_rise-append [] es h one = (one, tt)
all_rise-append (l ∷ ls) es h one = (h.0, all_rise-append ls es h.1 one)

pub all_rise-parts : (ls : List (List Entry)) (es : List Entry) → AllRise (ls ++ es ∷ []) → AllRise ls × Rises es
all_rise-parts [] es h = (tt, h.0)
all_rise-parts (l ∷ ls) es h = let both = all_rise-parts ls es h.1 in ((h.0, both.0), both.1)

-- lists of which one was put behind the others
module _ {V : Type 0} (items : V → List Entry) (all front : List V) (last : V) (is : all ≡ front ++ last ∷ []) where
  shown : map items all ≡ map items front ++ items last ∷ []
  shown = ap (map items) is ∙ map-append items front (last ∷ [])

  pub rise_before : AllRise (map items all) → AllRise (map items front)
  rise_before h = (all_rise-parts (map items front) (items last) (subst AllRise shown h)).0

  pub rises_last : AllRise (map items all) → Rises (items last)
  rises_last h = (all_rise-parts (map items front) (items last) (subst AllRise shown h)).1

  pub rise_all : AllRise (map items front) → Rises (items last) → AllRise (map items all)
  rise_all h one = subst AllRise (sym shown) (all_rise-append (map items front) (items last) h one)

  pub layers_all : (t : Table) → with_layers t (map items all) ≡ with_cells (with_layers t (map items front)) (items last)
  layers_all t = ap (with_layers t) shown ∙ with_layers-append t (map items front) (items last)

  -- the last with a newer list over it
  pub still_says : (t u : Table) (newer es : List Entry) → Say (later_of (items last) newer) es → with_cells (with_layers t (map items all)) newer ≡ u → with_cells (with_layers t (map items front)) es ≡ u
  still_says t u newer es says whole =
      changed_by_both (with_layers t (map items front)) (items last) newer es says ∙ ap (λ (v : Table). with_cells v newer) (sym (layers_all t)) ∙ whole

-- what is present of a list makes a table's entries
pub present_of : (es : List Entry) → Rises es → present es ≡ entries_of (with_cells no_table es)
present_of es rises =
    present_is_table (λ q. find by_bytes q es) es (with_cells no_table es) (record { rises = rises; finds = λ q. refl })
    (λ q. value_at-with_cells no_table es q ∙ ap (changed_or (find by_bytes q es)) (value_at-no_table q))
