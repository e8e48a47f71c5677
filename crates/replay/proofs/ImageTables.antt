-- The table of a lawful image is made of the keys that it has.
use Rattle.std.proofs.Common.{◌≡◌, List, [], ◌∷◌, Some, None, refl, sym, ap, ◌∙◌, subst, T}
use Rattle.std.specs.FinMap.{empty, entries, entries_sorted, is_sorted, find, get-entries}
use Rattle.procedure.specs.Bytes.{Bytes}
use Rattle.procedure.specs.Table.{Table, with_pairs}
use Rattle.procedure.proofs.Maps.{same_key_map, entries-with_pairs}
use Rattle.image.proofs.Rising.{by_bytes}
use Rattle.image.specs.Images.{Entry, Image, IsLawfulImage}
use Rattle.image.specs.Joins.{present}
use Rattle.image.specs.Merges.{table_of}
use Rattle.image.proofs.Tables.{shown, present_is_table, value_at-chain}
use Rattle.replay.specs.Parts.{pairs_of}

pairs_of_present : (es : List Entry) → pairs_of (present es) ≡ pairs_of es
pairs_of_present [] = refl
pairs_of_present ((k, None) ∷ es) = pairs_of_present es
pairs_of_present ((k, Some v) ∷ es) = ap (λ ps. (k, v) ∷ ps) (pairs_of_present es)

pairs_of_shown : (ps : List (Bytes × Bytes)) → pairs_of (shown ps) ≡ ps
pairs_of_shown [] = refl
pairs_of_shown ((k, v) ∷ ps) = ap (λ qs. (k, v) ∷ qs) (pairs_of_shown ps)

pub present_of_image : (i : Image) → IsLawfulImage i → present i.entries ≡ shown (entries (table_of i))
present_of_image i h = present_is_table (λ q. find by_bytes q i.entries) i.entries (table_of i) (record { rises = h.rises; finds = λ q. refl }) (λ q. value_at-chain i [] q)

pairs_of_image : (i : Image) → IsLawfulImage i → pairs_of i.entries ≡ entries (table_of i)
pairs_of_image i h = sym (pairs_of_present i.entries) ∙ ap pairs_of (present_of_image i h) ∙ pairs_of_shown (entries (table_of i))

same_entries_same_table : (t u : Table) → entries t ≡ entries u → t ≡ u
same_entries_same_table t u e = same_key_map t u (λ q. get-entries t q ∙ ap (find by_bytes q) e ∙ sym (get-entries u q))

pub table_of_pairs : (i : Image) → IsLawfulImage i → with_pairs empty (pairs_of i.entries) ≡ table_of i
table_of_pairs i h =
    same_entries_same_table (with_pairs empty (pairs_of i.entries)) (table_of i)
    (entries-with_pairs (pairs_of i.entries) (subst (λ ps. T (is_sorted by_bytes ps)) (sym (pairs_of_image i h)) (entries_sorted (table_of i)))
    ∙ pairs_of_image i h)
