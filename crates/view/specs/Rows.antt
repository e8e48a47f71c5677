-- What contracts see of a table in a hash map.
use Rattle.std.specs.Prelude.{ℕ, List, refl}
use Rattle.std.specs.Ordering.{nat_cmp}
use Rattle.std.specs.Cmp.Lexicographic.{slice_cmp}
use Rattle.std.specs.Coded.{Coded, code_by, coded×, coded_list, coded_ℕ}
use Rattle.std.specs.FinMap as map
use Rattle.procedure.specs.Table.{Table, no_table, with_cells}
use Rattle.image.specs.Images.{Entry}
use Rattle.image.specs.declared.images.Kind.{Kind}
use Rattle.image.specs.declared.images.Kind.TheVariants.{Full, Partial}

-- what it holds, and how many more keys fit without a growth
pub record Rows : Type 0 where
  pub table : Table
  pub room : ℕ

-- a table with the entries of an image of this kind
abbrev pub changed : Kind → Table → List Entry → Table
changed Full t es = with_cells no_table es
changed Partial t es = with_cells t es

abbrev pub rows_code : Coded Rows
rows_code = code_by (Table × ℕ) (coded× (map.code {R = slice_cmp nat_cmp} (coded_list coded_ℕ) (coded_list coded_ℕ)) coded_ℕ) (λ r. (r.table, r.room)) (λ p. record { table = p.0; room = p.1 }) (λ _. refl)
