-- Entries in layers, of which each counts over those below it.
use Rattle.std.specs.Prelude.{List, [], ◌∷◌, map}
use Rattle.std.specs.List.{AllByRecursion}
use Rattle.procedure.specs.Table.{Table, no_table, with_cells}
use Rattle.image.specs.Images.{Entry, Rises}
use Rattle.image.specs.declared.layers.Layers.TheInside.{Inside}

-- a table with what the layers say, the lowest first
abbrev pub with_layers : Table → List (List Entry) → Table
with_layers t [] = t
with_layers t (es ∷ ls) = with_layers (with_cells t es) ls

abbrev pub layers_of : {A : Type 0} → Inside A → List (List Entry)
layers_of l = map (λ es. es.items) l.lists.items

-- what they say alone
abbrev pub table_of_layers : {A : Type 0} → Inside A → Table
table_of_layers l = with_layers no_table (layers_of l)

-- each is in the order of its keys
abbrev pub AllRise : List (List Entry) → Type 0
AllRise = AllByRecursion Rises
