use Rattle.std.proofs.Common.{◌≡◌, length, map}
use Rattle.procedure.specs.Table.{no_table, with_cells}
use Rattle.image.specs.Images.{Rises}
use Rattle.image.specs.Layers.{AllRise, with_layers}
use Rattle.image.proofs.layers.Layers.into_entries.Given as goal

-- the lists that are left say with all that was taken off what all say
abbrev pub invariant-loop-older : goal.invariant-loop-older
invariant-loop-older g l = record {
  lists : AllRise (map (λ es. es.items) l.lists.items);
  all : Rises l.all.items;
  says : with_cells (with_layers no_table (map (λ es. es.items) l.lists.items)) l.all.items ≡ with_layers no_table (map (λ es. es.items) l.initial.lists.items);
}

abbrev pub decreases-loop-older : goal.decreases-loop-older
decreases-loop-older g l = length l.lists.items
