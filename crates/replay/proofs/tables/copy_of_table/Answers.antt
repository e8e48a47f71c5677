use Rattle.std.proofs.Common.{◌≡◌, List, ap, ◌∙◌}
use Rattle.std.specs.FinMap.{empty}
use Rattle.procedure.specs.Table.{Table, with_pairs}
use Rattle.procedure.proofs.Results.{if_ok}
use Rattle.image.specs.Images.{Entry}
use Rattle.image.specs.Merges.{table_of}
use Rattle.replay.specs.Parts.{pairs_of}
use Rattle.replay.proofs.ImageTables.{table_of_pairs}
use Rattle.replay.proofs.tables.copy_of_table.Goals as goal

pub returns : goal.returns
returns g c =
    if_ok (λ (t : Table). t ≡ with_pairs empty (pairs_of c.in_ok-copy.copy.items)) (λ (t : Table). t ≡ table_of c.args.image.now)
    (λ t e. e ∙ ap (λ (es : List Entry). with_pairs empty (pairs_of es)) (c.in_ok-copy.ensures.items_if_clones_equal (λ x y e. e) ∙ c.entries.ensures.value) ∙ table_of_pairs c.args.image.now c.entries.ensures.lawful)
    c.table_with.result c.table_with.ensures
