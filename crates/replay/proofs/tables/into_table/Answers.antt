use Rattle.std.proofs.Common.{◌≡◌, ◌≤◌, List, sym, ap, subst, ◌∙◌}
use Rattle.std.specs.FinMap.{empty, len}
use Rattle.procedure.specs.Table.{Table, with_pairs}
use Rattle.procedure.proofs.Results.{if_ok}
use Rattle.image.specs.Images.{Entry}
use Rattle.image.specs.Merges.{table_of}
use Rattle.image.specs.declared.limits.TheConstants.{ENTRIES}
use Rattle.replay.specs.Parts.{pairs_of}
use Rattle.replay.proofs.ImageTables.{table_of_pairs}
use Rattle.replay.proofs.Sizes.{few_of_image}
use Rattle.replay.proofs.tables.into_table.Goals as goal

pub returns-clause-table : goal.returns-clause-table
returns-clause-table g c =
    if_ok (λ (t : Table). t ≡ with_pairs empty (pairs_of c.into_entries.result.items)) (λ (t : Table). t ≡ table_of c.args.image)
    (λ t e. e ∙ ap (λ (es : List Entry). with_pairs empty (pairs_of es)) c.into_entries.ensures ∙ table_of_pairs c.args.image c.entries-entries.ensures.lawful)
    c.table_with.result c.table_with.ensures

pub returns-clause-few : goal.returns-clause-few
returns-clause-few g c =
    if_ok (λ (t : Table). t ≡ with_pairs empty (pairs_of c.into_entries.result.items)) (λ (t : Table). len t ≤ ENTRIES)
    (λ t e.
    subst (λ (u : Table). len u ≤ ENTRIES)
    (sym (e ∙ ap (λ (es : List Entry). with_pairs empty (pairs_of es)) c.into_entries.ensures ∙ table_of_pairs c.args.image c.entries-entries.ensures.lawful))
    (few_of_image c.args.image c.entries-entries.ensures.lawful))
    c.table_with.result c.table_with.ensures
