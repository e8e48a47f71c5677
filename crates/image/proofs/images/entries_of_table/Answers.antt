use Rattle.std.proofs.Common.{ap, ◌∙◌}
use Rattle.image.proofs.Tables.{shown}
use Rattle.image.proofs.images.entries_of_table.Goals as goal

pub returns : goal.returns
returns g c = c.in_ok-present_entries.ensures ∙ ap shown (c.into_vec-pairs.ensures ∙ c.in_ok-into_pairs.ensures)
