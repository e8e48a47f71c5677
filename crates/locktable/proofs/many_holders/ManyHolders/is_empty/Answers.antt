use Rattle.std.proofs.Common.{sym, ◌∙◌}
use Rattle.locktable.proofs.Few.{empty_if_none, none_if_empty}
use Rattle.locktable.proofs.many_holders.ManyHolders.is_empty.Goals as goal

pub returns : goal.returns
returns g c =
    let es = c.self.inside.entries.entries in (
      λ yes. sym c.self.view_is ∙ empty_if_none es (c.is_empty.ensures.0 yes),
      λ none. c.is_empty.ensures.1 (none_if_empty es (c.self.view_is ∙ none)),
    )
