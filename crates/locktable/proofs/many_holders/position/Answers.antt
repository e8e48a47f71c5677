use Rattle.std.proofs.Common.{Some, sym, ap, ◌∙◌}
use Rattle.procedure.specs.Bytes.{Bytes}
use Rattle.locktable.proofs.Lookups.{stored_key}
use Rattle.locktable.proofs.many_holders.position.Goals as goal

pub returns-in-Some-get_full-clause-entry : goal.returns-in-Some-get_full-clause-entry
returns-in-Some-get_full-clause-entry g c =
    let found = c.in-Some-get_full in
    found.ensures.entry ∙ ap (λ (x : Bytes). Some (x, found.holders.now)) (sym (stored_key c.args.entries.now.entries c.args.key.now found._key.now (sym found.ensures.key)))
