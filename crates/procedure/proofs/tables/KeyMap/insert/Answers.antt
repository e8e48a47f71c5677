use Rattle.std.proofs.Common.{IsSome, subst, sym, ◌∙◌, ap}
use Rattle.std.proofs.lemmas.Bool.{false≢true}
use Rattle.std.specs.FinMap.{insert}
use Rattle.procedure.specs.Table.{KeyMap}
use Rattle.procedure.proofs.Maps.{get-view, map_of-insert}
use Rattle.procedure.proofs.tables.KeyMap.insert.Goals as goal

pub returns-in_err-before-clause-memory : goal.returns-in_err-before-clause-memory
returns-in_err-before-clause-memory g c =
    let absent = get-view c.self.inside.entries.entries c.args.self.now c.self.view_is c.args.key ∙ c.in_err-before.ensures.absent in
    λ present. absurd (false≢true (subst (λ o. IsSome o) absent present))

pub returns-clause-before : goal.returns-clause-before
returns-clause-before g c = c.in_ok-before.ensures.old ∙ sym (get-view c.self.inside.entries.entries c.args.self.now c.self.view_is c.args.key)

pub returns-clause-ok : goal.returns-clause-ok
returns-clause-ok g c =
    map_of-insert c.self.inside.entries.entries c.insert.new.self.entries c.args.key c.args.value c.in_ok-before.ensures.updates.0
    ∙ ap (λ (m : KeyMap g.row.V.Denot). insert m c.args.key c.args.value) c.self.view_is
