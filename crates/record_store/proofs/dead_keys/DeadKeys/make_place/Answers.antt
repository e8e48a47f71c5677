use Rattle.std.proofs.Common.{List, Option, ap, refl, ◌∙◌}
use Rattle.procedure.specs.Bytes.{Bytes}
use Rattle.record_store.specs.declared.dead_keys.DeadKeys.TheInside.{Inside}
use Rattle.record_store.specs.DeadKeys.{offer_at}
use Rattle.record_store.proofs.Tournaments.{roomy_offers}
use Rattle.record_store.proofs.dead_keys.DeadKeys.make_place.Goals as goal

pub returns-clause-kept : goal.returns-clause-kept
returns-clause-kept g c =
    let new : Inside g.row.A.Denot = record { nodes = c.reserve.new.self; slots = c.self.inside.slots; places = c.in_ok-wanted.wanted } in
    record {
      same = λ slot. roomy_offers c.self.inside new c.reserve.ensures.items refl slot ∙ ap (λ (offers : List (Option Bytes)). offer_at offers slot) c.self.view_is;
    }
