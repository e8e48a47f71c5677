use Rattle.std.proofs.Common.{map, sym, ap, ◌∙◌, append-nil}
use Rattle.procedure.specs.Table.{Table, no_table, with_cells}
use Rattle.image.specs.Layers.{with_layers}
use Rattle.image.proofs.Layering.{layers_all, rise_before, rises_last, still_says}
use Rattle.image.proofs.layers.Layers.with.Goals as goal

pub covered-requires-clause-older : goal.covered-requires-clause-older
covered-requires-clause-older g c = rises_last (λ es. es.items) c.loop-older.lists.items c.take_like.new.lists.items c.in-Some.older c.in-Some.ensures c.loop-older.invariant.lists

pub loop-older-preserved : goal.loop-older-preserved
loop-older-preserved g c =
    let all = c.loop-older.lists.items in
    let front = c.take_like.new.lists.items in
    record {
      lists = rise_before (λ es. es.items) all front c.in-Some.older c.in-Some.ensures c.loop-older.invariant.lists;
      newest = c.in_ok-newest.ensures.rises;
      says = still_says (λ es. es.items) all front c.in-Some.older c.in-Some.ensures no_table _ c.loop-older.newest.items c.in_ok-newest.newest.items c.in_ok-newest.ensures c.loop-older.invariant.says;
    }

pub returns : goal.returns
returns g c =
    layers_all (λ es. es.items) c.push.new.self.items c.take_like.new.lists.items c.loop-older.newest c.in_ok-push.ensures.items no_table
    ∙ ap (λ ls. with_cells (with_layers no_table (map (λ es. es.items) ls)) c.loop-older.newest.items) (sym (c.in_default.ensures ∙ append-nil c.take_like.new.lists.items))
    ∙ c.loop-older.invariant.says ∙ ap (λ (t : Table). with_cells t c.args.entries.items) c.self.view_is
