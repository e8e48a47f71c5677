use Rattle.std.proofs.Common.{rules, map, sym, ap, ◌∙◌}
use Rattle.std.specs.Prelude.{is_some}
use Rattle.std.proofs.lemmas.List.{nil_from_length}
use Rattle.std.proofs.lemmas.Fn.{filter_same}
use Rattle.procedure.specs.Table.{no_table, with_cells}
use Rattle.image.specs.Images.{entries_of}
use Rattle.image.specs.Layers.{with_layers}
use Rattle.image.proofs.Layering.{present_of, rise_before, rises_last, still_says}
use Rattle.image.proofs.layers.Layers.into_entries.Goals as goal

pub covered-requires-clause-older : goal.covered-requires-clause-older
covered-requires-clause-older g c = rises_last (λ es. es.items) c.loop-older.lists.items c.pop.new.self.items c.in-Some.older c.in-Some.ensures.items c.loop-older.invariant.lists

pub loop-older-preserved : goal.loop-older-preserved
loop-older-preserved g c =
    let all = c.loop-older.lists.items in
    let front = c.pop.new.self.items in
    record {
      lists = rise_before (λ es. es.items) all front c.in-Some.older c.in-Some.ensures.items c.loop-older.invariant.lists;
      all = c.in_ok-all.ensures.rises;
      says = still_says (λ es. es.items) all front c.in-Some.older c.in-Some.ensures.items no_table _ c.loop-older.all.items c.in_ok-all.all.items c.in_ok-all.ensures c.loop-older.invariant.says;
    }

pub returns : goal.returns
returns g c =
    let l = c.loop-older in
    c.shrink_to_fit.ensures.items
    ∙ filter_same _ (λ e. is_some e.1) _ (λ e b f called. (search rules, search rules)) l.all.items c.retain.new.self.items c.retain.ensures.filtered
    ∙ present_of l.all.items l.invariant.all
    ∙ ap entries_of
    (ap (λ ls. with_cells (with_layers no_table (map (λ es. es.items) ls)) l.all.items) (sym (nil_from_length l.lists.items (sym l.lists.ok.0 ∙ c.in_default.ensures.cases.0))) ∙ l.invariant.says ∙ c.self.view_is)
