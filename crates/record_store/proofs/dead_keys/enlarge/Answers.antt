use Rattle.std.proofs.Common.{◌≡◌, ◌∙◌, sym, subst, length}
use Rattle.std.proofs.lemmas.List.{with_items_is}
use Rattle.record_store.specs.DeadKeys.{Nodes, IsEnlarged}
use Rattle.record_store.proofs.Tournaments.{enlarged, first_places, nothing_wins}
use Rattle.record_store.proofs.dead_keys.enlarge.Goals as goal

pub returns-then-slots-gt0-clause-enlarged : goal.returns-then-slots-gt0-clause-enlarged
returns-then-slots-gt0-clause-enlarged g c =
    let long = c.lengthen.new.nodes in
    let new : Nodes = c.refill.new.nodes in
    let kept = c.refill.ensures.kept in
    let len : length new ≡ long.len = kept.same.len ∙ kept.move.len ∙ c.deref_mut.ensures.len in
    let done : IsEnlarged c.args.nodes.now.items new c.args.slots c.args.wanted =
    enlarged c.args.nodes.now.items c.deref_mut.result.now kept.moved new c.args.slots c.args.wanted c.requires.nodes c.requires.more (c.deref_mut.ensures.value ∙ c.lengthen.ensures.items)
    kept.move kept.same in
    subst (λ (nodes : Nodes). IsEnlarged c.args.nodes.now.items nodes c.args.slots c.args.wanted) (sym (with_items_is long new len)) done

pub returns-else-slots-gt0-clause-enlarged : goal.returns-else-slots-gt0-clause-enlarged
returns-else-slots-gt0-clause-enlarged g c =
    first_places c.args.nodes.now.items c.lengthen.new.nodes.items c.args.slots c.args.wanted c.if-slots-gt0.false c.requires.nodes c.lengthen.ensures.items

pub returns-else-slots-gt0-clause-won : goal.returns-else-slots-gt0-clause-won
returns-else-slots-gt0-clause-won g c =
    nothing_wins c.args.nodes.now.items c.lengthen.new.nodes.items c.args.slots c.args.wanted c.if-slots-gt0.false c.requires.nodes c.lengthen.ensures.items
