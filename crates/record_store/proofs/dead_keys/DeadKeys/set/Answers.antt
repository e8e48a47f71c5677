use Rattle.std.proofs.Common.{◌≡◌, List, Option, ap, sym, ◌∙◌, refl, length, arith, slice_set, subst}
use Rattle.std.proofs.lemmas.List.{with_items_is}
use Rattle.std.specs.Vec.{with_items}
use Rattle.procedure.specs.Bytes.{Bytes}
use Rattle.record_store.specs.DeadKeys.{Nodes, IsPut, IsWonFrom, candidate_of}
use Rattle.record_store.specs.declared.dead_keys.DeadKeys.TheInside.{Inside}
use Rattle.record_store.proofs.Tournaments.{HasNode, all_laid_out, half_laid, length-offers, put_offers, put_played}
use Rattle.record_store.proofs.dead_keys.DeadKeys.set.Goals as goal
use Rattle.record_store.proofs.dead_keys.DeadKeys.set.Goals.{then-self-slot, else-self-slot}

pub enlarge-requires-clause-more : goal.enlarge-requires-clause-more
enlarge-requires-clause-more g c =
    half_laid c.self.inside c.self.invariant (omega (arith, c.requires, ap length c.self.view_is, length-offers c.self.inside c.self.invariant, c.if-self-slot.true))

-- the nodes that the place is put into
laid : (g : _) (c : goal.After-self-2-1 g) → HasNode c.self.inside c.if-self-slot.self-inside c.args.slot
laid g c = elim c.if-self-slot.branch [
  | then-self-slot w ↦
      let d = c.self.inside in
      let new : Inside g.row.A.Denot = record { nodes = w.enlarge.new.nodes; slots = d.places; places = d.places } in
      subst (λ (i : Inside g.row.A.Denot). HasNode d i c.args.slot) (sym w.self-inside-is)
      (all_laid_out d new c.args.slot c.self.invariant w.enlarge.ensures.enlarged w.enlarge.ensures.won refl refl w.enlarge.ensures.memory
      (omega (arith, c.requires, ap length c.self.view_is, length-offers d c.self.invariant)))
  | else-self-slot w ↦
      let d = c.self.inside in
      subst (λ (i : Inside g.row.A.Denot). HasNode d i c.args.slot) (sym w.self-inside-is)
      record { played = c.self.invariant; offers = refl; within = omega (arith, w.if-self-slot.false) }
]

put_there : (g : _) (c : goal.After-self-2-1 g) →
    IsPut c.if-self-slot.self-inside.nodes.items (with_items c.if-self-slot.self-inside.nodes c.put_place.new.nodes).items c.if-self-slot.self-inside.slots c.args.slot
    (candidate_of c.args.key c.args.slot) × ((with_items c.if-self-slot.self-inside.nodes c.put_place.new.nodes).items ≡ c.put_place.new.nodes)
put_there g c =
    let d = c.if-self-slot.self-inside in
    let nodes : Nodes = c.put_place.new.nodes in
    let put : IsPut d.nodes.items nodes d.slots c.args.slot (candidate_of c.args.key c.args.slot) =
    subst (λ (old : Nodes). IsPut old nodes d.slots c.args.slot (candidate_of c.args.key c.args.slot)) c.deref_mut.ensures.value c.put_place.ensures.put in
    let is : (with_items d.nodes nodes).items ≡ nodes = with_items_is d.nodes nodes (put.len ∙ sym d.nodes.ok.0) in
    (subst (λ (new : Nodes). IsPut d.nodes.items new d.slots c.args.slot (candidate_of c.args.key c.args.slot)) (sym is) put, is)

pub invariant_of-self : goal.invariant_of-self
invariant_of-self g c =
    let d = c.if-self-slot.self-inside in
    let there = put_there g c in
    let before = laid g c in
    put_played d _ c.args.slot c.args.key before.played before.within refl refl refl there.0
    (subst (λ (new : Nodes). IsWonFrom new d.slots 1) (sym there.1) c.put_place.ensures.won)

pub returns : goal.returns
returns g c =
    let d = c.if-self-slot.self-inside in
    let before = laid g c in
    put_offers d _ c.args.slot c.args.key before.played (invariant_of-self g c) before.within refl refl (put_there g c).0
    ∙ ap (λ (offers : List (Option Bytes)). slice_set offers c.args.slot c.args.key) (before.offers ∙ c.self.view_is)
