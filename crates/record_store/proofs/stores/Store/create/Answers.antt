use Rattle.std.proofs.Common.{◌≡◌, ℕ, List, Option, Some, refl, ap, length, max, sym, ◌∙◌, ◌+◌, arith, cond, nat_eq, slice_index_or, subst}
use Rattle.std.proofs.lemmas.Result.{err_from_is_err_and}
use Rattle.std.specs.Cmp.Lexicographic.{pointwise}
use Rattle.record_store.specs.Stores.{Slots, key_at, records, new_record, with_record}
use Rattle.record_store.specs.Entries.{Entry, entry_at, taken}
use Rattle.record_store.specs.declared.stores.Store.TheInside.{Inside}
use Rattle.record_store.proofs.Fields.{key_is, not_found, records_are}
use Rattle.record_store.proofs.Making.{IsMade, IsNext, found_kept, made_length, made_sound, made_view, next_is, roomy_sound}
use Rattle.record_store.proofs.Seen.{mark_most}
use Rattle.record_store.proofs.stores.Store.create.Given.{Over}
use Rattle.record_store.proofs.stores.Store.create.Goals as goal

pub invariant_of-self : goal.invariant_of-self
invariant_of-self g c =
    roomy_sound c.self.inside
    (record c.self.inside { slots = c.make_room.new.slots; vacant = c.make_room.new.vacant; index = c.make_room.new.index; dead = c.make_room.new.dead })
    c.self.invariant c.make_room.ensures.slots c.make_room.ensures.vacant c.make_room.ensures.index (λ i. c.make_room.ensures.dead.same i) c.make_room.ensures.places refl refl

pub returns-in_err-make_room-clause-full : goal.returns-in_err-make_room-clause-full
returns-in_err-make_room-clause-full g c =
    let is : records c.args.self.now ≡ c.self.inside.records = sym (ap records c.self.view_is) ∙ records_are c.self.inside c.self.invariant in (
      λ e. let (refusal, is_err, memory) = err_from_is_err_and c.from_residual.result c.from_residual.ensures.1 in absurd (cc),
      λ h. absurd (omega (arith, is, c.if-self-ge-STORE_RECORDS.false)),
    )

-- the store with the new record
abbrev after : (g : Over) (c : goal.After-self-1 g) → Inside g.row.A.Denot
after g c = record { slots = c.put.new.slots; records = c.self.inside.records + 1; vacant = c.put.new.vacant; index = c.note_slot.new.index; dead = c.make_room.new.dead; number = c.self.inside.number }

next : (g : Over) (c : goal.After-self-1 g) → IsNext c.self.inside.slots.items c.self.inside.vacant.items c.self.inside.records c.next_slot-slot.result
next g c =
    subst (IsNext c.self.inside.slots.items c.self.inside.vacant.items c.self.inside.records)
    (sym (c.next_slot-slot.ensures ∙ ap (λ (vs : List ℕ). slice_index_or vs c.self.inside.records (length vs)) c.deref.ensures.value)) (next_is c.self.inside c.self.invariant)

made_so : (g : Over) (c : goal.After-self-1 g) → IsMade c.self.inside (after g c) c.next_slot-slot.result c.args.key c.mark_of-mark.result
made_so g c =
    let slots = c.make_room.ensures.slots in
    let vacant = c.make_room.ensures.vacant in
    record {
      next = next g c;
      put = c.put.ensures.put.here;
      others = λ i differs. c.put.ensures.put.others i differs ∙ ap (λ (x : List (Option Entry)). entry_at x i) slots;
      len = omega (arith, c.put.ensures.len, ap length slots);
      count = omega (arith, c.put.ensures.taken, ap taken slots);
      known = λ below. c.put.ensures.known (omega (arith, below, ap length slots)) ∙ vacant;
      one_more = λ same. c.put.ensures.one_more (same ∙ sym (ap length slots)) ∙ rw vacant refl;
      records = refl;
      few = omega (arith, c.if-self-ge-STORE_RECORDS.false);
      found = λ q. c.note_slot.ensures.0 q ∙ ap (λ (found : Option ℕ). cond (pointwise nat_eq c.args.key q) (Some c.next_slot-slot.result) found)
          (found_kept c.self.inside.index c.make_room.new.index c.make_room.ensures.index q);
      absent = λ i h. not_found c.args.self.now c.args.key i c.requires.absent (ap (λ (slots : Slots). key_at slots i) (sym c.self.view_is) ∙ key_is c.self.inside i ∙ h);
      offers = λ i. c.make_room.ensures.dead.same i;
      place = c.in_ok-make_room.ensures.place;
      places = c.make_room.ensures.places;
      number = refl;
      bound = mark_most c.self.inside.number c.args.available c.mark_of-mark.result c.mark_of-mark.ensures;
    }

pub invariant_of-self-2 : goal.invariant_of-self-2
invariant_of-self-2 g c = made_sound c.self.inside (after g c) c.next_slot-slot.result c.args.key c.mark_of-mark.result c.self.invariant (made_so g c)

pub returns-clause-ok : goal.returns-clause-ok
returns-clause-ok g c =
    made_view c.self.inside (after g c) c.next_slot-slot.result c.args.key c.mark_of-mark.result c.self.invariant (made_so g c) c.args.available c.mark_of-mark.ensures
    ∙ ap (λ (slots : Slots). with_record slots c.next_slot-slot.result (new_record c.args.key c.args.available)) c.self.view_is

pub returns-clause-slots : goal.returns-clause-slots
returns-clause-slots g c =
    let is : records c.args.self.now ≡ c.self.inside.records = sym (ap records c.self.view_is) ∙ records_are c.self.inside c.self.invariant in
    made_length c.self.inside (after g c) c.next_slot-slot.result c.args.key c.mark_of-mark.result c.self.invariant (made_so g c)
    ∙ ap (λ (slots : Slots). max (length slots) (c.self.inside.records + 1)) c.self.view_is ∙ ap (λ (n : ℕ). max (length c.args.self.now) (n + 1)) (sym is)

pub returns-clause-full : goal.returns-clause-full
returns-clause-full g c =
    let is : records c.args.self.now ≡ c.self.inside.records = sym (ap records c.self.view_is) ∙ records_are c.self.inside c.self.invariant in
    (λ e. absurd (cc), λ h. absurd (omega (arith, is, c.if-self-ge-STORE_RECORDS.false)))
