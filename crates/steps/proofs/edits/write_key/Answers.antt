use Rattle.std.proofs.Common.{◌≡◌, refl, ap, ◌∙◌, sym, subst, length, length-set, ◌+◌, if◌then◌else◌, ℕ, Option, None, is_none, Bool, false, IsSome, Err}
use Rattle.record_store.specs.Stores.{Slots, changed, live_at, records, with_aside, with_record, new_record}
use Rattle.procedure.specs.Bytes.{Bytes, Cell}
use Rattle.record_store.specs.declared.stores.CreateError.{CreateError}
use Rattle.record_store.specs.declared.stores.CreateError.TheVariants.{TableFull}
use Rattle.steps.specs.Versions.{KeyVersions, live_version, slots_with, versions_in}
use Rattle.steps.specs.inside.RecordEdits.{IsFound, KeepsSlots, edited, written_versions}
use Rattle.steps.proofs.store.SlotEdits.{slots_changed, slots_made}
use Rattle.record_store.proofs.Fields.{count_edit}
use Rattle.record_store.proofs.Making.{records-made}
use Rattle.steps.proofs.store.RecordEdits.{found_in, none_in, live_in, live_created, versions_aside, versions_written, versions_made}
use Rattle.steps.proofs.edits.write_key.Goals as goal

found_as : (slots : Slots) (key : Bytes) {o p : Option ℕ} → o ≡ p → IsFound slots key o → IsFound slots key p
found_as slots key is found = subst (λ o. IsFound slots key o) is found

pub returns-in-Ok-clause-before : goal.returns-in-Ok-clause-before
returns-in-Ok-clause-before g c =
    let there = found_as c.args.store.now c.args.key c.in-Some.is c.requires in
    c.in-Ok.ensures.before ∙ live_in c.args.store.now c.in-Some.slot c.args.key there.once there.finds

pub returns-in-Ok-clause-ok : goal.returns-in-Ok-clause-ok
returns-in-Ok-clause-ok g c q =
    let there = found_as c.args.store.now c.args.key c.in-Some.is c.requires in
    ap (λ (l : Slots). versions_in l q) c.in-Ok.ensures.ok
    ∙ versions_written c.args.phase c.args.start c.args.live c.args.store.now c.in-Some.slot c.args.key q there.once there.finds

pub returns-in-Ok-clause-full : goal.returns-in-Ok-clause-full
returns-in-Ok-clause-full g c =
    let there = found_as c.args.store.now c.args.key c.in-Some.is c.requires in
    let found = found_in c.args.store.now c.in-Some.slot c.args.key there.once there.finds in
    (λ e. absurd (cc), λ e. let none : versions_in c.args.store.now c.args.key ≡ None = e.1 in let some = found.2 in absurd (cc))

pub returns-in-Err-clause-full : goal.returns-in-Err-clause-full
returns-in-Err-clause-full g c =
    let there = found_as c.args.store.now c.args.key c.in-Some.is c.requires in
    let found = found_in c.args.store.now c.in-Some.slot c.args.key there.once there.finds in
    (λ e. absurd (cc), λ e. let none : versions_in c.args.store.now c.args.key ≡ None = e.1 in let some = found.2 in absurd (cc))

pub returns-in-Ok-write_record-clause-before : goal.returns-in-Ok-write_record-clause-before
returns-in-Ok-write_record-clause-before g c =
    let none = found_as c.args.store.now c.args.key c.in-None.is c.requires in
    c.in-Ok-write_record.ensures.before ∙ ap (λ (l : Slots). live_at l c.in-Ok-create.slot) c.in-Ok-create.ensures.ok
    ∙ live_created c.args.store.now c.in-Ok-create.slot c.args.key c.is_late.result
    ∙ sym (ap live_version (none_in c.args.store.now c.args.key none.finds))

pub returns-in-Ok-write_record-clause-ok : goal.returns-in-Ok-write_record-clause-ok
returns-in-Ok-write_record-clause-ok g c q =
    let none = found_as c.args.store.now c.args.key c.in-None.is c.requires in
    ap (λ (l : Slots). versions_in l q) c.reconsider.ensures ∙ versions_aside false c.write_record-in-Ok-create.new.store c.in-Ok-create.slot q
    ∙ ap (λ (l : Slots). versions_in l q) (c.in-Ok-write_record.ensures.ok ∙ ap (λ (l : Slots). changed (edited (written_versions c.args.start c.args.live)) l c.in-Ok-create.slot)
    (c.in-Ok-create.ensures.ok ∙ ap (λ (b : Bool). with_record c.args.store.now c.in-Ok-create.slot (new_record c.args.key b)) c.is_late.ensures))
    ∙ versions_made c.args.phase c.args.start c.args.live c.args.store.now c.in-Ok-create.slot c.args.key q none.once c.in-Ok-create.ensures.vacant none.finds

pub returns-in-Err-write_record-clause-err : goal.returns-in-Err-write_record-clause-err
returns-in-Err-write_record-clause-err g c =
    let none = ap (λ (l : Slots). live_at l c.in-Ok-create.slot) c.in-Ok-create.ensures.ok ∙ live_created c.args.store.now c.in-Ok-create.slot c.args.key c.is_late.result in
    absurd (let some : IsSome {T = Bytes} None = subst (λ (x : Cell). IsSome x) none c.in-Err-write_record.ensures.memory in cc)

pub returns-in-Err-create-clause-full : goal.returns-in-Err-create-clause-full
returns-in-Err-create-clause-full g c =
    let none = none_in c.args.store.now c.args.key (found_as c.args.store.now c.args.key c.in-None.is c.requires).finds in (
      λ e. let is : c.in-Err-create.refused ≡ TableFull = cc in (c.in-Err-create.ensures.full.0 (ap (λ (x : CreateError). Err x) is), none),
      λ e. let is = c.in-Err-create.ensures.full.1 e.0 in let same : c.in-Err-create.refused ≡ TableFull = cc in ap (λ (x : CreateError). Err x) same,
    )

pub returns-in-Ok-clause-keys : goal.returns-in-Ok-clause-keys
returns-in-Ok-clause-keys g c =
    subst (λ (l : Slots). KeepsSlots c.args.store.now l) (sym c.in-Ok.ensures.ok)
    (slots_changed (edited (written_versions c.args.start c.args.live)) (λ r. refl) (λ r is. is) c.args.store.now c.in-Some.slot)

pub returns-in-Ok-write_record-clause-keys : goal.returns-in-Ok-write_record-clause-keys
returns-in-Ok-write_record-clause-keys g c =
    subst (λ (l : Slots). KeepsSlots c.args.store.now l)
    (sym (
    c.reconsider.ensures
    ∙ ap (λ (l : Slots). changed (with_aside false) l c.in-Ok-create.slot)
    (c.in-Ok-write_record.ensures.ok ∙ ap (λ (l : Slots). changed (edited (written_versions c.args.start c.args.live)) l c.in-Ok-create.slot) c.in-Ok-create.ensures.ok)
    ))
    (slots_made (edited (written_versions c.args.start c.args.live)) (λ r. refl) c.args.store.now c.in-Ok-create.slot (new_record c.args.key c.is_late.result) c.in-Ok-create.ensures.vacant)

pub returns-in-Err-write_record-clause-keys : goal.returns-in-Err-write_record-clause-keys
returns-in-Err-write_record-clause-keys g c =
    let none = ap (λ (l : Slots). live_at l c.in-Ok-create.slot) c.in-Ok-create.ensures.ok ∙ live_created c.args.store.now c.in-Ok-create.slot c.args.key c.is_late.result in
    absurd (let some : IsSome {T = Bytes} None = subst (λ (x : Cell). IsSome x) none c.in-Err-write_record.ensures.memory in cc)

pub returns-in-Ok-clause-slots : goal.returns-in-Ok-clause-slots
returns-in-Ok-clause-slots g c =
    let there = found_as c.args.store.now c.args.key c.in-Some.is c.requires in
    let found = found_in c.args.store.now c.in-Some.slot c.args.key there.once there.finds in
    ap length c.in-Ok.ensures.ok ∙ length-set c.args.store.now c.in-Some.slot _
    ∙ sym (ap (λ (o : Option KeyVersions). slots_with (is_none o) c.args.store.now) found.2)

pub returns-in-Ok-write_record-clause-slots : goal.returns-in-Ok-write_record-clause-slots
returns-in-Ok-write_record-clause-slots g c =
    let none = none_in c.args.store.now c.args.key (found_as c.args.store.now c.args.key c.in-None.is c.requires).finds in
    ap length c.reconsider.ensures ∙ length-set c.write_record-in-Ok-create.new.store c.in-Ok-create.slot _
    ∙ ap length c.in-Ok-write_record.ensures.ok ∙ length-set c.create.new.self c.in-Ok-create.slot _
    ∙ c.in-Ok-create.ensures.slots
    ∙ sym (ap (λ (o : Option KeyVersions). slots_with (is_none o) c.args.store.now) none)

pub returns-in-Ok-clause-records : goal.returns-in-Ok-clause-records
returns-in-Ok-clause-records g c =
    let there = found_as c.args.store.now c.args.key c.in-Some.is c.requires in
    let found = found_in c.args.store.now c.in-Some.slot c.args.key there.once there.finds in
    ap records c.in-Ok.ensures.ok ∙ count_edit (edited (written_versions c.args.start c.args.live)) c.args.store.now c.in-Some.slot
    ∙ ap (λ (o : Option KeyVersions). if is_none o then records c.args.store.now + 1 else records c.args.store.now) (sym found.2)

pub returns-in-Ok-write_record-clause-records : goal.returns-in-Ok-write_record-clause-records
returns-in-Ok-write_record-clause-records g c =
    let none = none_in c.args.store.now c.args.key (found_as c.args.store.now c.args.key c.in-None.is c.requires).finds in
    ap records c.reconsider.ensures ∙ count_edit (with_aside false) c.write_record-in-Ok-create.new.store c.in-Ok-create.slot
    ∙ ap records c.in-Ok-write_record.ensures.ok ∙ count_edit (edited (written_versions c.args.start c.args.live)) c.create.new.self c.in-Ok-create.slot
    ∙ ap records c.in-Ok-create.ensures.ok ∙ records-made c.args.store.now c.in-Ok-create.slot (new_record c.args.key c.is_late.result) c.in-Ok-create.ensures.vacant
    ∙ ap (λ (o : Option KeyVersions). if is_none o then records c.args.store.now + 1 else records c.args.store.now) (sym none)
