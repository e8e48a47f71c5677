use Rattle.std.proofs.Common.{◌≡◌, ◌≤◌, ◌+◌, arith, ap, ◌∙◌, sym, subst, List, map, drop, length, is_some, ◌||◌, ◌∷◌}
use Rattle.std.proofs.lemmas.List.{drop_more}
use Rattle.record_store.specs.ChangedSets.{ChangedSets, has, count}
use Rattle.steps.specs.declared.notes.Note.{Note}
use Rattle.steps.specs.inside.RecordEdits.{first_noted, noted_of}
use Rattle.steps.proofs.store.RecordEdits.{collected_more, count-with_key}
use Rattle.steps.proofs.edits.collect.Goals as goal

pub join-requires : goal.join-requires
join-requires g c _ =
    let i = c.loop-note.note-index in
    let more : length (drop i c.args.notes.now) ≡ length (drop (i + 1) c.args.notes.now) + 1 = ap length (drop_more c.args.notes.now i c.note-item.result c.loop-note-test.true) ∙ omega arith in
    omega (arith, more, c.loop-note.invariant.3)

pub loop-note-preserved : goal.loop-note-preserved
loop-note-preserved g c =
    let i = c.loop-note.note-index in
    let n : Note g.row.A.Denot = c.note-item.result in
    let left : List (Note g.row.A.Denot) = drop (i + 1) c.args.notes.now in
    let old : ChangedSets = c.loop-note.changed_keys in
    let more : length (drop i c.args.notes.now) ≡ length left + 1 = ap length (drop_more c.args.notes.now i n c.loop-note-test.true) ∙ omega arith in
    let joined : count c.join.new.self.collecting ≤ count old.collecting + 1 = subst (λ (s : ChangedSets). count s.collecting ≤ count old.collecting + 1) (sym c.join.ensures)
    (count-with_key old.collecting n.key) in (
      λ q.
          ap (λ (s : ChangedSets). is_some (first_noted (map noted_of left) q) || has s.collecting q) c.join.ensures
          ∙ collected_more old.collecting (noted_of n) (map noted_of left) q
          ∙ ap (λ (l : List (Note g.row.A.Denot)). is_some (first_noted (map noted_of l) q) || has old.collecting q)
          (ap (λ (x : Note g.row.A.Denot). x ∷ left) c.note-item.is ∙ sym (drop_more c.args.notes.now i n c.loop-note-test.true))
          ∙ c.loop-note.invariant.0 q,
      ap (λ (s : ChangedSets). s.frozen) c.join.ensures ∙ c.loop-note.invariant.1,
      ap (λ (s : ChangedSets). s.places) c.join.ensures ∙ c.loop-note.invariant.2,
      omega (arith, more, joined, c.loop-note.invariant.3, ap (λ (s : ChangedSets). s.places) c.join.ensures),
    )
