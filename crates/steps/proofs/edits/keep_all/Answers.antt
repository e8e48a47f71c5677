use Rattle.std.proofs.Common.{ap, ◌∙◌, refl, sym, List, map, drop, ◌∷◌, ◌+◌}
use Rattle.std.proofs.lemmas.List.{drop_more}
use Rattle.steps.specs.declared.notes.Note.{Note}
use Rattle.steps.specs.inside.RecordEdits.{all_kept, noted_of}
use Rattle.steps.specs.Versions.{versions_in}
use Rattle.steps.proofs.store.SlotEdits.{slots_same, slots_then}
use Rattle.steps.proofs.store.RecordEdits.{kept_as_is, kept_more}
use Rattle.steps.proofs.edits.keep_all.Goals as goal

pub loop-note-preserved : goal.loop-note-preserved
loop-note-preserved g c =
    let i = c.loop-note.note-index in
    let left : List (Note g.row.A.Denot) = drop (i + 1) c.args.notes.now in (
      λ q. kept_more c.args.start c.args.phase (noted_of c.note-item.result) (map noted_of left) (versions_in c.loop-note.store) (versions_in c.keep_key.new.store) q c.keep_key.ensures.versions
          ∙ ap (λ (l : List (Note g.row.A.Denot)). all_kept c.args.start c.args.phase (map noted_of l) (versions_in c.loop-note.store) q)
          (ap (λ (n : Note g.row.A.Denot). n ∷ left) c.note-item.is ∙ sym (drop_more c.args.notes.now i c.note-item.result c.loop-note-test.true))
          ∙ c.loop-note.invariant.0 q,
      c.keep_key.ensures.slots ∙ c.loop-note.invariant.1,
      slots_then c.args.store.now c.loop-note.store c.keep_key.new.store c.loop-note.invariant.2 c.keep_key.ensures.keys,
      λ slot. c.keep_key.ensures.same slot ∙ c.loop-note.invariant.3 slot,
    )

pub returns-in_default : goal.returns-in_default
returns-in_default g c = record {
  versions = λ q. kept_as_is c.args.start c.args.phase (map noted_of c.args.notes.now) (versions_in c.args.store.now) q c.in_default.not-Prepare;
  slots = refl;
  keys = slots_same c.args.store.now c.args.store.now refl;
  same = λ slot. refl;
}
