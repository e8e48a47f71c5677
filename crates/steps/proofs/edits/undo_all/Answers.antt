use Rattle.std.proofs.Common.{ap, ◌∙◌, sym, List, map, [], ◌∷◌}
use Rattle.std.proofs.lemmas.List.{map-append}
use Rattle.steps.specs.declared.notes.Note.{Note}
use Rattle.steps.specs.inside.RecordEdits.{all_undone, noted_of}
use Rattle.steps.specs.Versions.{versions_in, Noted}
use Rattle.steps.proofs.store.SlotEdits.{slots_then}
use Rattle.steps.proofs.store.RecordEdits.{undone_last}
use Rattle.steps.proofs.edits.undo_all.Goals as goal

pub loop-note-preserved : goal.loop-note-preserved
loop-note-preserved g c =
    let n = c.in-Some.note in (
      λ q. undone_last (noted_of n) (map noted_of c.pop.new.self.items) (versions_in c.loop-note.store) (versions_in c.undo_note.new.store) q c.undo_note.ensures.versions
          ∙ ap (λ (l : List Noted). all_undone l (versions_in c.loop-note.store) q)
          (sym (map-append noted_of c.pop.new.self.items (n ∷ [])) ∙ ap (λ (l : List (Note g.row.A.Denot)). map noted_of l) (sym c.in-Some.ensures.items))
          ∙ c.loop-note.invariant.0 q,
      c.undo_note.ensures.slots ∙ c.loop-note.invariant.1,
      slots_then c.args.store.now c.loop-note.store c.undo_note.new.store c.loop-note.invariant.2 c.undo_note.ensures.keys,
      λ slot. c.undo_note.ensures.same slot ∙ c.loop-note.invariant.3 slot,
    )
