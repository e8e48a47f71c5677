use Rattle.std.proofs.Common.{◌++◌, ◌∷◌, [], List, map, ap, ◌∙◌, cond, refl}
use Rattle.procedure.specs.Bytes.{same}
use Rattle.steps.specs.Versions.{live_version, versions_in}
use Rattle.steps.specs.inside.RecordEdits.{first_noted, noted_of}
use Rattle.steps.specs.machine.Machine.{note}
use Rattle.steps.specs.declared.notes.Note.{Note}
use Rattle.steps.proofs.sessions.KeptInstructions.{noted_push}
use Rattle.steps.proofs.instructions.write_live.Goals as goal

pub returns-in-Ok-write_key-clause-ok : goal.returns-in-Ok-write_key-clause-ok
returns-in-Ok-write_key-clause-ok g c =
    let old = c.args.call.now in
    let n : Note g.row.A.Denot = record { key = c.args.key; before = c.in-Ok-write_key.before } in
    record {
      begun = record { number = refl; procedure = refl; start = refl };
      executed = refl;
      machine = c.wrote.ensures (live_version (versions_in c.args.store.now c.args.key)) c.requires.changes;
      notes = λ q.
          ap (λ (l : List (Note g.row.A.Denot)). first_noted (map noted_of l) q) (c.push_reserved.ensures.items ∙ ap (λ (l : List (Note g.row.A.Denot)). l ++ n ∷ []) c.reserve.ensures.items)
          ∙ noted_push old.notes.items n q
          ∙ ap (λ x. cond (same q c.args.key) (note (first_noted (map noted_of old.notes.items) c.args.key) x) (first_noted (map noted_of old.notes.items) q)) c.in-Ok-write_key.ensures.before;
      versions = c.in-Ok-write_key.ensures.ok;
      keys = c.write_key.ensures.keys;
      slots = c.in-Ok-write_key.ensures.slots;
    }
