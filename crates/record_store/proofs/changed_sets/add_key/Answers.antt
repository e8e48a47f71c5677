use Rattle.std.proofs.Common.{◌≡◌, ap, sym, ◌∙◌, nat_eq}
use Rattle.std.specs.Cmp.Lexicographic.{pointwise}
use Rattle.indexmap.specs.IndexSet.{insert_key}
use Rattle.record_store.specs.ChangedFields.{set_of}
use Rattle.record_store.proofs.ChangedKeys.{has-set_of, not_err, set_of-insert_key, with_key-present}
use Rattle.record_store.proofs.changed_sets.add_key.Goals as goal
use Rattle.record_store.proofs.changed_sets.add_key.Goals.{else-not-contains-via-then-not-contains+else-is_err, else-not-contains-via-else-not-contains}

pub returns-clause-added : goal.returns-clause-added
returns-clause-added g c =
    let before = c.args.keys.now.keys in
    elim c.else-not-contains.branch [
      | else-not-contains-via-then-not-contains+else-is_err w ↦
          let put : w.insert.new.self.keys ≡ insert_key (pointwise nat_eq) before c.args.key = not_err w.insert.result (sym w.is_err.ensures.value ∙ w.if-is_err.false) w.insert.ensures.keys in
          ap (λ s. set_of s.keys) w.keys-is ∙ ap set_of put ∙ set_of-insert_key before c.args.key (sym w.if-not-contains.ensures)
      | else-not-contains-via-else-not-contains w ↦
          ap (λ s. set_of s.keys) w.keys-is ∙ sym (with_key-present (set_of before) c.args.key (has-set_of before c.args.key ∙ sym w.if-not-contains.ensures))
    ]
