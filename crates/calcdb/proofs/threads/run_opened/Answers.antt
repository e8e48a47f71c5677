use Rattle.std.proofs.Common.{[], inr, refl, subst, ◌∙◌, ap, length}
use Rattle.std.specs.Prelude.{is_none}
use mathlib.Core.Logic.{∥∥₁_map}
use Rattle.steps.specs.Openings.{IsOpened}
use Rattle.calcdb.specs.Journals.{taken_of}
use Rattle.calcdb.specs.Plans.{ThreadCommands, call_commands, keys_of}
use Rattle.calcdb.specs.Scripts.{ThreadScript}
use Rattle.calcdb.proofs.ThreadEnds.{same_writes}
use Rattle.calcdb.proofs.threads.run_opened.Goals as goal

pub returns-in-Ok-run_begun-clause-written : goal.returns-in-Ok-run_begun-clause-written
returns-in-Ok-run_begun-clause-written g c =
    let commands = c.into_vec.ensures ∙ ap (λ (s : ThreadScript). s.commands) c.script.view_is in
    let ran = c.in-Ok-run_begun.ran in
    same_writes (is_none ran.failure) c.in-Ok.plan.count (length (call_commands c.args.script.commands)) c.in-Ok.plan.keys.items (keys_of c.args.script.commands) ran.ran.core ran.ran.images.items
    (g.W.Write.contents c.args.writer.now) (g.W.Write.contents c.run_begun.new.writer) ran.written (c.in-Ok.ensures.count ∙ ap (λ (l : ThreadCommands). length (call_commands l)) commands)
    (c.in-Ok.ensures.keys ∙ ap keys_of commands) c.in-Ok-run_begun.ensures.written

pub returns-in-Err-run_begun-clause-left : goal.returns-in-Err-run_begun-clause-left
returns-in-Err-run_begun-clause-left g c =
    let core = c.in-Ok-open.core in
    let opened = subst (λ (s : ThreadScript). IsOpened s.catalog c.args.opening core) c.script.view_is c.in-Ok-open.ensures.opened in
    ∥∥₁_map c.in-Err-run_begun.ensures.same
    (λ same. inr (c.args.script, refl, core, opened, subst (λ j. g.N.Journal.Has c.args.journal j (taken_of core [])) same (c.in-Ok-open-2.ensures.ok opened.log)))

pub returns-in-Err-clause-left : goal.returns-in-Err-clause-left
returns-in-Err-clause-left g c =
    let core = c.in-Ok-open.core in
    let opened = subst (λ (s : ThreadScript). IsOpened s.catalog c.args.opening core) c.script.view_is c.in-Ok-open.ensures.opened in
    ∣ inr (c.args.script, refl, core, opened, c.in-Err.ensures.err) ∣₁
