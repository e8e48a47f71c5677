use Rattle.std.proofs.Common.{◌≡◌, ◌⊎◌, inr, refl, subst}
use Rattle.std.proofs.lemmas.Result.{IfErr-weaker, IfOk-weaker}
use Rattle.std.specs.Io.KnownBytes.{Appends}
use Rattle.procedure.specs.Bytes.{Bytes}
use Rattle.steps.specs.CoreViews.{CoreView}
use Rattle.steps.specs.Openings.{IsOpened}
use Rattle.calcdb.specs.Journals.{IsUnopened, StopsKept, taken_of}
use Rattle.calcdb.specs.Runs.{Carried, CarriesAll, Images}
use Rattle.calcdb.specs.Scripts.{Schedule}
use Rattle.calcdb.proofs.Endings.{carried_script}
use Rattle.calcdb.proofs.Keeping.{stops_script}
use Rattle.calcdb.proofs.engine.run_opened.Goals as goal

pub returns-in-Ok-clause-ok : goal.returns-in-Ok-clause-ok
returns-in-Ok-clause-ok g c =
    let s : Schedule = record { catalog = c.script.inside.catalog; commands = c.script.inside.commands } in
    let core = c.in-Ok.core in
    let start = c.args.journal.now in
    let journal = c.run_begun.new.journal in
    IfOk-weaker c.run_begun.result _ _
    (λ r h.
    let images : Images = h.1 in
    subst (λ (x : Schedule). (first : CoreView) × (text : Bytes) × (images : Images) × IsOpened x.catalog c.args.opening first × g.P.Sink.Has r.images images × Carried {A = g.row.A.Denot} (CarriesAll x.catalog x.commands) first r.core text images ×
    Appends (g.W.Write.contents c.args.writer.now) (g.W.Write.contents c.run_begun.new.writer) text × g.J.Journal.Has start journal (taken_of r.core images)) c.script.view_is
    (core, h.0, images, c.in-Ok.ensures.opened, h.2, carried_script s c.args.opening core r.core c.script.inside.commands h.0 images c.in-Ok.ensures.opened refl h.3, h.4, h.5))
    c.run_begun.ensures.ok

pub returns-in-Ok-clause-err : goal.returns-in-Ok-clause-err
returns-in-Ok-clause-err g c =
    let s : Schedule = record { catalog = c.script.inside.catalog; commands = c.script.inside.commands } in
    let core = c.in-Ok.core in
    let start = c.args.journal.now in
    let journal = c.run_begun.new.journal in
    let old = g.W.Write.contents c.args.writer.now in
    let new = g.W.Write.contents c.run_begun.new.writer in
    IfErr-weaker c.run_begun.result _ _
    (λ stopped h.
    subst (λ (x : Schedule). IsUnopened stopped (journal ≡ start) old new ⊎ StopsKept g.row.A.Denot x c.args.opening old new (g.J.Journal.Has start journal) (g.J.Journal.HasFront start journal) stopped) c.script.view_is
    (inr (
      core,
      c.in-Ok.ensures.opened,
      stops_script g.row.A.Denot g.row.J-Failure.Denot old new (g.J.Journal.Has start journal) (g.J.Journal.HasFront start journal) s c.args.opening core c.script.inside.commands stopped c.in-Ok.ensures.opened
          refl h,
    )))
    c.run_begun.ensures.err
