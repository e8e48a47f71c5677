use Rattle.std.proofs.Common.{◌++◌, length, Ok, refl}
use Rattle.std.proofs.KnownBytes.{Appends-trans}
use Rattle.std.proofs.lemmas.Result.{IfErr-weaker, on_ok_weaker}
use base.Growing.{prefix_refl}
use Rattle.procedure.specs.Bytes.{Bytes}
use Rattle.workers.specs.Checkpointed.{call_count}
use Rattle.calcdb.specs.ThreadRuns.{run_text}
use Rattle.calcdb.proofs.ThreadEnds.{stops_before, stops_keys}
use Rattle.calcdb.proofs.threads.write_ended.Goals as goal

pub returns-in-Err-clause-err : goal.returns-in-Err-clause-err
returns-in-Err-clause-err g c =
    stops_before c.args.count c.args.keys.now c.args.ran.now.core c.args.ran.now.images.items c.requires (g.W.Write.contents c.args.writer.now) (g.W.Write.contents c.write_ran.new.writer)
    c.in-Err.fault c.in-Err.ensures

pub returns-in-Ok-clause-ok : goal.returns-in-Ok-clause-ok
returns-in-Ok-clause-ok g c =
    let core = c.args.ran.now.core in
    let images = c.args.ran.now.images.items in
    let lines : Bytes = run_text c.args.count (call_count core.log) (length images) (Ok tt) in
    on_ok_weaker c.look_each.result
    (λ h. (
      lines ++ h.0,
      record { cuts = c.requires; told = c.args.reader.seen; views = h.0; shows = h.1; parts = refl },
      Appends-trans (g.W.Write.contents c.args.writer.now) (g.W.Write.contents c.write_ran.new.writer) (g.W.Write.contents c.look_each.new.writer) lines h.0 c.in-Ok.ensures h.2,
    ))
    c.look_each.ensures.ok

pub returns-in-Ok-clause-err : goal.returns-in-Ok-clause-err
returns-in-Ok-clause-err g c =
    IfErr-weaker c.look_each.result _ _
    (λ f h. stops_keys c.args.count c.args.keys.now c.args.ran.now.core c.args.ran.now.images.items c.requires (g.W.Write.contents c.args.writer.now) (g.W.Write.contents c.write_ran.new.writer) (g.W.Write.contents c.look_each.new.writer)
    f c.args.reader.seen c.args.reader.seen c.args.keys.now (prefix_refl c.args.reader.seen) refl c.in-Ok.ensures h)
    c.look_each.ensures.err
