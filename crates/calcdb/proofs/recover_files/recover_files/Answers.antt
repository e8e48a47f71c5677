use Rattle.std.proofs.Common.{Ok, Err}
use Rattle.std.proofs.lemmas.Result.{IfOk-weaker}
use Rattle.calcdb.proofs.OwnFiles.{declined_gives, finished_gives, from_image_files, from_opening_file}
use Rattle.calcdb.proofs.RecoveryEnds.{fault_declined, finished_agrees, line_fails}
use Rattle.calcdb.proofs.recover_files.recover_files.Goals as goal

pub returns-in-Ok-clause-image : goal.returns-in-Ok-clause-image
returns-in-Ok-clause-image g c = λ files taken. IfOk-weaker c.finish.result _ _ (λ i h. (c.in-Ok.recovered, c.in-Ok.ensures.ok files taken, h.0, h.1)) c.finish.ensures.ok

pub returns-in-Ok-clause-fault : goal.returns-in-Ok-clause-fault
returns-in-Ok-clause-fault g c = λ files taken.
    line_fails c.args.script.now c.args.log.now files (g.W.Write.contents c.args.writer.now) (g.W.Write.contents c.finish.new.writer) c.in-Ok.recovered c.finish.result
    (c.in-Ok.ensures.ok files taken) c.finish.ensures.err

pub returns-in-Ok-clause-only : goal.returns-in-Ok-clause-only
returns-in-Ok-clause-only g c = λ files says taken told.
    finished_agrees says (g.W.Write.contents c.args.writer.now) (g.W.Write.contents c.finish.new.writer) c.in-Ok.recovered c.finish.result c.finish.ensures.ok c.finish.ensures.err
    (c.in-Ok.ensures.only files says taken told)

pub returns-in-Err-clause-fault : goal.returns-in-Err-clause-fault
returns-in-Err-clause-fault g c = λ files taken.
    fault_declined c.args.script.now c.args.log.now files (g.W.Write.contents c.args.writer.now) (g.W.Write.contents c.refuse.new.writer) c.in-Err.fault
    c.refuse.result
    (c.in-Err.ensures.err files taken) c.refuse.ensures

pub returns-in-Ok-clause-opening : goal.returns-in-Ok-clause-opening
returns-in-Ok-clause-opening g c = λ files taken.
    from_opening_file c.args.script.now c.args.log.now files (Ok c.in-Ok.recovered) c.finish.result (c.in-Ok.ensures.spelled files taken)
    (finished_gives (g.W.Write.contents c.args.writer.now) (g.W.Write.contents c.finish.new.writer) c.in-Ok.recovered c.finish.result c.finish.ensures.ok c.finish.ensures.err)

pub returns-in-Ok-clause-images : goal.returns-in-Ok-clause-images
returns-in-Ok-clause-images g c = λ files taken.
    from_image_files c.args.script.now c.args.log.now files (Ok c.in-Ok.recovered) c.finish.result (c.in-Ok.ensures.spelled files taken)
    (finished_gives (g.W.Write.contents c.args.writer.now) (g.W.Write.contents c.finish.new.writer) c.in-Ok.recovered c.finish.result c.finish.ensures.ok c.finish.ensures.err)

pub returns-in-Err-clause-opening : goal.returns-in-Err-clause-opening
returns-in-Err-clause-opening g c = λ files taken.
    from_opening_file c.args.script.now c.args.log.now files (Err c.in-Err.fault) (Err c.refuse.result) (c.in-Err.ensures.spelled files taken)
    (declined_gives (g.W.Write.contents c.args.writer.now) (g.W.Write.contents c.refuse.new.writer) c.in-Err.fault c.refuse.result c.refuse.ensures)

pub returns-in-Err-clause-images : goal.returns-in-Err-clause-images
returns-in-Err-clause-images g c = λ files taken.
    from_image_files c.args.script.now c.args.log.now files (Err c.in-Err.fault) (Err c.refuse.result) (c.in-Err.ensures.spelled files taken)
    (declined_gives (g.W.Write.contents c.args.writer.now) (g.W.Write.contents c.refuse.new.writer) c.in-Err.fault c.refuse.result c.refuse.ensures)
