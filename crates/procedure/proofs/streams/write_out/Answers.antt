use Rattle.std.proofs.Common.{◌≡◌, ◌++◌, take, sym, ap, ◌∙◌}
use Rattle.std.proofs.lemmas.List.{take-append-drop}
use Rattle.procedure.specs.Bytes.{Bytes}
use Rattle.procedure.proofs.WriteProgress.{more_gone}
use Rattle.procedure.proofs.streams.write_out.Goals as goal

pub loop-rest-preserved : goal.loop-rest-preserved
loop-rest-preserved g c =
    let contents = g.W.Write.contents in
    let rest = c.loop-rest.rest.now in
    let front = take c.in-Ok.taken rest in
    let left = c.split_at.result.1.now in
    let split : rest ≡ front ++ left = sym (take-append-drop c.in-Ok.taken rest) ∙ ap (λ (x : Bytes). front ++ x) (sym c.split_at.ensures.back) in
    more_gone (contents c.args.writer.now) (contents c.loop-rest.writer) (contents c.write.new.self) c.args.bytes.now rest front left c.loop-rest.invariant split c.in-Ok.ensures.bytes
