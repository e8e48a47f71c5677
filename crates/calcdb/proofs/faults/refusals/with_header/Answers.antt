use Rattle.std.proofs.Common.{◌≡◌, ◌++◌, inl, refl, ap, subst, ◌∙◌}
use Rattle.std.proofs.lemmas.Result.{err_from_is_err_and}
use Rattle.procedure.specs.Bytes.{Bytes}
use Rattle.calcdb.specs.Output.{header_line}
use Rattle.calcdb.specs.Refusing.{no_memory}
use Rattle.procedure.specs.Streams.{IsBegun}
use Rattle.calcdb.proofs.Declined.{begun, declined}
use Rattle.calcdb.proofs.faults.refusals.with_header.Goals as goal

pub returns-in-Err-clause-err : goal.returns-in-Err-clause-err
returns-in-Err-clause-err g c =
    declined (λ f. f ≡ no_memory) (λ (text : Bytes). text ≡ header_line c.args.image) (g.W.Write.contents c.args.writer.now) (g.W.Write.contents c.say_no_memory.new.writer) no_memory
    c.say_no_memory.result
    tt refl refl (inl c.say_no_memory.ensures)

pub returns-in_err-write_line-in-Ok-clause-err : goal.returns-in_err-write_line-in-Ok-clause-err
returns-in_err-write_line-in-Ok-clause-err g c =
    let old = g.W.Write.contents c.args.writer.now in
    let new = g.W.Write.contents c.write_line.new.writer in
    let text = header_line c.args.image in
    let printed = c.as_slice.ensures.value ∙ c.in-Ok.ensures ∙ ap (λ (l : Bytes). l ++ text) c.new-line.ensures.items in
    let p = err_from_is_err_and c.from_residual.result c.from_residual.ensures.1 in
    let h = c.in_err-write_line-in-Ok.ensures.err in
    rw (p.1, p.2, h.0) (begun (λ f. f ≡ no_memory) (λ (t : Bytes). t ≡ text) old new text refl (subst (IsBegun old new) printed h.1))
