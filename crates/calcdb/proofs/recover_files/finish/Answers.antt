use Rattle.std.proofs.Common.{◌≡◌, inl, refl, subst, ◌∙◌}
use Rattle.std.specs.Io.KnownBytes.{Appends}
use Rattle.procedure.specs.Bytes.{Bytes}
use Rattle.calcdb.proofs.Declined.{begun, declined}
use Rattle.calcdb.specs.Recovering.{recovered_line}
use Rattle.calcdb.specs.Refusing.{no_memory}
use Rattle.procedure.specs.Streams.{IsBegun}
use Rattle.calcdb.proofs.recover_files.finish.Goals as goal

pub returns-in-Err-clause-err : goal.returns-in-Err-clause-err
returns-in-Err-clause-err g c =
    declined (λ f. f ≡ no_memory) (λ (text : Bytes). text ≡ recovered_line c.args.recovered) (g.W.Write.contents c.args.writer.now) (g.W.Write.contents c.say_no_memory.new.writer) no_memory
    c.say_no_memory.result
    tt refl refl (inl c.say_no_memory.ensures)

pub returns-in-Ok-write_out-clause-ok : goal.returns-in-Ok-write_out-clause-ok
returns-in-Ok-write_out-clause-ok g c = (
  c.in-Ok.ensures.image,
  subst (Appends (g.W.Write.contents c.args.writer.now) (g.W.Write.contents c.write_out.new.writer)) (c.as_slice.ensures.value ∙ c.in-Ok.ensures.line)
      c.in-Ok-write_out.ensures.ok,
)

pub returns-in-Err-write_out-clause-err : goal.returns-in-Err-write_out-clause-err
returns-in-Err-write_out-clause-err g c =
    let old = g.W.Write.contents c.args.writer.now in
    let new = g.W.Write.contents c.write_out.new.writer in
    begun (λ f. f ≡ no_memory) (λ (text : Bytes). text ≡ recovered_line c.args.recovered) old new (recovered_line c.args.recovered) refl
    (subst (IsBegun old new) (c.as_slice.ensures.value ∙ c.in-Ok.ensures.line) c.in-Err-write_out.ensures.err)
