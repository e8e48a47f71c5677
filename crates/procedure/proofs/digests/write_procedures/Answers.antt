use Rattle.std.proofs.Common.{◌++◌, ◌∙◌}
use Rattle.std.specs.List.{flat_map}
use Rattle.procedure.specs.Catalogs.{procedure_fault}
use Rattle.procedure.specs.CatalogBytes.{procedure_bytes}
use Rattle.procedure.proofs.Faults.{neither}
use Rattle.procedure.proofs.Passes.{fault_here, written_more, written_all}
use Rattle.procedure.proofs.digests.write_procedures.Goals as goal

pub returns : goal.returns
returns g c =
    written_all procedure_bytes c.args.procedures.now c.loop-procedure.procedure-index c.loop-procedure.out.items (c.args.out.now.items ++ flat_map procedure_bytes c.args.procedures.now)
    c.loop-procedure-test.false c.loop-procedure.invariant.written

pub loop-procedure-init : goal.loop-procedure-init
loop-procedure-init g c = record { written = λ i. c.args.out.now.items ++ flat_map procedure_bytes c.args.procedures.now; lawful = c.requires }

pub write_procedure-requires : goal.write_procedure-requires
write_procedure-requires g c =
    (neither (procedure_fault c.procedure-item.result) _
    (fault_here c.args.procedures.now c.loop-procedure.procedure-index c.procedure-item.result c.loop-procedure-test.true c.procedure-item.is procedure_fault ∙ c.loop-procedure.invariant.lawful)).0

pub loop-procedure-preserved : goal.loop-procedure-preserved
loop-procedure-preserved g c =
    let ps = c.args.procedures.now in
    let i = c.loop-procedure.procedure-index in
    let p = c.procedure-item.result in
    let below = c.loop-procedure-test.true in
    record {
      written = written_more ps i p below c.procedure-item.is procedure_bytes c.loop-procedure.out.items c.write_procedure.new.out.items (c.args.out.now.items ++ flat_map procedure_bytes ps)
          c.loop-procedure.invariant.written c.in_ok-write_procedure.ensures;
      lawful = (neither (procedure_fault p) _ (fault_here ps i p below c.procedure-item.is procedure_fault ∙ c.loop-procedure.invariant.lawful)).1;
    }
