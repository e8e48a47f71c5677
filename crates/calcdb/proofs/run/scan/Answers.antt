use Rattle.std.proofs.Common.{◌≡◌, ◌-◌, Ok, refl, ap, ◌∙◌}
use Rattle.calcdb.proofs.Scanning.{one_visited, scan_refused, scanned}
use Rattle.calcdb.proofs.run.scan.Goals as goal

pub loop-core-preserved : goal.loop-core-preserved
loop-core-preserved g c =
    let h = c.capture.ensures in
    one_visited c.args.core.now c.loop-core.core c.capture.new.self c.capture.result c.loop-core.invariant (record { captured = h.captured; refused = h.refused; refusal = h.refusal })
    (c.in-Ok-Slot.is ∙ ap Ok c.in-Ok-Slot.field-0-is)

pub returns-in-Ok-Done : goal.returns-in-Ok-Done
returns-in-Ok-Done g c =
    let h = c.capture.ensures in
    let counted : c.scanned.result - c.scanned-before.result ≡ c.capture.new.self.checkpoint.cursor - c.args.core.now.checkpoint.cursor = rw (c.scanned.ensures, c.scanned-before.ensures) refl in
    scanned c.args.core.now c.loop-core.core c.capture.new.self c.capture.result (c.scanned.result - c.scanned-before.result) c.loop-core.invariant
    (record { captured = h.captured; refused = h.refused; refusal = h.refusal })
    (c.in-Ok-Done.is ∙ ap Ok c.in-Ok-Done.field-0-is) counted

pub returns-in-Err : goal.returns-in-Err
returns-in-Err g c =
    let h = c.capture.ensures in
    scan_refused c.args.core.now c.loop-core.core c.capture.new.self c.capture.result c.in-Err.refused c.loop-core.invariant
    (record { captured = h.captured; refused = h.refused; refusal = h.refusal }) c.in-Err.is
