use Rattle.std.proofs.Common.{sym, ◌∙◌, arith}
use Rattle.image.proofs.FrontLoops.{all_past, entry_past, no_entry}
use Rattle.image.proofs.fronts.past_entries.Goals as goal

pub returns-in_err-_piece : goal.returns-in_err-_piece
returns-in_err-_piece c =
    rw c.from_residual.ensures (sym (no_entry c.args.count c.loop.counter c.loop.rest.now (omega (arith, c.loop-test.true)) (sym c.in_err-_piece.ensures)) ∙ c.loop.invariant)

pub loop-preserved : goal.loop-preserved
loop-preserved c =
    sym (entry_past c.args.count c.loop.counter c.loop.rest.now c.in_ok-_piece.after.now c.in_ok-_piece._piece (omega (arith, c.loop-test.true)) (sym c.in_ok-_piece.ensures)) ∙ c.loop.invariant

pub returns : goal.returns
returns c = sym (all_past c.args.count c.loop.counter c.loop.rest.now (omega (arith, c.loop-test.false))) ∙ c.loop.invariant
