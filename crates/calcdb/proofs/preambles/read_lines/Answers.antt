use Rattle.std.proofs.Common.{ap, sym, subst, ◌∙◌, option_map}
use Rattle.calcdb.specs.LineByLine.{TellsScript}
use Rattle.calcdb.specs.Lines.{is_line_feed, left_pieces}
use Rattle.calcdb.specs.Preambles.{as_preamble}
use Rattle.calcdb.proofs.SaidLines.{command_left, nothing_left}
use Rattle.calcdb.proofs.preambles.read_lines.Goals as goal

pub returns-then-ends_before-clause-says : goal.returns-then-ends_before-clause-says
returns-then-ends_before-clause-says g c =
    let l = c.loop-rest in
    let left = option_map (λ t. t.now) l.rest in
    let behind = left_pieces is_line_feed (option_map (λ t. t.now) c.line_at.result.1) in
    subst (TellsScript (as_preamble {A = g.row.A.Denot}) c.into_preamble.result)
    (sym (command_left l.said l.number left c.in-Some.left.now c.line_at.result.0.now c.without_return-line.result.now behind (ap (option_map (λ t. t.now)) c.in-Some.is) c.line_at.ensures.pieces
    c.without_return-line.ensures (sym c.ends_before.ensures ∙ c.if-ends_before.true)) ∙ l.invariant.says)
    c.into_preamble.ensures.says

pub returns-clause-says : goal.returns-clause-says
returns-clause-says g c =
    let l = c.loop-rest in
    subst (TellsScript (as_preamble {A = g.row.A.Denot}) c.into_preamble-2.result)
    (sym (nothing_left l.said l.number (option_map (λ t. t.now) l.rest) (ap (option_map (λ t. t.now)) c.in_default.is)) ∙ l.invariant.says) c.into_preamble-2.ensures.says
