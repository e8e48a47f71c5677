use Rattle.std.proofs.Common.{◌≡◌, ◌≤◌, Ok, List, [], length, ap, sym, ◌∙◌, arith}
use Rattle.image.specs.Images.{Entry}
use Rattle.calcdb.specs.LineByLine.{after_lines}
use Rattle.calcdb.specs.Lines.{lines}
use Rattle.calcdb.specs.inside.ListedPairs.{after_line}
use Rattle.calcdb.specs.declared.scripts.TheConstants.{SCRIPT_BYTES}
use Rattle.calcdb.proofs.ListedPairs.{answers_image, answers_none, okay}
use Rattle.calcdb.proofs.pairs.read_distinct.Goals as goal

pub returns-clause-image : goal.returns-clause-image
returns-clause-image g c =
    let text = c.args.text.now in
    let es = c.said.inside.entries.items in
    let read : after_lines after_line [] 1 (lines text) ≡ Ok es = ap (λ (x : List Entry). after_lines after_line x 1 (lines text)) (sym c.new.ensures.items) ∙ c.in-Ok.ensures ∙ ap okay (sym c.said.view_is) in
    let fits : length text ≤ SCRIPT_BYTES = omega (arith, c.if-text-gt-SCRIPT_BYTES.false) in
    answers_image text es read c.captured.result c.captured.ensures.lawful fits c.captured.ensures.value

pub returns-clause-none : goal.returns-clause-none
returns-clause-none g c =
    let text = c.args.text.now in
    let es = c.said.inside.entries.items in
    let read : after_lines after_line [] 1 (lines text) ≡ Ok es = ap (λ (x : List Entry). after_lines after_line x 1 (lines text)) (sym c.new.ensures.items) ∙ c.in-Ok.ensures ∙ ap okay (sym c.said.view_is) in
    answers_none text es read c.captured.result c.captured.ensures.lawful
