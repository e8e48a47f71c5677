use Rattle.std.proofs.Common.{◌≡◌, ap, subst, sym, ◌∙◌, Option}
use Rattle.calcdb.specs.Lines.{words}
use Rattle.calcdb.specs.Reads.{ReadsAs}
use Rattle.calcdb.specs.Preambles.{Block, Said, said_after_words, in_block}
use Rattle.calcdb.proofs.SaidLines.{in_words}
use Rattle.calcdb.proofs.preambles.Said.read_words.Goals as goal

pub returns-in-Some : goal.returns-in-Some
returns-in-Some g c =
    let s : Said = record { names = c.self.inside.names; procedures = c.self.inside.procedures.items; block = c.self.inside.block } in
    let b : Block = c.in-Some.block in
    let ws = words c.args.line.now in
    let same : in_block (record s { block = c.take.new.self }) b ws ≡ said_after_words c.args.self.now c.args.number ws =
    ap (λ (o : Option Block). in_block (record s { block = o }) b ws) c.take.ensures.after
    ∙ in_words s c.args.number b ws (sym c.if-is_skipped.ensures) (sym c.in-Some.ensures.value)
    ∙ ap (λ (x : Said). said_after_words x c.args.number ws) c.self.view_is in
    subst (ReadsAs (λ _. c.read_in_block.new.self) c.read_in_block.result) same c.read_in_block.ensures
