use Rattle.std.proofs.Common.{◌≡◌, ◌<◌, ℕ, [], length, Some, ap, refl, subst, ◌∙◌, arith}
use Rattle.std.specs.FinMap as map
use Rattle.procedure.specs.declared.limits.TheConstants.{PROCEDURES}
use Rattle.calcdb.specs.Lines.{words}
use Rattle.calcdb.specs.Preambles.{Block, Said, said_after_heading, with_block}
use Rattle.calcdb.proofs.SaidLines.{block_opens}
use Rattle.calcdb.proofs.preambles.Said.open_block.Goals as goal

pub returns : goal.returns
returns g c =
    let s : Said = record { names = c.self.inside.names; procedures = c.self.inside.procedures.items; block = c.self.inside.block } in
    let name = c.in_ok-name.name in
    let b : Block = record { line = c.args.number; arity = c.in_ok-name.arity; code = [] } in
    let new : Said = record { names = c.insert.new.self; procedures = s.procedures; block = Some c.new.result } in
    let ws = words c.args.line.now in
    let room : length s.procedures < PROCEDURES = omega (arith, c.if-len-ge-PROCEDURES.false, c.len.ensures, c.self.inside.procedures.ok.0) in
    let count : c.len-2.result ≡ length s.procedures = c.len-2.ensures ∙ c.self.inside.procedures.ok.0 in
    let named : c.insert.new.self ≡ map.insert s.names name (length s.procedures) = c.in_ok-insert.ensures ∙ ap (λ (n : ℕ). map.insert s.names name n) (c.new-defined.ensures ∙ count) in
    let same : with_block s name b ≡ new = rw (named, c.new.ensures) refl in
    subst (λ (x : Said). said_after_heading x c.args.number ws ≡ Some new) c.self.view_is
    (block_opens s c.args.number ws name c.in_ok-name.arity room c.in_ok-name.ensures.value ∙ ap Some same)
