use Rattle.std.proofs.Common.{List, ◌+◌, drop, sym, ap, ◌∙◌}
use Rattle.std.proofs.lemmas.List.{drop_all}
use Rattle.procedure.specs.Bytes.{Bytes}
use Rattle.image.specs.Images.{Entry}
use Rattle.image.specs.Headers.{linked_all}
use Rattle.procedure.proofs.WriteProgress.{next_item}
use Rattle.image.proofs.headers.chain_of.Goals as goal

pub loop-entry-preserved : goal.loop-entry-preserved
loop-entry-preserved g c =
    let l = c.loop-entry in
    let es = c.args.entries.now in
    ap (λ (d : Bytes). linked_all d (drop (l.entry-index + 1) es)) c.link-chain.ensures
    ∙ sym (ap (λ (rest : List Entry). linked_all l.chain rest) (next_item es l.entry-index c.entry-item.result c.loop-entry-test.true c.entry-item.is))
    ∙ l.invariant

pub returns : goal.returns
returns g c =
    let l = c.loop-entry in
    sym (ap (λ (rest : List Entry). linked_all l.chain rest) (drop_all l.entry-index c.args.entries.now c.loop-entry-test.false)) ∙ l.invariant
