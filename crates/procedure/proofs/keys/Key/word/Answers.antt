use Rattle.std.proofs.Common.{◌∙◌, ℕ, List, slice_index, ap, sym}
use Rattle.byteorder.specs.Endian.{big_from}
use Rattle.procedure.specs.Keys.{key_bytes}
use Rattle.procedure.proofs.KeyOrders.{at_place, unpadded}
use Rattle.procedure.proofs.keys.Key.word.Goals as goal

pub returns-clause-value : goal.returns-clause-value
returns-clause-value c =
    let here : List ℕ → ℕ = λ bs. big_from c.args.from 8 bs in
    c.number_in.ensures.value ∙ ap here c.self.invariant.rest_is_zero ∙ unpadded (key_bytes c.self.inside) c.args.from 8 ∙ ap here c.self.view_is

pub returns-clause-bytes : goal.returns-clause-bytes
returns-clause-bytes c i =
    let here : List ℕ → ℕ = λ bs. slice_index bs i in
    let same = ap here c.self.invariant.rest_is_zero ∙ at_place (key_bytes c.self.inside) i ∙ ap here c.self.view_is in
    rw (sym same) (c.number_in.ensures.bytes i)
