use Rattle.std.proofs.Common.{◌≡◌, List, [], ap, ◌∙◌, arith, replicate}
use Rattle.procedure.specs.Bytes.{Bytes}
use Rattle.locktable.specs.Tables.{keys_in}
use Rattle.locktable.proofs.Taking.{one_more}
use Rattle.locktable.proofs.locks.nothing_held.Goals as goal

pub loop-init : goal.loop-init
loop-init g c = ap keys_in c.in_ok-held.ensures.items

pub loop-preserved : goal.loop-preserved
loop-preserved g c = ap keys_in c.in_ok-push.ensures.items ∙ one_more c.loop.held.items c.new.result c.loop.counter c.loop.invariant c.new.ensures.items

pub returns : goal.returns
returns g c =
    let all : c.loop.counter ≡ 64 = omega arith in
    let none : List Bytes = [] in
    c.loop.invariant ∙ ap (λ n. replicate n none) all
