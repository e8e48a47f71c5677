use Rattle.std.proofs.Common.{◌++◌, [], ◌∷◌, arith, filter, ap, ◌∙◌}
use Rattle.workers.specs.declared.runs.Script.{Script}
use Rattle.calcdb.specs.Plans.{as_command, is_of}
use Rattle.calcdb.proofs.PlanScripts.{call_added, numbered_set}
use Rattle.calcdb.proofs.plans.add_call.Goals as goal

pub returns-clause-numbered : goal.returns-clause-numbered
returns-clause-numbered g c =
    let d : Script g.row.A.Denot = c.index_mut.result.now in
    let y : Script g.row.A.Denot = record { session = d.session; calls = c.push.new.self } in
    numbered_set 0 c.from.result c.grow.new.scripts.items y d c.in_ok-grow.ensures.numbered (ap (λ (x : Script g.row.A.Denot). x.session) c.index_mut.ensures.value)

pub returns-clause-calls : goal.returns-clause-calls
returns-clause-calls g c = λ s.
    let scripts = c.grow.new.scripts in
    let d : Script g.row.A.Denot = c.index_mut.result.now in
    let y : Script g.row.A.Denot = record { session = d.session; calls = c.push.new.self } in
    let call = c.args.call in
    call_added s 0 c.from.result scripts.items y d call c.in_ok-grow.ensures.numbered (omega (arith, c.from.ensures, c.in_ok-grow.ensures.len, scripts.ok.0))
    (ap (λ (x : Script g.row.A.Denot). x.session) c.index_mut.ensures.value)
    (c.in_ok-push.ensures.items ∙ ap (λ (x : Script g.row.A.Denot). x.calls.items ++ call ∷ []) c.index_mut.ensures.value) (omega (arith, c.from.ensures))
    ∙ ap (λ l. l ++ filter (is_of s) (as_command call ∷ [])) (c.in_ok-grow.ensures.calls s)
