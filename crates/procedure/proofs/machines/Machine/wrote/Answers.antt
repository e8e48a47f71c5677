use Rattle.std.proofs.Common.{◌≡◌, ◌+◌, IsSome, drop, ap, sym, subst, arith}
use Rattle.procedure.specs.Needs.{becomes_of}
use Rattle.procedure.specs.Runs.{Execution, Progress, advanced, next_need}
use Rattle.procedure.proofs.Writes.{after_write, no_write_past, reads_from_next}
use Rattle.procedure.proofs.machines.Machine.wrote.Goals as goal

pub invariant_of-self : goal.invariant_of-self
invariant_of-self g c =
    let m = c.self.inside in
    record {
      within = omega arith;
      room = omega (arith, c.self.invariant.room, reads_from_next m.code m.place);
    }

pub returns-then-self-end : goal.returns-then-self-end
returns-then-self-end g c found some =
    let m = c.self.inside in
    let after : Progress = record { rest = drop (m.place + 1) m.code; registers = m.registers; replies = m.replies.items; outcome = m.outcome } in
    subst (λ (x : Execution). IsSome (becomes_of (next_need x.args x.progress) found) → record { args = m.args; progress = after } ≡ record { args = x.args; progress = advanced x.args x.progress found })
    c.self.view_is
    (λ here. ap (λ (p : Progress). record { args = m.args; progress = p }) (after_write m.args m.code m.place m.registers m.replies.items m.outcome found here))
    some

pub returns-else-self-end : goal.returns-else-self-end
returns-else-self-end g c found some =
    let m = c.self.inside in
    absurd (no_write_past m.args m.code m.place m.registers m.replies.items m.outcome found (omega arith)
    (subst (λ (x : Execution). IsSome (becomes_of (next_need x.args x.progress) found)) (sym c.self.view_is) some))
