use Rattle.std.specs.Prelude.{count_by}
use Rattle.std.proofs.Common.{refl, ◌≡◌, ℕ, ◌+◌, ◌<◌, ◌≤◌, ◌^◌, List, [], ◌∷◌, ◌++◌, length, drop, vec_capacity, option_copied, refl, sym, ap, subst, arith, length-append}
use Rattle.procedure.specs.Needs.{CopiesValue}
use Rattle.procedure.specs.Procedures.{is_read}
use Rattle.procedure.specs.Runs.{Execution, Progress, advanced, next_need}
use Rattle.procedure.proofs.Steps.{need_here, advanced_past, after_set, after_load, after_pass, after_end, load_is_read, no_reads_past, reads_after, reads_after_read}
use Rattle.procedure.proofs.Results.{on_err}
use Rattle.procedure.proofs.machines.Machine.fed.Goals as goal

pub returns-in_default-clause-ok : goal.returns-in_default-clause-ok
returns-in_default-clause-ok g c =
    let m = c.self.inside in
    let e = advanced_past m.args m.code m.place m.registers m.replies.items m.outcome (option_copied c.args.found) c.in_default.ensures.value in
    subst (λ (x : Execution). x ≡ record { args = x.args; progress = advanced x.args x.progress (option_copied c.args.found) }) c.self.view_is
    (ap (λ (p : Progress). record { args = m.args; progress = p }) (sym e))

pub returns-in_err-register-clause-memory : goal.returns-in_err-register-clause-memory
returns-in_err-register-clause-memory g c =
    let m = c.self.inside in
    let e = need_here m.args m.code m.place m.registers m.replies.items m.outcome c.in-Some.instruction.now c.in-Some.ensures.value
    c.as_slice-args.result.now c.as_slice-args.ensures m.registers refl in
    on_err _
    (subst (λ (x : Execution). CopiesValue (next_need x.args x.progress)) c.self.view_is
    (subst CopiesValue e c.in_err-register.ensures.memory))

pub returns-in-Set-clause-ok : goal.returns-in-Set-clause-ok
returns-in-Set-clause-ok g c =
    let m = c.self.inside in
    let after : Progress = record { rest = drop (m.place + 1) m.code; registers = c.set.new.self; replies = m.replies.items; outcome = m.outcome } in
    subst (λ (x : Execution). record { args = m.args; progress = after } ≡ record { args = x.args; progress = advanced x.args x.progress (option_copied c.args.found) }) c.self.view_is
    (ap (λ (p : Progress). record { args = m.args; progress = p })
    (after_set m.args m.code m.place m.registers m.replies.items m.outcome (option_copied c.args.found) c.in-Some.instruction.now c.in-Some.ensures.value
    c.as_slice-args.result.now c.as_slice-args.ensures m.registers refl c.in_ok-register.field-0 c.in_ok-register.ensures.value
    c.in-Set.register c.in-Set.cell c.in-Set.is c.set.new.self c.set.ensures))

pub returns-in-Load-clause-ok : goal.returns-in-Load-clause-ok
returns-in-Load-clause-ok g c =
    let m = c.self.inside in
    let after : Progress = record { rest = drop (m.place + 1) m.code; registers = c.set-in-Load.new.self; replies = c.push_reserved.new.self.items; outcome = m.outcome } in
    subst (λ (x : Execution). record { args = m.args; progress = after } ≡ record { args = x.args; progress = advanced x.args x.progress (option_copied c.args.found) }) c.self.view_is
    (ap (λ (p : Progress). record { args = m.args; progress = p })
    (after_load m.args m.code m.place m.registers m.replies.items m.outcome (option_copied c.args.found) c.in-Some.instruction.now c.in-Some.ensures.value
    c.as_slice-args.result.now c.as_slice-args.ensures m.registers refl c.in_ok-register.field-0 c.in_ok-register.ensures.value
    c.in-Load.register c.in-Load.cell c.in-Load.reply c.in-Load.is c.set-in-Load.new.self _ c.set-in-Load.ensures c.push_reserved.ensures.items))

pub returns-in-Pass-clause-ok : goal.returns-in-Pass-clause-ok
returns-in-Pass-clause-ok g c =
    let m = c.self.inside in
    let after : Progress = record { rest = drop (m.place + 1) m.code; registers = m.registers; replies = m.replies.items; outcome = m.outcome } in
    subst (λ (x : Execution). record { args = m.args; progress = after } ≡ record { args = x.args; progress = advanced x.args x.progress (option_copied c.args.found) }) c.self.view_is
    (ap (λ (p : Progress). record { args = m.args; progress = p })
    (after_pass m.args m.code m.place m.registers m.replies.items m.outcome (option_copied c.args.found) c.in-Some.instruction.now c.in-Some.ensures.value
    c.as_slice-args.result.now c.as_slice-args.ensures m.registers refl c.in_ok-register.field-0 c.in_ok-register.ensures.value c.in-Pass.is))

pub returns-in-End-clause-ok : goal.returns-in-End-clause-ok
returns-in-End-clause-ok g c =
    let m = c.self.inside in
    let after : Progress = record { rest = drop c.len-end.result m.code; registers = m.registers; replies = m.replies.items; outcome = c.in-End.code } in
    subst (λ (x : Execution). record { args = m.args; progress = after } ≡ record { args = x.args; progress = advanced x.args x.progress (option_copied c.args.found) }) c.self.view_is
    (ap (λ (p : Progress). record { args = m.args; progress = p })
    (after_end m.args m.code m.place m.registers m.replies.items m.outcome (option_copied c.args.found) c.in-Some.instruction.now c.in-Some.ensures.value
    c.as_slice-args.result.now c.as_slice-args.ensures m.registers refl c.in_ok-register.field-0 c.in_ok-register.ensures.value
    c.in-End.code c.in-End.is c.len-end.result c.len-end.ensures))

within : (place n : ℕ) → place < n → place + 1 ≤ n
within place n here = omega arith

-- the room after an instruction, by how many reads are left
module _ (r left after cap : ℕ) (room : r + left ≤ cap) where
  next_room : after ≤ left → r + after ≤ cap
  next_room less = omega arith

  room_left : (len : ℕ) → len ≡ r → left ≡ 1 + after → len < cap
  room_left len same read = omega arith

  reply_room : {X : Type 0} (old new : List X) (x : X) (cap' : ℕ) → length old ≡ r → new ≡ old ++ x ∷ [] → cap' ≡ cap → left ≡ 1 + after → length new + after ≤ cap'
  reply_room old new x cap' is pushed same read = omega (arith, ap length pushed, length-append old (x ∷ []))

next_fits : (place n end : ℕ) → place < n → end ≡ n → end < 2 ^ 64 → place + 1 < 2 ^ 64
next_fits place n end here same fits = omega arith

end_within : (end n : ℕ) → end ≡ n → end ≤ n
end_within end n same = omega arith

pub overflow_add-self : goal.overflow_add-self
overflow_add-self g c = record { fits = next_fits c.self.inside.place (length c.self.inside.code) c.len-end.result (c.in-Some.ensures.within.0 refl) c.len-end.ensures c.len-end.type_inv }

pub overflow_add-self-in-Load : goal.overflow_add-self-in-Load
overflow_add-self-in-Load g c = record { fits = next_fits c.self.inside.place (length c.self.inside.code) c.len-end.result (c.in-Some.ensures.within.0 refl) c.len-end.ensures c.len-end.type_inv }

pub overflow_add-self-in-Pass : goal.overflow_add-self-in-Pass
overflow_add-self-in-Pass g c = record { fits = next_fits c.self.inside.place (length c.self.inside.code) c.len-end.result (c.in-Some.ensures.within.0 refl) c.len-end.ensures c.len-end.type_inv }

pub push_reserved-requires : goal.push_reserved-requires
push_reserved-requires g c =
    let m = c.self.inside in
    let read = load_is_read c.self.inside.registers c.in-Some.instruction.now c.as_slice-args.result.now (option_copied c.args.found) c.in_ok-register.field-0
    c.in-Load.register c.in-Load.cell c.in-Load.reply c.in-Load.is c.in_ok-register.ensures.value in
    room_left (length m.replies.items) (count_by is_read (drop m.place m.code)) (count_by is_read (drop (m.place + 1) m.code)) (vec_capacity m.replies) c.self.invariant.room m.replies.len m.replies.ok.0
    (reads_after_read m.code m.place c.in-Some.instruction.now c.in-Some.ensures.value read)

pub invariant_of-self : goal.invariant_of-self
invariant_of-self g c = record {
  within = within _ _ (c.in-Some.ensures.within.0 refl);
  room = next_room _ _ _ _ c.self.invariant.room (reads_after c.self.inside.code c.self.inside.place _ c.in-Some.ensures.value);
}

pub invariant_of-self-in-Load : goal.invariant_of-self-in-Load
invariant_of-self-in-Load g c =
    let m = c.self.inside in
    let after = c.push_reserved.new.self in
    let read = load_is_read c.self.inside.registers c.in-Some.instruction.now c.as_slice-args.result.now (option_copied c.args.found) c.in_ok-register.field-0
    c.in-Load.register c.in-Load.cell c.in-Load.reply c.in-Load.is c.in_ok-register.ensures.value in
    record {
      within = within m.place (length m.code) (c.in-Some.ensures.within.0 refl);
      room = reply_room (length m.replies.items) (count_by is_read (drop m.place m.code)) (count_by is_read (drop (m.place + 1) m.code)) (vec_capacity m.replies) c.self.invariant.room
          m.replies.items after.items c.in-Load.reply (vec_capacity after) refl c.push_reserved.ensures.items c.push_reserved.ensures.capacity
          (reads_after_read m.code m.place c.in-Some.instruction.now c.in-Some.ensures.value read);
    }

pub invariant_of-self-in-Pass : goal.invariant_of-self-in-Pass
invariant_of-self-in-Pass g c = record {
  within = within _ _ (c.in-Some.ensures.within.0 refl);
  room = next_room _ _ _ _ c.self.invariant.room (reads_after c.self.inside.code c.self.inside.place _ c.in-Some.ensures.value);
}

pub invariant_of-self-in-End : goal.invariant_of-self-in-End
invariant_of-self-in-End g c =
    let m = c.self.inside in
    record {
      within = end_within c.len-end.result (length m.code) c.len-end.ensures;
      room = next_room (length m.replies.items) (count_by is_read (drop m.place m.code)) (count_by is_read (drop c.len-end.result m.code)) (vec_capacity m.replies) c.self.invariant.room
          (omega (arith, no_reads_past m.code c.len-end.result c.len-end.ensures));
    }
