use Rattle.std.proofs.Common.{◌≡◌, List, [], ◌∷◌, ◌++◌, arith, length, refl, sym, ap, ◌∙◌, append_assoc}
use Rattle.std.specs.Vec.Iter.{into_iter_items}
use Rattle.std.proofs.lemmas.List.{append-nil, nil_from_length}
use Rattle.procedure.specs.Bytes.{Bytes}
use Rattle.calcdb.specs.Plans.{ThreadCommands, calls_in, calls_of, key_asked, kind_asked}
use Rattle.calcdb.specs.declared.thread_commands.ThreadCommand.{ThreadCommand}
use Rattle.calcdb.proofs.CarryingOn.{length-of-cons}
use Rattle.calcdb.proofs.PlanLists.{counts, one_more}
use Rattle.calcdb.proofs.PlanScripts.{calls_more, used_calls}
use Rattle.calcdb.proofs.plans.plan_of.Goals as goal

pub loop-command-preserved : goal.loop-command-preserved
loop-command-preserved g c =
    let i = c.loop-command.invariant in
    let h = c.in-Some.ensures.steps in
    let d : ThreadCommand (List Bytes) = c.in-Some.command in
    let left = into_iter_items c.next.new.self in
    let more = length-of-cons (into_iter_items c.loop-command.command-iterator) d left h.0 in
    record {
      front = i.front ++ d ∷ [];
      parts = i.parts ∙ ap (λ (l : ThreadCommands). i.front ++ l) h.0 ∙ sym (append_assoc i.front (d ∷ []) left);
      numbered = c.in_ok-add.ensures.numbered;
      calls = λ s. calls_more s i.front d c.loop-command.lists.scripts.items c.add.new.self.scripts.items (i.calls s) (c.in_ok-add.ensures.calls s);
      kinds = one_more kind_asked i.front d c.loop-command.lists.kinds.items c.add.new.self.kinds.items i.kinds c.in_ok-add.ensures.kinds;
      keys = one_more key_asked i.front d c.loop-command.lists.keys.items c.add.new.self.keys.items i.keys c.in_ok-add.ensures.keys;
      count = omega (arith, i.count, h.1, more);
    }

pub overflow_sub-count : goal.overflow_sub-count
overflow_sub-count g c =
    let l = c.loop-command in
    let i = l.invariant in
    let left : into_iter_items l.command-iterator ≡ [] = nil_from_length (into_iter_items l.command-iterator) (sym i.count ∙ c.in-None.ensures.steps.0) in
    let all : c.args.commands.items ≡ i.front = i.parts ∙ ap (λ (k : ThreadCommands). i.front ++ k) left ∙ append-nil i.front in
    omega (arith, counts i.front c.args.commands.items c.len-all.result c.len.result (length l.lists.keys.items) l.lists.kinds.items l.lists.keys.items all (c.len-all.ensures ∙ c.args.commands.ok.0) (c.len.ensures ∙ l.lists.kinds.ok.0) refl i.kinds i.keys)

pub overflow_sub-count-2 : goal.overflow_sub-count-2
overflow_sub-count-2 g c =
    let l = c.loop-command in
    let i = l.invariant in
    let left : into_iter_items l.command-iterator ≡ [] = nil_from_length (into_iter_items l.command-iterator) (sym i.count ∙ c.in-None.ensures.steps.0) in
    let all : c.args.commands.items ≡ i.front = i.parts ∙ ap (λ (k : ThreadCommands). i.front ++ k) left ∙ append-nil i.front in
    omega (arith, counts i.front c.args.commands.items c.len-all.result c.len.result c.len-2.result l.lists.kinds.items l.lists.keys.items all (c.len-all.ensures ∙ c.args.commands.ok.0) (c.len.ensures ∙ l.lists.kinds.ok.0) (c.len-2.ensures ∙ l.lists.keys.ok.0) i.kinds i.keys)

pub returns-clause-scripts : goal.returns-clause-scripts
returns-clause-scripts g c = λ s.
    let l = c.loop-command in
    let i = l.invariant in
    let left : into_iter_items l.command-iterator ≡ [] = nil_from_length (into_iter_items l.command-iterator) (sym i.count ∙ c.in-None.ensures.steps.0) in
    let all : c.args.commands.items ≡ i.front = i.parts ∙ ap (λ (k : ThreadCommands). i.front ++ k) left ∙ append-nil i.front in
    ap (calls_in s) c.used.ensures ∙ used_calls s l.lists.scripts.items ∙ i.calls s ∙ ap (calls_of s) (sym all)

pub returns-clause-count : goal.returns-clause-count
returns-clause-count g c =
    let l = c.loop-command in
    let i = l.invariant in
    let left : into_iter_items l.command-iterator ≡ [] = nil_from_length (into_iter_items l.command-iterator) (sym i.count ∙ c.in-None.ensures.steps.0) in
    let all : c.args.commands.items ≡ i.front = i.parts ∙ ap (λ (k : ThreadCommands). i.front ++ k) left ∙ append-nil i.front in
    omega (arith, counts i.front c.args.commands.items c.len-all.result c.len.result c.len-2.result l.lists.kinds.items l.lists.keys.items all (c.len-all.ensures ∙ c.args.commands.ok.0) (c.len.ensures ∙ l.lists.kinds.ok.0) (c.len-2.ensures ∙ l.lists.keys.ok.0) i.kinds i.keys)
