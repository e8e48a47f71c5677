use Rattle.std.proofs.Common.{◌-◌, List, length, inl, inr, sym, ap, ◌∙◌, arith}
use Rattle.std.specs.Prelude.{slice_get}
use Rattle.std.specs.Option.{option_copied}
use Rattle.image.specs.Images.{Entry}
use Rattle.image.proofs.FromTheBack.{compares_so, is_left, last_seen, not_less, over, says_all, second, up}
use Rattle.image.proofs.Joins.{union}
use Rattle.image.proofs.layers.joined.Goals as goal

pub overflow_sub-left : goal.overflow_sub-left
overflow_sub-left g c = is_left c.loop-last.left c.last_compared.result c.last_compared.ensures.none (not_less _ (inl c.in-Equal.is))

pub overflow_sub-left-in-Greater : goal.overflow_sub-left-in-Greater
overflow_sub-left-in-Greater g c = is_left c.loop-last.left c.last_compared.result c.last_compared.ensures.none (not_less _ (inr c.in-Greater.is))

pub loop-last-smaller : goal.loop-last-smaller
loop-last-smaller g c = omega (arith, is_left c.loop-last.left c.last_compared.result c.last_compared.ensures.none (not_less _ (inr c.in-Greater.is)))

pub loop-last-preserved-in-Less : goal.loop-last-preserved-in-Less
loop-last-preserved-in-Less g c =
    let l = c.loop-last in
    let z = c.in-Some.last.now in
    second (union c.args.older.items c.args.newer.items) l.older.items l.newer.items l.left l.at (l.at - 1) (omega arith) l.invariant z
    (last_seen l.newer.items c.as_slice-in-loop-last.result.now z c.as_slice-in-loop-last.ensures.value c.in-Some.ensures.value) c.last_compared.result
    (compares_so l.older.items c.as_slice-in-Some.result.now l.left c.last_compared.result c.last-in-Some.inside.key z c.as_slice-in-Some.ensures.value (ap (λ (e : Entry). e.0) c.last-in-Some.view_is)
    c.last_compared.ensures.last)
    c.take_last.new.self.items c.put.new.entries.items c.take_last.result c.take_last.ensures.items c.put.ensures c.in-Less.is

pub loop-last-preserved-in-Equal : goal.loop-last-preserved-in-Equal
loop-last-preserved-in-Equal g c =
    let l = c.loop-last in
    let z = c.in-Some.last.now in
    let some = is_left l.left c.last_compared.result c.last_compared.ensures.none (not_less _ (inl c.in-Equal.is)) in
    over (union c.args.older.items c.args.newer.items) l.older.items l.newer.items l.left l.at (l.at - 1) (omega arith) l.invariant z
    (last_seen l.newer.items c.as_slice-in-loop-last.result.now z c.as_slice-in-loop-last.ensures.value c.in-Some.ensures.value) c.last_compared.result
    (compares_so l.older.items c.as_slice-in-Some.result.now l.left c.last_compared.result c.last-in-Some.inside.key z c.as_slice-in-Some.ensures.value (ap (λ (e : Entry). e.0) c.last-in-Some.view_is)
    c.last_compared.ensures.last)
    c.take_last-in-Equal.new.self.items c.put-in-Equal.new.entries.items c.take_last-in-Equal.result c.take_last-in-Equal.ensures.items c.put-in-Equal.ensures (l.left - 1) (omega arith) c.in-Equal.is

pub loop-last-preserved : goal.loop-last-preserved
loop-last-preserved g c =
    let l = c.loop-last in
    let z = c.in-Some.last.now in
    let some = is_left l.left c.last_compared.result c.last_compared.ensures.none (not_less _ (inr c.in-Greater.is)) in
    up (union c.args.older.items c.args.newer.items) l.older.items l.newer.items l.left l.at (l.at - 1) (omega arith) l.invariant z
    (last_seen l.newer.items c.as_slice-in-loop-last.result.now z c.as_slice-in-loop-last.ensures.value c.in-Some.ensures.value) c.last_compared.result
    (compares_so l.older.items c.as_slice-in-Some.result.now l.left c.last_compared.result c.last-in-Some.inside.key z c.as_slice-in-Some.ensures.value (ap (λ (e : Entry). e.0) c.last-in-Some.view_is)
    c.last_compared.ensures.last)
    c.swap.new.self.items (l.left - 1) c.swap.ensures.items (omega arith) c.in-Greater.is

pub returns : goal.returns
returns g c =
    let l = c.loop-last in
    let none = ap (λ (es : List Entry). slice_get es (length es - 1)) (sym c.as_slice-in-loop-last.ensures.value) ∙ sym c.last.ensures.value ∙ ap option_copied c.in_default.is in
    says_all c.args.older.items c.args.newer.items l.older.items l.newer.items c.take_out.new.entries.items l.left l.at c.requires.older c.requires.newer l.invariant none c.take_out.ensures
