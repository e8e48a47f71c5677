use Rattle.std.proofs.Common.{inl, inr}
use Rattle.image.proofs.Joins.{says_both}
use Rattle.image.proofs.merges.joined.Goals as goal
use Rattle.image.proofs.merges.joined.Goals.{then-loop-i-test+else-j-newer, else-loop-i-test}

pub returns : goal.returns
returns g c =
    says_both c.loop-i.out.items c.extend_from_slice.new.self.items c.extend_from_slice-2.new.self.items c.args.older.now c.args.newer.now c.loop-i.i c.loop-i.j
    c.in_ok-extend_from_slice.ensures.items c.in_ok-extend_from_slice-2.ensures.items c.requires.older c.requires.newer c.loop-i.invariant.whole
    (elim c.loop-i-test.branch [ then-loop-i-test+else-j-newer w ↦ inr w.if-j-newer.false | else-loop-i-test w ↦ inl w.loop-i-test.false ])
