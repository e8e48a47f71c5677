use Rattle.std.proofs.Common.{◌≡◌, ◌≤◌, take, length, List, ℕ, vec_capacity}
use Rattle.steps.proofs.finish.copy_of_replies.Given as goal

pub record IsCopied {X : Type 0} (copy all : List X) (index capacity : ℕ) : Type 0 where
  pub copied : copy ≡ take index all
  pub room : length all ≤ capacity

abbrev pub invariant-loop-reply : goal.invariant-loop-reply
invariant-loop-reply g l = IsCopied l.copy.items l.replies l.reply-index (vec_capacity l.copy)
