use Rattle.std.proofs.Common.{◌≡◌, ◌++◌, take}
use Rattle.calcdb.specs.Output.{replies_text}
use Rattle.calcdb.proofs.output.push_replies.Given as goal

-- the text so far has the replies so far
abbrev pub invariant-loop-reply : goal.invariant-loop-reply
invariant-loop-reply g l = l.out.items ≡ l.fn.out.items ++ replies_text (take l.reply-index l.replies)
