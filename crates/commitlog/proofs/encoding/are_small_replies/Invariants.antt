use Rattle.std.proofs.Common.{drop}
use Rattle.std.specs.Prelude.{◌↔◌}
use Rattle.std.specs.List.{AllByRecursion}
use Rattle.commitlog.specs.declared.formats.Version.TheVariants.{One}
use Rattle.commitlog.specs.LogBytes.{IsReply}
use Rattle.commitlog.proofs.encoding.are_small_replies.Given as goal

abbrev pub invariant-loop-reply : goal.invariant-loop-reply
invariant-loop-reply g l = AllByRecursion (IsReply One) l.replies ↔ AllByRecursion (IsReply One) (drop l.reply-index l.replies)
