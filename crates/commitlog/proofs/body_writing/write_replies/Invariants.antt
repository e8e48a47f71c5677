use Rattle.std.proofs.Common.{take}
use Rattle.std.specs.List.{flat_map}
use Rattle.commitlog.specs.LogBytes.{reply_bytes}
use Rattle.commitlog.proofs.body_writing.write_replies.Given as goal

abbrev pub invariant-loop-reply : goal.invariant-loop-reply
invariant-loop-reply g l = g.P.Pieces.Takes l.fn.out l.out (flat_map reply_bytes (take l.reply-index l.replies))
