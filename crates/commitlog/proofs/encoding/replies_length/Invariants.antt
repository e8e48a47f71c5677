use Rattle.std.proofs.Common.{◌≡◌, ◌≤◌, ◌+◌, ◌*◌, drop, length}
use Rattle.std.specs.List.{flat_map, AllByRecursion}
use Rattle.commitlog.specs.declared.formats.Version.TheVariants.{Two}
use Rattle.commitlog.specs.LogBytes.{reply_bytes, IsReply}
use Rattle.commitlog.proofs.encoding.replies_length.Given as goal

abbrev pub invariant-loop-reply : goal.invariant-loop-reply
invariant-loop-reply g l = record {
  counted : l.total + length (flat_map reply_bytes (drop l.reply-index l.replies)) ≡ length (flat_map reply_bytes l.replies);
  fits : AllByRecursion (IsReply Two) (drop l.reply-index l.replies) → AllByRecursion (IsReply Two) l.replies;
  most : l.total ≤ l.reply-index * 65538;
}
