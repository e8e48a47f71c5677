use Rattle.std.proofs.Common.{◌≡◌, drop}
use Rattle.image.specs.Headers.{linked_all, chain_digest}
use Rattle.image.proofs.headers.chain_of.Given as goal

-- the digest so far, with the entries that are left, is that of all
abbrev pub invariant-loop-entry : goal.invariant-loop-entry
invariant-loop-entry g l = linked_all l.chain (drop l.entry-index l.entries) ≡ chain_digest l.entries
