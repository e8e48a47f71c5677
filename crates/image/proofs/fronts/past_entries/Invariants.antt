use Rattle.std.proofs.Common.{◌≡◌, ◌-◌}
use Rattle.image.specs.Fronts.{behind, entries_at}
use Rattle.image.proofs.fronts.past_entries.Given as goal

-- what stands behind those that are left stands behind all
abbrev pub invariant-loop : goal.invariant-loop
invariant-loop l = behind (entries_at (l.count - l.counter) l.rest) ≡ behind (entries_at l.fn.count l.fn.bytes)
