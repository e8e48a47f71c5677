use Rattle.std.proofs.Common.{rules}
use Rattle.std.proofs.lemmas.Fn.{always_returns_same}
use Rattle.std.proofs.lemmas.List.Sorted.{ranks_by}
use Rattle.std.specs.Cmp.Lexicographic.{nat_list_cmp_total}
use Rattle.std.specs.Ordering.{is_lt}
use Rattle.procedure.specs.Bytes.{Bytes}
use Rattle.procedure.proofs.Maps.{by_bytes}
use Rattle.procedure.proofs.tables.sort_by_keys.Goals as goal

-- the closure compares by the keys
pub returns-clause-in_order : goal.returns-clause-in_order
returns-clause-in_order g c =
    c.sort_unstable_by.ensures.sorted (λ d e. is_lt (by_bytes d.0 e.0)) (ranks_by nat_list_cmp_total (λ (e : Bytes × g.row.V.Denot). e.0))
    (always_returns_same _ _ _ (λ a r f called. (search rules, search rules)))
