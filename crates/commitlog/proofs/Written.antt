-- The keys written between places.
use Rattle.std.proofs.Common.{◌≡◌, ℕ, ◌≤◌, Bool, true, false, ◌||◌, List, [], ◌∷◌, ◌++◌, take, refl, sym, ap, ◌∙◌}
use Rattle.std.specs.Prelude.{slice_range}
use Rattle.procedure.specs.Bytes.{Bytes}
use Rattle.procedure.specs.Table.{Table}
use Rattle.procedure.specs.Procedures.{Procedure}
use Rattle.commitlog.specs.Records.{Record}
use Rattle.commitlog.specs.Histories.{after, table_after}
use Rattle.commitlog.specs.Cuts.{writes, written_from, written}
use Rattle.commitlog.proofs.Lists.{take_and_range, ranges_join}
use Rattle.commitlog.proofs.Histories.{after-append}

or-assoc : (x y z : Bool) → (x || (y || z)) ≡ ((x || y) || z)
or-assoc true y z = refl
or-assoc false y z = refl

pub written_from-append : (c : List Procedure) (t : Table) (l m : List Record) (q : Bytes) → written_from c t (l ++ m) q ≡ (written_from c t l q || written_from c (after c t l) m q)
unfolding written_from after
written_from-append c t [] m q = refl
written_from-append c t (r ∷ l) m q =
    ap (λ b. writes c t r q || b) (written_from-append c (table_after c t r) l m q)
    ∙ or-assoc (writes c t r q) _ _

pub written_joins : (c : List Procedure) (t : Table) (l : List Record) (i j k : ℕ) (q : Bytes) → i ≤ j → j ≤ k → written c t l i k q ≡ (written c t l i j q || written c t l j k q)
written_joins c t l i j k q a b =
    ap (λ m. written_from c (after c t (take i l)) m q) (ranges_join l i j k a b)
    ∙ written_from-append c (after c t (take i l)) (slice_range l i j) (slice_range l j k) q
    ∙ ap (λ u. written c t l i j q || written_from c u (slice_range l j k) q)
    (sym (after-append c t (take i l) (slice_range l i j)) ∙ ap (after c t) (take_and_range l i j a))
