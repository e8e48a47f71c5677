-- The logs of cores of which each goes on from the one before.
use Rattle.std.proofs.Common.{◌≡◌, zero, suc, List, [], ◌∷◌, ◌++◌, refl, sym, subst, ap, ◌∙◌}
use Rattle.procedure.specs.Procedures.{Procedure}
use Rattle.procedure.specs.Table.{Table}
use Rattle.commitlog.specs.Histories.{IsAnsweredAfter, IsLegal, after, table_after}
use Rattle.commitlog.specs.Records.{Record, Token, Call}
use Rattle.commitlog.proofs.Histories.{after-append}
use Rattle.image.specs.Merges.{table_of}
use Rattle.steps.specs.CoreViews.{table_now}
use Rattle.steps.specs.Renewals.{RenewalsJoin, logs_of}

module _ (c : List Procedure) where
  -- what is asked of a record after others, where one stands before them
  later : (t : Table) (r x : Record) (l : List Record) → IsAnsweredAfter c (table_after c t r) l x → IsAnsweredAfter c t (r ∷ l) x
  unfolding after
  later t r (Token p n) l h = h
  later t r (Call s n p args o v) l h = h

  earlier : (t : Table) (r x : Record) (l : List Record) → IsAnsweredAfter c t (r ∷ l) x → IsAnsweredAfter c (table_after c t r) l x
  unfolding after
  earlier t r (Token p n) l h = h
  earlier t r (Call s n p args o v) l h = h

  tail_legal : (t : Table) (r : Record) (l : List Record) → IsLegal c t (r ∷ l) → IsLegal c (table_after c t r) l
  tail_legal t r l h = λ i x e. earlier t r x _ (h (suc i) x e)

  cons_legal : (t : Table) (r : Record) (l : List Record) → IsAnsweredAfter c t [] r → IsLegal c (table_after c t r) l → IsLegal c t (r ∷ l)
  cons_legal t r l first rest zero x e = let same : r ≡ x = cc in subst (IsAnsweredAfter c t []) same first
  cons_legal t r l first rest (suc i) x e = later t r x _ (rest i x e)

  join_legal : (t : Table) (l m : List Record) → IsLegal c t l → IsLegal c (after c t l) m → IsLegal c t (l ++ m)
  unfolding after
  join_legal t [] m h k = k
  join_legal t (r ∷ l) m h k = cons_legal t r (l ++ m) (h 0 r refl) (join_legal (table_after c t r) l m (tail_legal t r l h) k)

pub renewals_join : RenewalsJoin
renewals_join v [] (here, rest) renewed = record { legal = here; table = refl }
renewals_join v (w ∷ ws) (here, rest) (catalog, table, renewed) =
    let later = renewals_join w ws rest renewed in
    let c = v.catalog in
    let l = logs_of w ws in
    let after_it : IsLegal c (table_now v) l = subst (λ (x : Table). IsLegal c x l) table (subst (λ (d : List Procedure). IsLegal d (table_of w.opening) l) catalog later.legal) in
    record {
      legal = join_legal c (table_of v.opening) v.log l here after_it;
      table = after-append c (table_of v.opening) v.log l ∙ ap (λ (x : Table). after c x l) (sym table) ∙ ap (λ (d : List Procedure). after d (table_of w.opening) l) (sym catalog) ∙ later.table;
    }
