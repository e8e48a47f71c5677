-- A full image holds the table at its cut, and a partial one leads there from that at its base's cut.
use Rattle.std.proofs.Common.{◌≡◌, ℕ, ◌≤◌, Bool, true, false, List, [], ◌∷◌, take, Option, Some, None, refl, sym, ap, ◌∙◌, subst, is_some}
use Rattle.std.specs.Prelude.{slice_range, ◌||◌}
use Rattle.procedure.specs.Bytes.{Bytes, Cell}
use Rattle.procedure.specs.Table.{Table, change_at, changed_or, merged, no_table, value_at}
use Rattle.procedure.specs.Procedures.{Instruction, Procedure}
use Rattle.procedure.specs.Runs.{committed, whole}
use Rattle.procedure.specs.Copies.{run}
use Rattle.procedure.proofs.Base.{same_table, value_at-merged, value_at-no_table}
use Rattle.procedure.proofs.Copies.{whole_is_run}
use Rattle.commitlog.specs.Records.{Record, Token, Call}
use Rattle.commitlog.specs.Histories.{IsCyclic, after, code_of, table_after}
use Rattle.commitlog.specs.Cuts.{CutImage, IsFullImage, IsPartialImage, at_cut, cut, in_full, in_partial, writes, written, written_from}
use Rattle.commitlog.proofs.Histories.{after-append}
use Rattle.commitlog.proofs.Lists.{take_and_range}
use Rattle.commitlog.proofs.Finished.{base_is_before}

-- ---- what isn't written stays

left_false : (a b : Bool) → (a || b) ≡ false → a ≡ false
left_false true b e = e
left_false false b e = refl

right_false : (a b : Bool) → (a || b) ≡ false → b ≡ false
right_false true b e = absurd (cc)
right_false false b e = e

not_some : {X : Type 0} (o : Option X) → is_some o ≡ false → o ≡ None
not_some None e = refl
not_some (Some x) e = absurd (cc)

run_unwritten : (code : List Instruction) (args : List Bytes) (t : Table) (q : Bytes) → (run code args t).written q ≡ false → value_at (run code args t).table q ≡ value_at t q
run_unwritten code args t q h =
    let w = whole_is_run code args t in
    let c = committed (whole code args t) in
    let none : change_at c q ≡ None = not_some (change_at c q) (w.written q ∙ h) in
    ap (λ (u : Table). value_at u q) (sym w.table) ∙ value_at-merged t c q ∙ ap (λ (o : Option Cell). changed_or o (value_at t q)) none

record_unwritten : (c : List Procedure) (t : Table) (r : Record) (q : Bytes) → writes c t r q ≡ false → value_at (table_after c t r) q ≡ value_at t q
record_unwritten c t (Token p n) q h = refl
record_unwritten c t (Call s n p args o r) q h = run_unwritten (code_of c p) args t q h

unwritten : (c : List Procedure) (t : Table) (l : List Record) (q : Bytes) → written_from c t l q ≡ false → value_at (after c t l) q ≡ value_at t q
unfolding written_from after
unwritten c t [] q h = refl
unwritten c t (r ∷ l) q h =
    unwritten c (table_after c t r) l q (right_false (writes c t r q) (written_from c (table_after c t r) l q) h)
    ∙ record_unwritten c t r q (left_false (writes c t r q) (written_from c (table_after c t r) l q) h)

unwritten_between : (c : List Procedure) (t : Table) (l : List Record) (i j : ℕ) (q : Bytes) → i ≤ j → written c t l i j q ≡ false →
    value_at (after c t (take j l)) q ≡ value_at (after c t (take i l)) q
unwritten_between c t l i j q le h =
    ap (λ (k : List Record). value_at (after c t k) q) (sym (take_and_range l i j le))
    ∙ ap (λ (u : Table). value_at u q) (after-append c t (take i l) (slice_range l i j))
    ∙ unwritten c (after c t (take i l)) (slice_range l i j) q h

-- ---- the tables

full_or_none : (x : Cell) → changed_or (in_full x) None ≡ x
full_or_none None = refl
full_or_none (Some v) = refl

module _ (c : List Procedure) (t : Table) (l : List Record) (i : CutImage) where
  pub full_is_cut : IsFullImage c t l i → merged no_table i.entries ≡ at_cut c t l i.number
  full_is_cut f =
      same_table (merged no_table i.entries) (at_cut c t l i.number) (λ q.
      value_at-merged no_table i.entries q
      ∙ ap (changed_or (change_at i.entries q)) (value_at-no_table q)
      ∙ ap (λ (o : Option Cell). changed_or o None) (f.entries q)
      ∙ full_or_none (value_at (at_cut c t l i.number) q))

  pub partial_is_cut : IsCyclic l → IsPartialImage c t l i → merged (at_cut c t l i.base) i.entries ≡ at_cut c t l i.number
  partial_is_cut cyclic f =
      same_table (merged (at_cut c t l i.base) i.entries) (at_cut c t l i.number) (λ q.
      value_at-merged (at_cut c t l i.base) i.entries q
      ∙ ap (λ (o : Option Cell). changed_or o (value_at (at_cut c t l i.base) q)) (f.entries q)
      ∙ by q (written c t l (cut l i.base) (cut l i.number) q) refl)
    where
      before : cut l i.base ≤ cut l i.number
      before = subst (λ b. cut l b ≤ cut l i.number) (sym f.base) (base_is_before l cyclic i.number)

      by : (q : Bytes) (w : Bool) → written c t l (cut l i.base) (cut l i.number) q ≡ w →
          changed_or (in_partial w (value_at (at_cut c t l i.number) q)) (value_at (at_cut c t l i.base) q) ≡ value_at (at_cut c t l i.number) q
      by q true e = refl
      by q false e = sym (unwritten_between c t l (cut l i.base) (cut l i.number) q before e)
