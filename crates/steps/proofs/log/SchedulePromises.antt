-- What holds of every schedule, in the words of the log.
use Rattle.std.proofs.Common.{◌≡◌, ℕ, Bool, true, false, cond, List, [], ◌∷◌, ◌++◌, reverse, Some, None, refl, sym, ap, ◌∙◌, subst, ◌⊎◌, inl, inr}
use Rattle.procedure.specs.Bytes.{Cell}
use Rattle.procedure.specs.Table.{Table, value_at}
use Rattle.procedure.specs.Procedures.{Procedure}
use Rattle.image.specs.declared.images.Kind.TheVariants.{Partial}
use Rattle.commitlog.specs.Records.{Record, Token, Call}
use Rattle.commitlog.specs.Cuts as cuts
use Rattle.commitlog.proofs.Finished.{base_has_cut}
use Rattle.steps.specs.machine.NewestFirst.{IsCyclicHistory, history_resolves, before, at, since, history_last_finished, MachineImage, IsFull, IsPartial}
use Rattle.steps.specs.machine.Machine.{State, Runs, initial}
use Rattle.steps.specs.machine.Invariant.{IsFinishedImage}
use Rattle.steps.specs.Drives.{calls_of}
use Rattle.steps.specs.machine.ScheduleAnswers.{Among, AllAmong, last_machine_number}
use Rattle.steps.specs.Promises.{log_of, machine_plain, IsOneHistory, ImagesAreCuts, AllSchedules}
use Rattle.steps.proofs.log.OldestFirst.{reverse_push, legal-reverse, orderly-reverse, cyclic-reverse, last_finished-reverse}
use Rattle.steps.proofs.log.Cuts.{HasPlace, cut-reverse, cut-none, front-reverse, at_cut-reverse, written-reverse, resolves-stands, stands-resolves}
use Rattle.steps.proofs.machine.ScheduleInvariant.{history, checkpoints, images_here, taken, before_zero}

-- the calls of a log
pub calls_of-append : (l m : List Record) → calls_of (l ++ m) ≡ calls_of l ++ calls_of m
calls_of-append [] m = refl
calls_of-append (Token p n ∷ l) m = calls_of-append l m
calls_of-append (Call s n p args o r ∷ l) m = ap (λ x. Call s n p args o r ∷ x) (calls_of-append l m)

calls_of-reverse : (h : List Record) → calls_of (reverse h) ≡ reverse (calls_of h)
calls_of-reverse [] = refl
calls_of-reverse (Token p n ∷ h) = ap calls_of (reverse_push (Token p n) h) ∙ calls_of-append (reverse h) (Token p n ∷ []) ∙ no_more (calls_of (reverse h)) ∙ calls_of-reverse h
  where
    no_more : (l : List Record) → l ++ [] ≡ l
    no_more [] = refl
    no_more (x ∷ l) = ap (λ k. x ∷ k) (no_more l)
calls_of-reverse (Call s n p args o r ∷ h) =
    ap calls_of (reverse_push (Call s n p args o r) h) ∙ calls_of-append (reverse h) (Call s n p args o r ∷ [])
    ∙ ap (λ l. l ++ (Call s n p args o r ∷ [])) (calls_of-reverse h) ∙ sym (reverse_push (Call s n p args o r) (calls_of h))

-- a checkpoint with a cut has its place
pub has_place : (n : ℕ) (h : List Record) → IsCyclicHistory h → (n ≡ 0) ⊎ history_resolves n h → HasPlace n h
has_place n h c (inl e) = subst (λ k. HasPlace k h) (sym e) (cut-none h (before_zero h c))
has_place n h c (inr x) = cut-reverse n h c x

-- a cut of the log is one of the machine's history
pub stood : (n : ℕ) (h : List Record) → cuts.HasCut (reverse h) n → (n ≡ 0) ⊎ history_resolves n h
stood n h (inl e) = inl e
stood n h (inr x) = inr (stands-resolves n h x)

module _ (c : List Procedure) (t : Table) (w : State) (r : Runs (initial c t) w) where
  cyc : IsCyclicHistory w.log
  cyc = (history c t w r).cyclic

  taken_here : (i : MachineImage) → Among i w.images → IsFinishedImage c t w.log w.finished i
  taken_here i a = taken c t w.log w.finished i w.images a (images_here c t w r)

  place_here : (i : MachineImage) → Among i w.images → HasPlace i.number w.log
  place_here i a = cut-reverse i.number w.log cyc (taken_here i a).resolved

  table_here : (i : MachineImage) → Among i w.images → cuts.at_cut c t (log_of w) i.number ≡ at c t i.number w.log
  table_here i a = at_cut-reverse c t i.number w.log (place_here i a)

  full_here : (i : MachineImage) → Among i w.images → IsFull c t (before i.number w.log) i → cuts.IsFullImage c t (log_of w) (machine_plain i)
  full_here i a x =
      record {
        base = x.base;
        place = x.place ∙ sym (place_here i a);
        entries = λ q. x.entries q ∙ ap (λ (u : Table). cuts.in_full (value_at u q)) (sym (table_here i a));
      }

  in_partial : (b : Bool) (x : Cell) → cond b (Some x) None ≡ cuts.in_partial b x
  in_partial true x = refl
  in_partial false x = refl

  base_here : (i : MachineImage) → Among i w.images → IsPartial c t (before i.number w.log) i → i.base ≡ cuts.finished_below (log_of w) i.number
  base_here i a x = x.base ∙ sym (last_finished-reverse (before i.number w.log)) ∙ ap cuts.last_finished (sym (front-reverse i.number w.log (place_here i a)))

  base_place : (i : MachineImage) → Among i w.images → IsPartial c t (before i.number w.log) i → HasPlace i.base w.log
  base_place i a x =
      has_place i.base w.log cyc
      (stood i.base w.log (subst (cuts.HasCut (log_of w)) (sym (base_here i a x))
      (base_has_cut (log_of w) (cyclic-reverse w.log cyc) i.number (inr (resolves-stands i.number w.log (taken_here i a).resolved)))))

  partial_here : (i : MachineImage) → Among i w.images → i.kind ≡ Partial → IsPartial c t (before i.number w.log) i → cuts.IsPartialImage c t (log_of w) (machine_plain i)
  partial_here i a k x =
      record {
        base = base_here i a x;
        place = x.place ∙ sym (place_here i a);
        entries = λ q.
            x.entries q
            ∙ in_partial (since c t (history_last_finished (before i.number w.log)) (before i.number w.log) q) (value_at (at c t i.number w.log) q)
            ∙ ap (λ n. cuts.in_partial (since c t n (before i.number w.log) q) (value_at (at c t i.number w.log) q)) (sym x.base)
            ∙ ap (λ b. cuts.in_partial b (value_at (at c t i.number w.log) q)) (sym (written-reverse c t i.base i.number w.log q (base_place i a x) (place_here i a) ((taken_here i a).inner k)))
            ∙ ap (λ (u : Table). cuts.in_partial (cuts.written c t (log_of w) (cuts.cut (log_of w) i.base) (cuts.cut (log_of w) i.number) q) (value_at u q)) (sym (table_here i a));
      }

  zero_here : cuts.at_cut c t (log_of w) 0 ≡ at c t 0 w.log
  zero_here = at_cut-reverse c t 0 w.log (cut-none w.log (before_zero w.log cyc))

  last_here :
      (n : ℕ) → cuts.at_cut c t (log_of w) n ≡ at c t n w.log → (ps : List MachineImage) → AllAmong ps w.images →
      cuts.at_cut c t (log_of w) (last_machine_number n ps) ≡ at c t (last_machine_number n ps) w.log
  last_here n e [] a = e
  last_here n e (p ∷ ps) a = last_here p.number (table_here p a.0) ps a.1

  one_history : IsOneHistory c t w r
  one_history =
      record {
        legal = legal-reverse c t w.log (history c t w r).legal;
        orderly = orderly-reverse w.log (history c t w r).orderly;
        cyclic = cyclic-reverse w.log cyc;
        once = calls_of-reverse w.log ∙ ap reverse (history c t w r).once;
        begun = (history c t w r).begun;
      }

  images_are_cuts : ImagesAreCuts c t w
  images_are_cuts =
      record {
        has_cut = λ i a. inr (resolves-stands i.number w.log (taken_here i a).resolved);
        full = λ i a k. full_here i a ((checkpoints c t w r).full i a k);
        partial = λ i a k. partial_here i a k ((checkpoints c t w r).partial i a k);
        opening_chain = λ ps a x. (checkpoints c t w r).opening_chain ps a x ∙ sym (last_here 0 zero_here ps a);
        chain = λ i ai k ps a x. (checkpoints c t w r).chain i ai k ps a x ∙ sym (last_here i.number (table_here i ai) ps a);
      }

pub all_schedules : AllSchedules
all_schedules c t w r = (one_history c t w r, images_are_cuts c t w r)
