-- The places of a session's answers rise with their numbers.
use Rattle.std.proofs.Common.{◌≡◌, ◌⊎◌, inl, inr, ◌<◌, List, Option, Some, None, refl, sym, ap, ◌∙◌, subst, slice_get, arith}
use Rattle.std.proofs.lemmas.Bool.{cases_order}
use Rattle.commitlog.specs.Histories.{IsOrderly}
use Rattle.commitlog.specs.Laws.{NumbersRise}
use Rattle.commitlog.specs.Records.{Record, Token, Call}
use Rattle.workers.specs.declared.gathering.Claim.{Claim}
use Rattle.workers.specs.Claims.{IsCallIn, IsCallOf, PlacesRise}

some_one : {x y : Record} → Some x ≡ Some y → x ≡ y
some_one {x = x} e = ap (elim [ None ↦ x | Some z ↦ z ]) e

module _ {A : Type 0} where
  found : (c : Claim A) (o : Option Record) → IsCallIn c o → (r : Record) × (o ≡ Some r) × IsCallOf c r
  found c None is = absurd is
  found c (Some r) is = (r, refl, is)

  later : NumbersRise → (l : List Record) → IsOrderly l → (c d : Claim A) (x y : Record) → slice_get l c.answer.place ≡ Some x → slice_get l d.answer.place ≡ Some y → IsCallOf c x → IsCallOf d y → c.session ≡ d.session → c.answer.place < d.answer.place → c.number < d.number
  later rise l order c d (Token p n) y at there is js same before = absurd is
  later rise l order c d (Call s n p a o r) (Token q m) at there is js same before = absurd js
  later rise l order c d (Call s n p a o r) (Call t m q b u v) at there is js same before =
      subst (λ k. k < d.number) is.1 (subst (λ k. n < k) js.1 (rise l order c.answer.place d.answer.place s n m p q a b o u r v before at (subst (λ z. slice_get l d.answer.place ≡ Some (Call z m q b u v)) (js.0 ∙ sym same ∙ sym is.0) there)))

  one : (c d : Claim A) (x y : Record) → x ≡ y → IsCallOf c x → IsCallOf d y → c.number ≡ d.number
  one c d (Token p n) y e is js = absurd is
  one c d (Call s n p a o r) y e is js = sym is.1 ∙ (subst (λ z. IsCallOf d z) (sym e) js).1

  pub places_rise : NumbersRise → PlacesRise A
  places_rise rise l order c d is js same less =
      let x = found c (slice_get l c.answer.place) is in
      let y = found d (slice_get l d.answer.place) js in
      by_order (cases_order c.answer.place d.answer.place) x y
    where
      by_order : (c.answer.place ≡ d.answer.place) ⊎ ((c.answer.place < d.answer.place) ⊎ (d.answer.place < c.answer.place)) →
          (r : Record) × (slice_get l c.answer.place ≡ Some r) × IsCallOf c r → (r : Record) × (slice_get l d.answer.place ≡ Some r) × IsCallOf d r → c.answer.place < d.answer.place
      by_order (inl e) x y = absurd (omega (arith, less, one c d x.0 y.0 (some_one (sym x.1 ∙ ap (λ p. slice_get l p) e ∙ y.1)) x.2 y.2))
      by_order (inr (inl b)) x y = b
      by_order (inr (inr b)) x y = absurd (omega (arith, less, later rise l order d c y.0 x.0 y.1 x.1 y.2 x.2 (sym same) b))
