-- What an offer that stays is.
use Rattle.std.proofs.Common.{◌≡◌, Bool, true, false, not, Option, Some, None, is_some, IsSome, IsTrue, refl, sym, ap}
use Rattle.procedure.specs.Bytes.{Bytes}
use Rattle.record_store.specs.DeadKeys.{SameKey}
use Rattle.std.proofs.lemmas.Bool.{false≢true}
use mathlib.Core.Bool.{beq}

pub same_offer : (x y : Option Bytes) (p q : Bool) → p ≡ is_some y → (IsTrue q → IsSome x) → (IsSome x → IsTrue q) → not (beq p q) ≡ false → SameKey x y → x ≡ y
same_offer None None p q a b c d e = refl
same_offer (Some k) (Some l) p q a b c d e = ap (λ (x : Bytes). Some x) (sym (e k l refl refl))
same_offer None (Some l) true true a b c d e = absurd (false≢true (b refl))
same_offer None (Some l) true false a b c d e = absurd (cc)
same_offer None (Some l) false q a b c d e = absurd (cc)
same_offer (Some k) None true q a b c d e = absurd (cc)
same_offer (Some k) None false true a b c d e = absurd (cc)
same_offer (Some k) None false false a b c d e = absurd (false≢true (c refl))

-- two tests that don't differ
pub not_other : (p q : Bool) → not (beq p q) ≡ false → p ≡ q
not_other true true h = refl
not_other true false h = absurd (cc)
not_other false true h = absurd (cc)
not_other false false h = refl
