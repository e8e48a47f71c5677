-- Facts about a result that is a refusal.
use Rattle.std.proofs.Common.{◌≡◌, Ok, Err, sym, subst}
use Rattle.std.specs.Result.{IsErrAnd}
use Rattle.std.specs.declared.result.Result.{Result}

-- what holds of a refusal holds of a result that is this refusal
pub err_of : {T E : Type 0} (P : Result T E → Type 0) (r : Result T E) (e : E) → IsErrAnd r (λ y. y ≡ e) → P (Err e) → P r
err_of P (Ok x) e h p = absurd h
err_of P (Err y) e h p = subst (λ z. P (Err z)) (sym h) p

-- what follows of a refusal holds of a result that is such a refusal
pub err_with : {T E : Type 0} (P : Result T E → Type 0) (Q : E → Type 0) → ((y : E) → Q y → P (Err y)) → (r : Result T E) → IsErrAnd r Q → P r
err_with P Q f (Ok x) h = absurd h
err_with P Q f (Err y) h = f y h
