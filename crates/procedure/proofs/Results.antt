-- Facts about a result of which only the outcome is known.
use Rattle.std.proofs.Common.{IfOk, OnOk, OnErr, Ok, Err}
use Rattle.std.specs.declared.result.Result.{Result}

-- a fact that holds at either outcome
pub on_err : {T E : Type 0} {P : Type 0} (r : Result T E) → P → OnErr r P
on_err (Ok x) p = tt
on_err (Err e) p = p

-- what follows of a value follows where there is one
pub if_ok : {T E : Type 0} (P Q : T → Type 0) → ((x : T) → P x → Q x) → (r : Result T E) → IfOk r P → IfOk r Q
if_ok P Q f (Ok x) p = f x p
if_ok P Q f (Err e) p = tt

pub if_done : {T E : Type 0} {P Q : Type 0} → (P → Q) → (r : Result T E) → OnOk r P → OnOk r Q
if_done f (Ok x) p = f p
if_done f (Err e) p = tt

-- what follows of a refusal follows where there is one
pub if_refused : {T E : Type 0} {P Q : Type 0} → (P → Q) → (r : Result T E) → OnErr r P → OnErr r Q
if_refused f (Ok x) p = tt
if_refused f (Err e) p = f p
