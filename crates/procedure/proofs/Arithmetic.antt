-- What checked arithmetic answers is what the instructions ask for.
use Rattle.std.proofs.Common.{◌≡◌, ℕ, ◌+◌, ◌-◌, ◌^◌, ◌<◌, ◌≤◌, List, Option, Some, None, refl, ap, arith}
use Rattle.std.specs.Option.{SomeIff}
use Rattle.std.proofs.lemmas.Bool.{lt-ltb, le-ltb, le-leb, lt-leb}
use Rattle.procedure.specs.Bytes.{Cell}
use Rattle.procedure.specs.Procedures.{setting, number_value, adding, subtracting}
use Rattle.procedure.specs.Actions.{number_set}

pub number_set_sum : (registers : List Cell) (r x y : ℕ) (o : Option ℕ) → SomeIff o (x + y < 2 ^ 64) (x + y) → number_set registers r o ≡ adding registers r (Some x) (Some y)
number_set_sum registers r x y None h =
    let above : 2 ^ 64 ≤ x + y = omega arith in
    rw (le-ltb (x + y) (2 ^ 64) above) refl
number_set_sum registers r x y (Some n) h =
    rw (lt-ltb (x + y) (2 ^ 64) h.0) (ap (λ m. setting registers r (number_value m)) h.1)

pub number_set_difference : (registers : List Cell) (r x y : ℕ) (o : Option ℕ) → SomeIff o (y ≤ x) (x - y) → number_set registers r o ≡ subtracting registers r (Some x) (Some y)
number_set_difference registers r x y None h =
    let above : x < y = omega arith in
    rw (lt-leb y x above) refl
number_set_difference registers r x y (Some n) h =
    rw (le-leb y x h.0) (ap (λ m. setting registers r (number_value m)) h.1)
