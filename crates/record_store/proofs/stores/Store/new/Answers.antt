use Rattle.std.proofs.Common.{List, Option, ap, refl}
use Rattle.procedure.specs.Bytes.{Bytes}
use Rattle.record_store.specs.DeadKeys.{offer_at}
use Rattle.record_store.proofs.Making.{new_sound}
use Rattle.record_store.proofs.stores.Store.new.Goals as goal

pub invariant_of-result : goal.invariant_of-result
invariant_of-result g c =
    new_sound record { slots = c.new.result; records = 0; vacant = c.new-2.result; index = c.new-3.result; dead = c.new-4.result; number = 1 } c.new.ensures refl c.new-2.ensures.items
    c.new-3.ensures.empty (λ i. ap (λ (d : List (Option Bytes)). offer_at d i) c.new-4.ensures) refl
