use Rattle.std.proofs.Common.{refl, ap, ◌∙◌, map, option_map}
use Rattle.record_store.specs.Stores.{Slots, record_at_rest}
use Rattle.record_store.proofs.Fields.{cleaned_sound, cleaned_view, next_view}
use Rattle.record_store.proofs.stores.Store.next_number.Goals as goal

pub invariant_of-self : goal.invariant_of-self
invariant_of-self g c = cleaned_sound c.self.inside (record c.self.inside { slots = c.clean_all.new.slots; number = 1 }) c.self.invariant c.clean_all.ensures refl

pub returns-then-self : goal.returns-then-self
returns-then-self g c =
    cleaned_view c.self.inside (record c.self.inside { slots = c.clean_all.new.slots; number = 1 }) c.self.invariant c.clean_all.ensures refl
    ∙ ap (λ (slots : Slots). map (option_map record_at_rest) slots) c.self.view_is

pub returns-else-self : goal.returns-else-self
returns-else-self g c = next_view c.self.inside c.self.invariant ∙ ap (λ (slots : Slots). map (option_map record_at_rest) slots) c.self.view_is
