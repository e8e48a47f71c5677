use Rattle.std.proofs.Common.{◌≡◌, ◌∙◌, ◌++◌, ◌∷◌, [], ℕ, List, None, sym, ap, subst}
use Rattle.std.specs.FinMap as map
use Rattle.std.specs.List.{All}
use Rattle.std.proofs.lemmas.List.Elements.{All-push, All-same}
use Rattle.procedure.specs.Bytes.{Bytes}
use Rattle.calcdb.specs.Commands.{Names, is_name}
use Rattle.calcdb.specs.inside.Listings.{IsListed}
use Rattle.calcdb.proofs.Listings.{absent, all_kept, new_listed}
use Rattle.calcdb.proofs.names.Names.insert.Goals as goal

pub invariant_of-self-then-is_name : goal.invariant_of-self-then-is_name
invariant_of-self-then-is_name g c =
    let names : Names = c.self.inside.procedures in
    let list : List (Bytes × ℕ) = c.self.inside.list.items in
    let more : Names = map.insert names c.args.name c.args.procedure in
    let new : map.get names c.args.name ≡ None = sym c.in_ok-insert.ensures.before ∙ absent c.in_ok-insert.field-0 c.if-is_some.ensures in
    let named = sym (c.if-is_name.ensures ∙ ap (λ (b : Bytes). is_name b) c.as_bytes.ensures.value) in
    let is : c.push_reserved.new.self.items ≡ list ++ (c.args.name, c.args.procedure) ∷ [] =
    c.push_reserved.ensures.items ∙ ap (λ (l : List (Bytes × ℕ)). l ++ (c.args.name, c.new-listed.result) ∷ []) c.reserve.ensures.items
    ∙ ap (λ (n : ℕ). list ++ (c.args.name, n) ∷ []) (c.new-listed.ensures ∙ c.number.ensures) in
    subst (λ (x : Names). All (IsListed x) c.push_reserved.new.self.items) (sym c.in_ok-insert.ensures.ok)
    (All-same (IsListed more) _ _ is (All-push (IsListed more) list (c.args.name, c.args.procedure) (all_kept names c.args.name c.args.procedure new list c.self.invariant) (new_listed names c.args.name c.args.procedure named)))

pub invariant_of-self-else-is_name : goal.invariant_of-self-else-is_name
invariant_of-self-else-is_name g c =
    let names : Names = c.self.inside.procedures in
    let list : List (Bytes × ℕ) = c.self.inside.list.items in
    let more : Names = map.insert names c.args.name c.args.procedure in
    let new : map.get names c.args.name ≡ None = sym c.in_ok-insert.ensures.before ∙ absent c.in_ok-insert.field-0 c.if-is_some.ensures in
    subst (λ (x : Names). All (IsListed x) c.reserve.new.self.items) (sym c.in_ok-insert.ensures.ok)
    (All-same (IsListed more) _ _ c.reserve.ensures.items (all_kept names c.args.name c.args.procedure new list c.self.invariant))
