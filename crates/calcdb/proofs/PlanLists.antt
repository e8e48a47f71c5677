-- The lists of a plan.
use Rattle.std.proofs.Common.{◌≡◌, ℕ, ◌+◌, arith, length, List, [], ◌∷◌, ◌++◌, refl, sym, ap, ◌∙◌}
use Rattle.std.specs.List.{flat_map}
use Rattle.std.proofs.lemmas.Grind.{flat_map-append}
use Rattle.std.proofs.lemmas.List.{append-nil}
use Rattle.procedure.specs.Bytes.{Bytes}
use Rattle.image.specs.declared.images.Kind.{Kind}
use Rattle.calcdb.specs.Plans.{ThreadCommands, call_commands, keys_of, kinds_of}
use Rattle.calcdb.specs.declared.thread_commands.ThreadCommand.{ThreadCommand}
use Rattle.calcdb.specs.declared.thread_commands.ThreadCommand.TheVariants.{Call, Checkpoint, View}

-- each command is a call, a checkpoint or a key
pub sorts : (cs : ThreadCommands) → length cs ≡ length (call_commands cs) + length (kinds_of cs) + length (keys_of cs)
sorts [] = refl
sorts (Call c ∷ cs) = omega (arith, sorts cs)
sorts (Checkpoint k ∷ cs) = omega (arith, sorts cs)
sorts (View key ∷ cs) = omega (arith, sorts cs)

-- what one command more adds
pub one_more : {X : Type 0} (f : ThreadCommand (List Bytes) → List X) (front : ThreadCommands) (d : ThreadCommand (List Bytes)) (old new : List X) → old ≡ flat_map f front → new ≡ old ++ f d →
    new ≡ flat_map f (front ++ d ∷ [])
one_more f front d old new is more = more ∙ ap (λ l. l ++ f d) is ∙ ap (λ l. flat_map f front ++ l) (sym (append-nil (f d))) ∙ sym (flat_map-append f front (d ∷ []))

-- how many calls there are, by how many commands, kinds and keys there are
pub counts : (front all : ThreadCommands) (n k v : ℕ) (kinds : List Kind) (keys : List Bytes) → all ≡ front → n ≡ length all → k ≡ length kinds → v ≡ length keys → kinds ≡ kinds_of front → keys ≡ keys_of front →
    n ≡ length (call_commands all) + k + v
counts front all n k v kinds keys same is_all is_kinds is_keys kinds_are keys_are =
    omega (arith, sorts front, is_all, is_kinds, is_keys, ap (λ l. length l) kinds_are, ap (λ l. length l) keys_are, ap (λ l. length l) same, ap (λ (l : ThreadCommands). length (call_commands l)) same)
