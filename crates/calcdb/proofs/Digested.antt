-- A hasher beside a writer.
use Rattle.std.proofs.Common.{◌≡◌, ◌++◌, List, ℕ, Option, Some, None, sym, subst}
use Rattle.std.specs.Prelude.{IfSome}
use Rattle.std.specs.Io.KnownBytes.{Appends, Keeps}

-- what is known of a writer stays known, and what isn't doesn't become so
module _ (P Q : List ℕ → Type 0) (old new : Option (List ℕ)) (unknown : old ≡ None → new ≡ None) where
  pub kept : (o : Option (List ℕ)) → o ≡ old → (n : Option (List ℕ)) → n ≡ new → ((m : List ℕ) → P m → Q m) → Keeps o n → IfSome o P → IfSome n Q
  kept None is None now weaker keeps holds = tt
  kept None is (Some ys) now weaker keeps holds = absurd (let none : new ≡ None = unknown (sym is) in cc)
  kept (Some xs) is None now weaker keeps holds = absurd keeps
  kept (Some xs) is (Some ys) now weaker keeps holds = subst Q (sym keeps) (weaker xs holds)

  pub appended : (bytes : List ℕ) (o : Option (List ℕ)) → o ≡ old → (n : Option (List ℕ)) → n ≡ new → ((m : List ℕ) → P m → Q (m ++ bytes)) → Appends o n bytes → IfSome o P → IfSome n Q
  appended bytes None is None now more out holds = tt
  appended bytes None is (Some ys) now more out holds = absurd (let none : new ≡ None = unknown (sym is) in cc)
  appended bytes (Some xs) is None now more out holds = absurd out
  appended bytes (Some xs) is (Some ys) now more out holds = subst Q (sym out) (more xs holds)
