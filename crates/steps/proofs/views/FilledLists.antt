-- A list that is filled with one element for each session.
use Rattle.std.proofs.Common.{◌≡◌, ◌<◌, ◌≤◌, ℕ, ◌+◌, List, [], ◌∷◌, ◌++◌, length, replicate, ap, subst, sym, ◌∙◌, arith}
use Rattle.std.proofs.lemmas.List.{length-replicate, replicate_more}
use Rattle.procedure.specs.declared.limits.TheConstants.{SESSIONS}

module _ {X : Type 0} (items : List X) (x : X) (i : ℕ) (so_far : items ≡ replicate i x) where
  pub filled_all : SESSIONS ≤ i → i ≤ SESSIONS → items ≡ replicate SESSIONS x
  filled_all past within =
      let end : i ≡ SESSIONS = omega arith in
      subst (λ n. items ≡ replicate n x) end so_far

  pub filled_more : (after : List X) → after ≡ items ++ x ∷ [] → after ≡ replicate (i + 1) x
  filled_more after pushed = pushed ∙ ap (λ l. l ++ x ∷ []) so_far ∙ replicate_more i x

  pub filled_room : (len cap : ℕ) → len ≡ length items → i < SESSIONS → SESSIONS ≤ cap → len < cap
  filled_room len cap is below room = omega (arith, ap length so_far, length-replicate i x)

pub same_room : (before after : ℕ) → after ≡ before → SESSIONS ≤ before → SESSIONS ≤ after
same_room before after same room = subst (λ n. SESSIONS ≤ n) (sym same) room
