-- A command that is put behind others, its call behind theirs.
use Rattle.std.proofs.Common.{◌≡◌, ◌+◌, List, [], ◌∷◌, ◌++◌, length, Option, Some, None, IsSome, refl, sym, ap, ◌∙◌, arith}
use Rattle.std.proofs.lemmas.List.{append-nil, length-append}
use Rattle.procedure.specs.Bytes.{Bytes}
use Rattle.calcdb.specs.declared.command_queue.Head.{Head}
use Rattle.calcdb.specs.declared.commands.Command.{Command}
use Rattle.calcdb.specs.declared.commands.NewCall.{NewCall}
use Rattle.calcdb.specs.inside.Queues.{beginning, calls_of, joined, one_unless, plain, put_first}

abbrev Calls : Type 0
Calls = List (NewCall (List Bytes))

-- the commands of heads, with one head more, whose call is among these
abbrev Adds : List Head → Head → Calls → Calls → Type 0
Adds hs h ds cs = joined (hs ++ h ∷ []) (cs ++ ds) ≡ joined hs cs ++ joined (h ∷ []) ds

put_more : (hs : List Head) (h : Head) (ds : Calls) (p : Option (Command (List Bytes))) (b : NewCall (List Bytes) → Command (List Bytes)) (cs : Calls) → one_unless p + calls_of hs ≡ length cs →
    ((cs : Calls) → calls_of hs ≡ length cs → Adds hs h ds cs) → put_first p b (cs ++ ds) (joined (hs ++ h ∷ [])) ≡ put_first p b cs (joined hs) ++ joined (h ∷ []) ds
put_more hs h ds (Some c) b cs e rest = ap (λ (l : List (Command (List Bytes))). c ∷ l) (rest cs (omega (arith, e)))
put_more hs h ds None b [] e rest = let none : ⊥ = omega (arith, e) in absurd none
put_more hs h ds None b (d ∷ cs) e rest = ap (λ (l : List (Command (List Bytes))). b d ∷ l) (rest cs (omega (arith, e)))

joined_more : (hs : List Head) (cs : Calls) (h : Head) (ds : Calls) → calls_of hs ≡ length cs → Adds hs h ds cs
joined_more [] [] h ds e = refl
joined_more [] (c ∷ cs) h ds e = let none : ⊥ = omega (arith, e) in absurd none
joined_more (x ∷ hs) cs h ds e = put_more hs h ds (plain x) (beginning x) cs e (λ cs e. joined_more hs cs h ds e)

count_more : (hs : List Head) (h : Head) → calls_of (hs ++ h ∷ []) ≡ calls_of hs + one_unless (plain h)
count_more [] h = omega arith
count_more (x ∷ hs) h = let rest = count_more hs h in omega (arith, rest)

module _ (hs : List Head) (cs : Calls) (h : Head) (counted : calls_of hs ≡ length cs) where
  pub call_behind : (c : NewCall (List Bytes)) → plain h ≡ None → joined (hs ++ h ∷ []) (cs ++ c ∷ []) ≡ joined hs cs ++ beginning h c ∷ []
  call_behind c e = joined_more hs cs h (c ∷ []) counted ∙ ap (λ (p : Option (Command (List Bytes))). joined hs cs ++ put_first p (beginning h) (c ∷ []) (joined [])) e

  pub call_counted : (c : NewCall (List Bytes)) → plain h ≡ None → calls_of (hs ++ h ∷ []) ≡ length (cs ++ c ∷ [])
  call_counted c e =
      let one : one_unless (plain h) ≡ 1 = ap one_unless e in
      let more = count_more hs h in
      let both : length (cs ++ c ∷ []) ≡ length cs + 1 = length-append cs (c ∷ []) in
      omega (arith, one, more, both, counted)

  pub head_behind : (c : Command (List Bytes)) → plain h ≡ Some c → joined (hs ++ h ∷ []) cs ≡ joined hs cs ++ c ∷ []
  head_behind c e =
      ap (λ (l : Calls). joined (hs ++ h ∷ []) l) (sym (append-nil cs))
      ∙ joined_more hs cs h [] counted
      ∙ ap (λ (p : Option (Command (List Bytes))). joined hs cs ++ put_first p (beginning h) [] (joined [])) e

  pub head_counted : IsSome (plain h) → calls_of (hs ++ h ∷ []) ≡ length cs
  head_counted some =
      let none : one_unless (plain h) ≡ 0 = by (plain h) some in
      let more = count_more hs h in
      omega (arith, none, more, counted)
    where
      by : (p : Option (Command (List Bytes))) → IsSome p → one_unless p ≡ 0
      by None h = absurd (cc)
      by (Some c) h = refl
