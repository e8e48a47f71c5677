-- Chains of images: which is the last, what some of them say, and when they are a chain.
use Rattle.std.proofs.Common.{◌≡◌, ℕ, zero, suc, ◌+◌, ◌-◌, Bool, true, false, List, [], ◌∷◌, ◌++◌, length, Option, Some, None, slice_get, refl, sym, ap, ◌∙◌, subst, arith}
use Rattle.std.specs.Option.{option_or}
use Rattle.std.specs.FinMap.{find}
use Rattle.std.specs.Prelude.{◌==◌}
use Rattle.std.proofs.lemmas.Bool.{eqb-true}
use Rattle.procedure.specs.Bytes.{Bytes, Cell}
use Rattle.image.specs.Images.{Entry, Image, Rises}
use Rattle.image.specs.Joins.{Say, later_of, said_by}
use Rattle.image.specs.Merges.{Refusal, unless, is_full, is_partial, links_refusal, chain_refusal, last_of, AreChained, IsChain}
use Rattle.image.specs.declared.images.Kind.{Kind}
use Rattle.image.specs.declared.images.Kind.TheVariants.{Full, Partial}
use Rattle.image.specs.declared.merges.MergeError.{MergeError}
use Rattle.image.proofs.Rising.{by_bytes}
use Rattle.image.proofs.Joins.{or_none}

last_index : (i : Image) (ps : List Image) (x : Image) (n : ℕ) → n + 1 ≡ length ps → slice_get ps n ≡ Some x → x ≡ last_of i ps
last_index i [] x n h e = absurd (omega arith)
last_index i (p ∷ []) x zero h e = cc
last_index i (p ∷ r ∷ rs) x zero h e = absurd (omega arith)
last_index i (p ∷ []) x (suc n) h e = absurd (omega arith)
last_index i (p ∷ r ∷ rs) x (suc n) h e = last_index p (r ∷ rs) x n (omega arith) e

-- the last image, where a slice gives it
pub last_at : (i : Image) (ps : List Image) (x : Image) → slice_get ps (length ps - 1) ≡ Some x → x ≡ last_of i ps
last_at i [] x e = absurd (cc)
last_at i (p ∷ ps) x e = last_index i (p ∷ ps) x (length (p ∷ ps) - 1) (omega arith) e

or_or : (a b c : Option Cell) → option_or (option_or a b) c ≡ option_or a (option_or b c)
or_or None b c = refl
or_or (Some x) b c = refl

said_by-append : (is js : List Image) (q : Bytes) → said_by (is ++ js) q ≡ option_or (said_by js q) (said_by is q)
said_by-append [] js q = sym (or_none (said_by js q))
said_by-append (i ∷ is) js q =
    ap (λ o. option_or o (find by_bytes q i.entries)) (said_by-append is js q)
    ∙ or_or (said_by js q) (said_by is q) (find by_bytes q i.entries)

none_left : {X : Type 0} (es : List X) → (length es == 0) ≡ true → es ≡ []
none_left [] h = refl
none_left (e ∷ es) h = absurd (omega (arith, eqb-true (length (e ∷ es)) 0 h))

pub says_one : (is rest : List Image) (i : Image) (es : List Entry) → is ≡ i ∷ rest → (length rest == 0) ≡ true → Rises i.entries → es ≡ i.entries → Say (said_by is) es
says_one is rest i es whole none rises same =
    subst (λ js. Say (said_by js) es) (sym (whole ∙ ap (λ r. i ∷ r) (none_left rest none))) (subst (Say (said_by (i ∷ []))) (sym same) (record { rises = rises; finds = λ q. refl }))

pub says_two : (is first second : List Image) (older newer es : List Entry) → is ≡ first ++ second → Say (said_by first) older → Say (said_by second) newer → Say (later_of older newer) es →
    Say (said_by is) es
says_two is first second older newer es whole one two both = record {
  rises = both.rises;
  finds = λ q.
      both.finds q
      ∙ (λ k. option_or (two.finds q k) (one.finds q k))
      ∙ sym (said_by-append first second q)
      ∙ ap (λ js. said_by js q) (sym whole);
}

-- two refusals
first_none : (a b : Refusal) → option_or a b ≡ None → a ≡ None
first_none None b h = refl
first_none (Some e) b h = h

second_none : (a b : Refusal) → option_or a b ≡ None → b ≡ None
second_none None b h = h
second_none (Some e) b h = absurd (cc)

passes : (b : Bool) (e : MergeError) → unless b e ≡ None → b ≡ true
passes true e h = refl
passes false e h = absurd (cc)

partial_kind : (k : Kind) → is_partial k ≡ true → k ≡ Partial
partial_kind Full h = absurd (cc)
partial_kind Partial h = refl

full_kind : (k : Kind) → is_full k ≡ true → k ≡ Full
full_kind Full h = refl
full_kind Partial h = absurd (cc)

stand_on : (i number : ℕ) (ps : List Image) → links_refusal i number ps ≡ None → AreChained number ps
stand_on i number [] h = tt
stand_on i number (p ∷ ps) h =
    let links = second_none _ _ h in (
      partial_kind p.kind (passes _ _ (first_none _ _ h)),
      eqb-true p.base number (passes _ _ (first_none _ _ links)),
      stand_on (i + 1) p.number ps (second_none _ _ links),
    )

pub is_chain : (full : Image) (ps : List Image) → chain_refusal full ps ≡ None → IsChain full ps
is_chain full ps h =
    let rest = second_none _ _ h in
    record { full_first = full_kind full.kind (passes _ _ (first_none _ _ rest)); partials = stand_on 0 full.number ps (second_none _ _ rest) }
