use Rattle.std.proofs.Common.{◌≡◌, ◌≤◌, ◌∙◌, ℕ, zero, suc, ◌+◌, ◌-◌, Bool, true, false, ◌&&◌, [], ◌∷◌, length, take, drop, refl, sym, ap, arith}
use Rattle.std.proofs.lemmas.List.{drop-drop, take_rest}
use Rattle.procedure.specs.Bytes.{Bytes}
use Rattle.calcdb.specs.Lines.{all_pass, is_allowed}
use Rattle.calcdb.proofs.lines.is_allowed.Goals as goal

abbrev all : Bytes → Bool
all = all_pass is_allowed

and_and : (a b c : Bool) → (a && (b && c)) ≡ ((a && b) && c)
and_and true b c = refl
and_and false b c = refl

and_false : (a : Bool) → (a && false) ≡ false
and_false true = refl
and_false false = refl

-- the bytes in front of a place, and those behind it
parted : (n : ℕ) (l : Bytes) → all l ≡ (all (take n l) && all (drop n l))
parted zero l = refl
parted (suc n) [] = refl
parted (suc n) (b ∷ l) = ap (λ (v : Bool). is_allowed b && v) (parted n l) ∙ and_and (is_allowed b) (all (take n l)) (all (drop n l))

rest : (a b : Bool) → true ≡ (a && b) → true ≡ b
rest true b h = h
rest false b h = absurd (cc)

-- what is left from an earlier place on decides too
earlier : (l : Bytes) (from at : ℕ) (v : Bool) → from ≤ at → all (drop from l) ≡ v → all (drop at l) ≡ all l → v ≡ all l
earlier l from at false less is left = sym (parted from l ∙ ap (λ (v : Bool). all (take from l) && v) is ∙ and_false (all (take from l)))
earlier l from at true less is left =
    let behind : drop (at - from) (drop from l) ≡ drop at l = drop-drop (at - from) from l ∙ ap (λ (n : ℕ). drop n l) (omega (arith, less)) in
    rest (all (take (at - from) (drop from l))) (all (drop at l)) (sym is ∙ parted (at - from) (drop from l) ∙ ap (λ (bs : Bytes). all (take (at - from) (drop from l)) && all bs) behind) ∙ left

pub returns-then-not-all_may_stand : goal.returns-then-not-all_may_stand
returns-then-not-all_may_stand c =
    let at = c.loop-at.at in
    let left = drop at c.args.line.now in
    sym (sym c.loop-at.invariant.left ∙ parted (at + 16 - at) left ∙ ap (λ (v : Bool). v && all (drop (at + 16 - at) left)) (sym c.if-not-all_may_stand.ensures))

pub loop-at-preserved : goal.loop-at-preserved
loop-at-preserved c =
    let at = c.loop-at.at in
    let left = drop at c.args.line.now in
    record {
      within = omega (arith, c.loop-at-test.true);
      left = sym (sym c.loop-at.invariant.left ∙ parted (at + 16 - at) left ∙ ap (λ (v : Bool). v && all (drop (at + 16 - at) left)) (sym c.if-not-all_may_stand.ensures)
          ∙ ap all (drop-drop (at + 16 - at) at c.args.line.now ∙ ap (λ (n : ℕ). drop n c.args.line.now) (omega arith)));
    }

pub returns : goal.returns
returns c =
    let line = c.args.line.now in
    let from = length line - 16 in
    c.all_may_stand-2.ensures ∙ ap all (take_rest line from) ∙ earlier line from c.loop-at.at (all (drop from line)) (omega (arith, c.loop-at-test.false)) refl c.loop-at.invariant.left
