use Rattle.std.proofs.Common.{◌≡◌, ℕ, Bool, true, false, cond, List, Option, Some, None, refl, sym, ap, ◌∙◌, subst, option_copied, IsSome, true≢false}
use Rattle.procedure.specs.Bytes.{Bytes, Cell}
use Rattle.procedure.specs.Needs.{CopiesValue, read_of}
use Rattle.procedure.specs.Procedures.{Instruction, Operand, Test, Read, Put, Insert, Delete, Add, Sub, AbortIf, operand_value, as_key, as_number, holds, need, Effect, effect, ending, passing, reading, putting, inserting, deleting, adding, subtracting}
use Rattle.procedure.specs.Actions.{Action, effect_of}
use Rattle.procedure.proofs.Fronts.{adding_becomes, subtracting_becomes}
use Rattle.procedure.proofs.Results.{if_ok, if_refused}
use Rattle.procedure.proofs.actions.action_of.Goals as goal

-- an action that stands for an effect stands for the same effect
stands_for : (a : Action Bytes) (rs : List Cell) (e f : Effect) → effect_of a rs e.becomes ≡ e → e ≡ f → effect_of a rs f.becomes ≡ f
stands_for a rs e f h same = subst (λ (x : Effect). effect_of a rs x.becomes ≡ x) same h

-- as above, where no key becomes anything
stands_for_own : (a : Action Bytes) (rs : List Cell) (e f : Effect) → e.becomes ≡ None → e ≡ f → effect_of a rs None ≡ e → effect_of a rs f.becomes ≡ f
stands_for_own a rs e f none same h = stands_for a rs e f (subst (λ x. effect_of a rs x ≡ e) (sym none) h) same

reading_becomes : (rs : List Cell) (r : ℕ) (k : Option Bytes) (found : Cell) → (reading rs r k found).becomes ≡ None
reading_becomes rs r None found = refl
reading_becomes rs r (Some k) found = refl

copies_read : (k : Option Bytes) → IsSome k → CopiesValue (read_of k)
copies_read None some = absurd (true≢false (sym some))
copies_read (Some k) some = tt

module _ (i : Instruction) (args : List Bytes) (rs : List Cell) where
  copies-read : (r : ℕ) (k : Operand Bytes) (x : Cell) (key : Option Bytes) → i ≡ Read r k → x ≡ operand_value k args rs → key ≡ as_key x → IsSome key → CopiesValue (need i args rs)
  unfolding need
  copies-read r k x key is gives are some =
      subst (λ j. CopiesValue (need j args rs)) (sym is) (copies_read (as_key (operand_value k args rs)) (subst (λ z. IsSome z) (are ∙ ap as_key gives) some))

-- what each instruction does, by what its operands give
module _ (i : Instruction) (args : List Bytes) (rs : List Cell) (found : Cell) where
  same_effect : (j : Instruction) → i ≡ j → effect j args rs found ≡ effect i args rs found
  same_effect j is = sym (ap (λ k. effect k args rs found) is)

  effect-read : (r : ℕ) (k : Operand Bytes) (x : Cell) (key : Option Bytes) → i ≡ Read r k → x ≡ operand_value k args rs → key ≡ as_key x → reading rs r key found ≡ effect i args rs found
  unfolding effect
  effect-read r k x key is gives are = ap (λ z. reading rs r z found) (are ∙ ap as_key gives) ∙ same_effect (Read r k) is

  effect-put : (k v : Operand Bytes) (x y : Cell) (key : Option Bytes) → i ≡ Put k v → x ≡ operand_value k args rs → key ≡ as_key x → y ≡ operand_value v args rs →
      putting rs key y ≡ effect i args rs found
  unfolding effect
  effect-put k v x y key is gives are value =
      ap (λ z. putting rs z y) (are ∙ ap as_key gives) ∙ ap (putting rs (as_key (operand_value k args rs))) value ∙ same_effect (Put k v) is

  effect-insert : (k v : Operand Bytes) (x y : Cell) (key : Option Bytes) → i ≡ Insert k v → x ≡ operand_value k args rs → key ≡ as_key x → y ≡ operand_value v args rs →
      inserting rs key y found ≡ effect i args rs found
  unfolding effect
  effect-insert k v x y key is gives are value =
      ap (λ z. inserting rs z y found) (are ∙ ap as_key gives) ∙ ap (λ z. inserting rs (as_key (operand_value k args rs)) z found) value ∙ same_effect (Insert k v) is

  effect-delete : (k : Operand Bytes) (x : Cell) (key : Option Bytes) → i ≡ Delete k → x ≡ operand_value k args rs → key ≡ as_key x → deleting rs key found ≡ effect i args rs found
  unfolding effect
  effect-delete k x key is gives are = ap (λ z. deleting rs z found) (are ∙ ap as_key gives) ∙ same_effect (Delete k) is

  module _ (r : ℕ) (p q : Operand Bytes) (x y : Cell) (m n : Option ℕ) (left : x ≡ operand_value p args rs) (right : y ≡ operand_value q args rs) (first : m ≡ as_number x) (second : n ≡ as_number y)
    where
      effect-add : i ≡ Add r p q → adding rs r m n ≡ effect i args rs found
      unfolding effect
      effect-add is = ap (λ z. adding rs r z n) (first ∙ ap as_number left) ∙ ap (adding rs r (as_number (operand_value p args rs))) (second ∙ ap as_number right) ∙ same_effect (Add r p q) is

      effect-sub : i ≡ Sub r p q → subtracting rs r m n ≡ effect i args rs found
      unfolding effect
      effect-sub is = ap (λ z. subtracting rs r z n) (first ∙ ap as_number left) ∙ ap (subtracting rs r (as_number (operand_value p args rs))) (second ∙ ap as_number right) ∙
          same_effect (Sub r p q) is

  effect-abort : (t : Test Bytes) (code : ℕ) (b : Bool) → i ≡ AbortIf t code → b ≡ holds t args rs → cond b (ending rs code) (passing rs) ≡ effect i args rs found
  unfolding effect
  effect-abort t code b is test = ap (λ z. cond z (ending rs code) (passing rs)) test ∙ same_effect (AbortIf t code) is

pub returns-in-Read : goal.returns-in-Read
returns-in-Read g c =
    let i = c.args.instruction.now in
    let args = c.args.args.now in
    let rs = c.args.registers.now in
    let found = option_copied c.args.found in
    let r = c.in-Read.register in
    let key = option_copied c.key_bytes.result in
    let same = effect-read i args rs found r c.in-Read.key _ key c.in-Read.is c.value_of.ensures c.key_bytes.ensures in
    record {
      value = if_ok (λ a. (registers : List Cell) → effect_of a registers None ≡ reading registers r key found) (λ a. effect_of a rs (effect i args rs found).becomes ≡ effect i args rs found)
          (λ a h. stands_for_own a rs _ _ (reading_becomes rs r key found) same (h rs)) c.read_action.result c.read_action.ensures.value;
      memory = if_refused (copies-read i args rs r c.in-Read.key _ key c.in-Read.is c.value_of.ensures c.key_bytes.ensures) c.read_action.result c.read_action.ensures.memory;
    }

pub returns-in-Put-clause-value : goal.returns-in-Put-clause-value
returns-in-Put-clause-value g c =
    stands_for c.put_action.result c.args.registers.now _ _ (c.put_action.ensures c.args.registers.now)
    (effect-put _ _ _ _ _ _ _ _ _ c.in-Put.is c.value_of-in-Put.ensures c.key_bytes-key.ensures c.value_of-in-Put-2.ensures)

pub returns-in-Insert-clause-value : goal.returns-in-Insert-clause-value
returns-in-Insert-clause-value g c =
    stands_for c.insert_action.result c.args.registers.now _ _ (c.insert_action.ensures c.args.registers.now)
    (effect-insert _ _ _ _ _ _ _ _ _ c.in-Insert.is c.value_of-in-Insert.ensures c.key_bytes-key-in-Insert.ensures c.value_of-in-Insert-2.ensures)

pub returns-in-Delete-clause-value : goal.returns-in-Delete-clause-value
returns-in-Delete-clause-value g c =
    stands_for c.delete_action.result c.args.registers.now _ _ (c.delete_action.ensures c.args.registers.now) (effect-delete _ _ _ _ _ _ _ c.in-Delete.is c.value_of-in-Delete.ensures c.key_bytes-in-Delete.ensures)

pub returns-in-Add-clause-value : goal.returns-in-Add-clause-value
returns-in-Add-clause-value g c =
    let rs = c.args.registers.now in
    stands_for_own c.add_action.result rs _ _ (adding_becomes rs c.in-Add.register c.number_of-x.result c.number_of.result)
    (effect-add _ _ _ _ _ _ _ _ _ _ _ c.value_of-in-Add.ensures c.value_of-in-Add-2.ensures c.number_of-x.ensures c.number_of.ensures c.in-Add.is) (c.add_action.ensures rs)

pub returns-in-Sub-clause-value : goal.returns-in-Sub-clause-value
returns-in-Sub-clause-value g c =
    let rs = c.args.registers.now in
    stands_for_own c.sub_action.result rs _ _ (subtracting_becomes rs c.in-Sub.register c.number_of-x-in-Sub.result c.number_of-in-Sub.result)
    (effect-sub _ _ _ _ _ _ _ _ _ _ _ c.value_of-in-Sub.ensures c.value_of-in-Sub-2.ensures c.number_of-x-in-Sub.ensures c.number_of-in-Sub.ensures c.in-Sub.is) (c.sub_action.ensures rs)

pub returns-after-test_holds-clause-value : goal.returns-after-test_holds-clause-value
returns-after-test_holds-clause-value g c =
    let rs = c.args.registers.now in
    let i = c.args.instruction.now in
    let args = c.args.args.now in
    let found = option_copied c.args.found in
    let t = c.in-AbortIf.test in
    let code = c.in-AbortIf.code in
    let action = c.if-test_holds.result in
    elim c.if-test_holds.branch [
      | goal.then-test_holds w ↦ stands_for action rs (ending rs code) (effect i args rs found) (ap (λ a. effect_of a rs None) w.result-is)
          (effect-abort i args rs found t code true c.in-AbortIf.is w.if-test_holds.ensures)
      | goal.else-test_holds w ↦ stands_for action rs (passing rs) (effect i args rs found) (ap (λ a. effect_of a rs None) w.result-is)
          (effect-abort i args rs found t code false c.in-AbortIf.is w.if-test_holds.ensures)
    ]
