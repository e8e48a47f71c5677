use Rattle.std.proofs.Common.{◌≡◌, ◌≢◌, ◌↔◌, List, [], ◌∷◌, ◌++◌, Err, IfOk, IsSome, None, OnOk, Option, Some, slice_get, subst, sym, ap, ◌∙◌}
use Rattle.std.specs.FinMap.{get}
use Rattle.procedure.proofs.Maps.{at_key}
use Rattle.procedure.proofs.Results.{if_done, if_refused}
use Rattle.procedure.specs.Bytes.{Bytes}
use Rattle.locktable.specs.declared.errors.LockError.TheVariants.{Conflict, NoMemory}
use Rattle.locktable.specs.declared.holders.Holders.{Holders}
use Rattle.locktable.specs.Locks.{with_entry}
use Rattle.locktable.specs.Holders.{ChangesTo, Refuses, mode_among}
use Rattle.locktable.specs.Modes.{Mode, stronger}
use Rattle.locktable.specs.Tables.{IsApart, SetsMode, with_key}
use Rattle.locktable.proofs.Few.{Pairs, asked_apart, has-listed, has-others, holders_are, joined, lacks, pushed, pushed-apart, set-others, written, written-apart}
use Rattle.locktable.proofs.Lookups.{with_entry_same}
use Rattle.locktable.proofs.Setting.{granted_is_held, nobody_holds, nobody_refuses, not_conflict, sets_mode}
use Rattle.locktable.proofs.key_holders.KeyHolders.grant.Given.{Over}
use Rattle.locktable.proofs.key_holders.KeyHolders.grant.Goals as goal
use Rattle.locktable.proofs.key_holders.KeyHolders.grant.Goals.{After-index_mut, In-Some}

-- the key stands in the list
there : (g : Over) (c : In-Some g) → slice_get c.self.inside.few.items c.in-Some.index ≡ Some (c.args.key.now, c.in-Some._holders)
there g c = subst (λ (es : Pairs). slice_get es c.in-Some.index ≡ Some (c.args.key.now, c.in-Some._holders)) c.deref.ensures.value c.in-Some.ensures.entry

-- so it has the holders of its entry
had : (g : Over) (c : After-index_mut g) → get c.args.self.now c.args.key.now ≡ Some c.index_mut.result.now.1
had g c =
    let at = subst (λ (es : Pairs). slice_get es c.in-Some.index ≡ Some (c.args.key.now, c.in-Some._holders)) c.deref.ensures.value c.in-Some.ensures.entry in
    has-listed c.self.inside.few.items c.self.inside.many c.self.invariant c.args.self.now c.self.view_is c.args.key.now c.in-Some.index c.in-Some._holders at
    ∙ ap (λ h. Some h) (sym (holders_are c.self.inside.few.items c.self.inside.many c.self.invariant c.args.self.now c.self.view_is c.args.key.now c.in-Some.index c.in-Some._holders at c.index_mut.result.now c.index_mut.ensures.value))

pub invariant_of-self : goal.invariant_of-self
invariant_of-self g c =
    written-apart c.self.inside.few.items c.self.inside.many c.self.invariant c.args.self.now c.self.view_is c.args.key.now c.in-Some.index c.in-Some._holders
    (there g (goal.at.invariant_of-self g c).In-Some) c.index_mut.result.now c.index_mut.ensures.value c.join.new.holders

pub returns-in-Some-clause-before : goal.returns-in-Some-clause-before
returns-in-Some-clause-before g c =
    subst (λ o. IfOk c.join.result (λ before. before ≡ mode_among o c.args.session)) (sym (had g (goal.at.returns-in-Some-clause-before g c).After-index_mut)) c.join.ensures.before

pub returns-in-Some-clause-granted : goal.returns-in-Some-clause-granted
returns-in-Some-clause-granted g c =
    let at = goal.at.returns-in-Some-clause-granted g c in
    let after = c.join.new.holders in
    let asked : Option Holders → Option Mode = λ o. Some (stronger (mode_among o c.args.session) c.args.mode) in
    if_done
    (λ changes.
    let changed = subst (λ o. ChangesTo o (Some after) c.args.session (asked o)) (sym (had g at.After-index_mut)) changes in
    sets_mode c.args.self.now _ c.args.session c.args.key.now (asked (get c.args.self.now c.args.key.now)) (Some after)
    (written c.self.inside.few.items c.self.inside.many c.self.invariant c.args.self.now c.self.view_is c.args.key.now c.in-Some.index c.in-Some._holders (there g at.In-Some) c.index_mut.result.now c.index_mut.ensures.value after)
    changed (granted_is_held _ after c.args.session _ changed))
    c.join.result c.join.ensures.granted

pub returns-in-Some-clause-own : goal.returns-in-Some-clause-own
returns-in-Some-clause-own g c =
    subst (λ o. OnOk c.join.result (c.join.new.own.items ≡ with_key c.args.own.now.items c.args.key.now (mode_among o c.args.session)))
    (sym (had g (goal.at.returns-in-Some-clause-own g c).After-index_mut)) c.join.ensures.own

pub returns-in-Some-clause-refused : goal.returns-in-Some-clause-refused
returns-in-Some-clause-refused g c =
    let at = goal.at.returns-in-Some-clause-refused g c in
    let before = c.args.self.now in
    let k = c.args.key.now in
    let after = c.join.new.holders in
    if_refused
    (λ kept.
    written c.self.inside.few.items c.self.inside.many c.self.invariant c.args.self.now c.self.view_is c.args.key.now c.in-Some.index c.in-Some._holders (there g at.In-Some) c.index_mut.result.now c.index_mut.ensures.value after
    ∙ ap (λ h. with_entry before k (Some h)) kept ∙ ap (with_entry before k) (sym (had g at.After-index_mut)) ∙ with_entry_same before k)
    c.join.result c.join.ensures.refused

pub returns-in-Some-clause-conflict : goal.returns-in-Some-clause-conflict
returns-in-Some-clause-conflict g c =
    subst (λ o. (c.join.result ≡ Err Conflict) ↔ Refuses o c.args.session c.args.mode) (sym (had g (goal.at.returns-in-Some-clause-conflict g c).After-index_mut)) c.join.ensures.conflict

pub returns-in-Some-clause-memory : goal.returns-in-Some-clause-memory
returns-in-Some-clause-memory g c =
    subst (λ o. IsSome (mode_among o c.args.session) → c.join.result ≢ Err NoMemory) (sym (had g (goal.at.returns-in-Some-clause-memory g c).After-index_mut)) c.join.ensures.memory

pub returns-then-len-ge-FEW-clause-before : goal.returns-then-len-ge-FEW-clause-before
returns-then-len-ge-FEW-clause-before g c =
    let absent = subst (λ (es : Pairs). at_key es c.args.key.now ≡ None) c.deref.ensures.value c.in_default.ensures.absent in
    subst (λ o. IfOk c.grant.result (λ before. before ≡ mode_among o c.args.session)) (sym (has-others c.self.inside.few.items c.self.inside.many c.self.invariant c.args.self.now c.self.view_is c.args.key.now absent)) c.grant.ensures.before

pub returns-then-len-ge-FEW-clause-granted : goal.returns-then-len-ge-FEW-clause-granted
returns-then-len-ge-FEW-clause-granted g c =
    let absent = subst (λ (es : Pairs). at_key es c.args.key.now ≡ None) c.deref.ensures.value c.in_default.ensures.absent in
    let here = sym (has-others c.self.inside.few.items c.self.inside.many c.self.invariant c.args.self.now c.self.view_is c.args.key.now absent) in
    let asked : Option Holders → Option Mode = λ o. Some (stronger (mode_among o c.args.session) c.args.mode) in
    if_done
    (λ sets. subst (λ o. SetsMode c.args.self.now (joined c.self.inside.few.items c.grant.new.self) c.args.session c.args.key.now (asked o)) here (set-others c.self.inside.few.items c.self.inside.many c.self.invariant c.args.self.now c.self.view_is c.args.key.now c.grant.new.self c.args.session _ sets absent))
    c.grant.result c.grant.ensures.granted

pub returns-then-len-ge-FEW-clause-own : goal.returns-then-len-ge-FEW-clause-own
returns-then-len-ge-FEW-clause-own g c =
    let absent = subst (λ (es : Pairs). at_key es c.args.key.now ≡ None) c.deref.ensures.value c.in_default.ensures.absent in
    subst (λ o. OnOk c.grant.result (c.grant.new.own.items ≡ with_key c.args.own.now.items c.args.key.now (mode_among o c.args.session))) (sym (has-others c.self.inside.few.items c.self.inside.many c.self.invariant c.args.self.now c.self.view_is c.args.key.now absent)) c.grant.ensures.own

pub returns-then-len-ge-FEW-clause-conflict : goal.returns-then-len-ge-FEW-clause-conflict
returns-then-len-ge-FEW-clause-conflict g c =
    let absent = subst (λ (es : Pairs). at_key es c.args.key.now ≡ None) c.deref.ensures.value c.in_default.ensures.absent in
    subst (λ o. (c.grant.result ≡ Err Conflict) ↔ Refuses o c.args.session c.args.mode) (sym (has-others c.self.inside.few.items c.self.inside.many c.self.invariant c.args.self.now c.self.view_is c.args.key.now absent)) c.grant.ensures.conflict

pub returns-then-len-ge-FEW-clause-memory : goal.returns-then-len-ge-FEW-clause-memory
returns-then-len-ge-FEW-clause-memory g c =
    let absent = subst (λ (es : Pairs). at_key es c.args.key.now ≡ None) c.deref.ensures.value c.in_default.ensures.absent in
    subst (λ o. IsSome (mode_among o c.args.session) → c.grant.result ≢ Err NoMemory) (sym (has-others c.self.inside.few.items c.self.inside.many c.self.invariant c.args.self.now c.self.view_is c.args.key.now absent)) c.grant.ensures.memory

pub invariant_of-self-then-len-ge-FEW : goal.invariant_of-self-then-len-ge-FEW
invariant_of-self-then-len-ge-FEW g c =
    let absent = subst (λ (es : Pairs). at_key es c.args.key.now ≡ None) c.deref.ensures.value c.in_default.ensures.absent in
    asked_apart c.self.inside.few.items c.self.inside.many c.self.invariant c.args.key.now c.grant.new.self c.args.session _ absent c.grant.result c.grant.ensures.granted c.grant.ensures.refused

pub returns-in_err-map_err-clause-conflict : goal.returns-in_err-map_err-clause-conflict
returns-in_err-map_err-clause-conflict g c =
    let absent = subst (λ (es : Pairs). at_key es c.args.key.now ≡ None) c.deref.ensures.value c.in_default.ensures.absent in
    let none = has-others c.self.inside.few.items c.self.inside.many c.self.invariant c.args.self.now c.self.view_is c.args.key.now absent ∙ lacks c.self.inside.many c.args.key.now (c.is_empty.ensures.0 c.if-not-is_empty.false) in
    (λ e. absurd (not_conflict c.from_residual.result c.from_residual.ensures.1 e), λ refuses. absurd (nobody_refuses _ none c.args.session c.args.mode refuses))

pub returns-in_err-map_err-clause-memory : goal.returns-in_err-map_err-clause-memory
returns-in_err-map_err-clause-memory g c is =
    let absent = subst (λ (es : Pairs). at_key es c.args.key.now ≡ None) c.deref.ensures.value c.in_default.ensures.absent in
    let none = has-others c.self.inside.few.items c.self.inside.many c.self.invariant c.args.self.now c.self.view_is c.args.key.now absent ∙ lacks c.self.inside.many c.args.key.now (c.is_empty.ensures.0 c.if-not-is_empty.false) in
    absurd (nobody_holds _ none c.args.session is)

pub returns-in_err-map_err-2-clause-conflict : goal.returns-in_err-map_err-2-clause-conflict
returns-in_err-map_err-2-clause-conflict g c =
    let absent = subst (λ (es : Pairs). at_key es c.args.key.now ≡ None) c.deref.ensures.value c.in_default.ensures.absent in
    let none = has-others c.self.inside.few.items c.self.inside.many c.self.invariant c.args.self.now c.self.view_is c.args.key.now absent ∙ lacks c.self.inside.many c.args.key.now (c.is_empty.ensures.0 c.if-not-is_empty.false) in
    (λ e. absurd (not_conflict c.from_residual-in_err-map_err-2.result c.from_residual-in_err-map_err-2.ensures.1 e), λ refuses. absurd (nobody_refuses _ none c.args.session c.args.mode refuses))

pub returns-in_err-map_err-2-clause-memory : goal.returns-in_err-map_err-2-clause-memory
returns-in_err-map_err-2-clause-memory g c is =
    let absent = subst (λ (es : Pairs). at_key es c.args.key.now ≡ None) c.deref.ensures.value c.in_default.ensures.absent in
    let none = has-others c.self.inside.few.items c.self.inside.many c.self.invariant c.args.self.now c.self.view_is c.args.key.now absent ∙ lacks c.self.inside.many c.args.key.now (c.is_empty.ensures.0 c.if-not-is_empty.false) in
    absurd (nobody_holds _ none c.args.session is)

pub invariant_of-self-2 : goal.invariant_of-self-2
invariant_of-self-2 g c =
    let absent = subst (λ (es : Pairs). at_key es c.args.key.now ≡ None) c.deref.ensures.value c.in_default.ensures.absent in
    let lacking = lacks c.self.inside.many c.args.key.now (c.is_empty.ensures.0 c.if-not-is_empty.false) in
    let pairs = c.push_reserved-2.ensures.items ∙ ap (λ (es : Pairs). es ++ (c.args.key.now, c.one.result) ∷ []) c.reserve.ensures.items in
    subst (λ (es : Pairs). IsApart es c.self.inside.many) (sym pairs) (pushed-apart c.self.inside.few.items c.self.inside.many c.self.invariant c.args.self.now c.self.view_is c.args.key.now c.one.result absent lacking)

pub returns-clause-before : goal.returns-clause-before
returns-clause-before g c =
    let absent = subst (λ (es : Pairs). at_key es c.args.key.now ≡ None) c.deref.ensures.value c.in_default.ensures.absent in
    let none = has-others c.self.inside.few.items c.self.inside.many c.self.invariant c.args.self.now c.self.view_is c.args.key.now absent ∙ lacks c.self.inside.many c.args.key.now (c.is_empty.ensures.0 c.if-not-is_empty.false) in
    sym (ap (λ o. mode_among o c.args.session) none)

pub returns-clause-granted : goal.returns-clause-granted
returns-clause-granted g c =
    let absent = subst (λ (es : Pairs). at_key es c.args.key.now ≡ None) c.deref.ensures.value c.in_default.ensures.absent in
    let lacking = lacks c.self.inside.many c.args.key.now (c.is_empty.ensures.0 c.if-not-is_empty.false) in
    let none = has-others c.self.inside.few.items c.self.inside.many c.self.invariant c.args.self.now c.self.view_is c.args.key.now absent ∙ lacking in
    let pairs = c.push_reserved-2.ensures.items ∙ ap (λ (es : Pairs). es ++ (c.args.key.now, c.one.result) ∷ []) c.reserve.ensures.items in
    let asked : Option Holders → Option Mode = λ o. Some (stronger (mode_among o c.args.session) c.args.mode) in
    let changed = subst (λ o. ChangesTo o (Some c.one.result) c.args.session (asked o)) (sym none) c.one.ensures in
    sets_mode c.args.self.now _ c.args.session c.args.key.now (asked (get c.args.self.now c.args.key.now)) (Some c.one.result)
    (ap (λ (es : Pairs). joined es c.self.inside.many) pairs ∙ pushed c.self.inside.few.items c.self.inside.many c.self.invariant c.args.self.now c.self.view_is c.args.key.now c.one.result absent lacking)
    changed (granted_is_held _ c.one.result c.args.session _ changed)

pub returns-clause-own : goal.returns-clause-own
returns-clause-own g c =
    let absent = subst (λ (es : Pairs). at_key es c.args.key.now ≡ None) c.deref.ensures.value c.in_default.ensures.absent in
    let none = has-others c.self.inside.few.items c.self.inside.many c.self.invariant c.args.self.now c.self.view_is c.args.key.now absent ∙ lacks c.self.inside.many c.args.key.now (c.is_empty.ensures.0 c.if-not-is_empty.false) in
    c.push_reserved.ensures.items
    ∙ ap (λ (ks : List Bytes). ks ++ c.args.key.now ∷ []) c.reserve-2.ensures.items
    ∙ sym (ap (λ o. with_key c.args.own.now.items c.args.key.now (mode_among o c.args.session)) none)

pub returns-clause-conflict : goal.returns-clause-conflict
returns-clause-conflict g c =
    let absent = subst (λ (es : Pairs). at_key es c.args.key.now ≡ None) c.deref.ensures.value c.in_default.ensures.absent in
    let none = has-others c.self.inside.few.items c.self.inside.many c.self.invariant c.args.self.now c.self.view_is c.args.key.now absent ∙ lacks c.self.inside.many c.args.key.now (c.is_empty.ensures.0 c.if-not-is_empty.false) in
    (λ e. absurd cc, λ refuses. absurd (nobody_refuses _ none c.args.session c.args.mode refuses))
