use Rattle.std.proofs.Common.{rules, ◌≡◌, ◌≢◌, ◌↔◌, List, [], ◌∷◌, ◌++◌, Err, IfOk, IsSome, OnOk, None, Some, sym, ap, ◌∙◌, subst}
use Rattle.std.specs.FinMap.{get}
use Rattle.indexmap.specs.declared.map.entry.Entry.TheVariants.{Occupied, Vacant}
use Rattle.indexmap.specs.Entry.{map_with_value, entry_value}
use Rattle.procedure.proofs.Results.{if_done, if_refused}
use Rattle.procedure.specs.Bytes.{Bytes}
use Rattle.procedure.specs.Table.{KeyMap}
use Rattle.locktable.specs.declared.errors.LockError.TheVariants.{Conflict, NoMemory}
use Rattle.locktable.specs.declared.holders.Holders.{Holders}
use Rattle.locktable.specs.Locks.{with_entry}
use Rattle.locktable.specs.Holders.{ChangesTo, Refuses, mode_among}
use Rattle.locktable.specs.Modes.{stronger}
use Rattle.locktable.specs.Tables.{SetsMode, with_key}
use Rattle.procedure.proofs.Maps.{get-view, map_of}
use Rattle.locktable.proofs.Lookups.{index-with_entry, with_entry_same}
use Rattle.locktable.proofs.Setting.{granted_is_held, nobody_holds, nobody_refuses, not_conflict, sets_mode}
use Rattle.locktable.proofs.many_holders.ManyHolders.grant.Given.{Over}
use Rattle.locktable.proofs.many_holders.ManyHolders.grant.Goals as goal
use Rattle.locktable.proofs.many_holders.ManyHolders.grant.Goals.{After-into_mut, In-Ok, In-Vacant}

-- what the table holds for the key once the entry that was asked for has these holders
set_so : (g : Over) (c : In-Ok g) (after : Holders) → map_of (map_with_value c.in-Ok.entry after).entries ≡ with_entry c.args.self.now c.args.key.now (Some after)
set_so g c after =
    index-with_entry c.self.inside.entries.entries _ c.args.key.now (Some after) (c.in-Ok.ensures.update.0 after).0 ∙ ap (λ (m : KeyMap Holders). with_entry m c.args.key.now (Some after)) c.self.view_is

-- the key is granted, where it is set and changes so
granted_so :
    (g : Over) (c : In-Ok g) (after : Holders) (table : KeyMap Holders) → table ≡ map_of (map_with_value c.in-Ok.entry after).entries →
    ChangesTo (get c.args.self.now c.args.key.now) (Some after) c.args.session (Some (stronger (mode_among (get c.args.self.now c.args.key.now) c.args.session) c.args.mode)) →
    SetsMode c.args.self.now table c.args.session c.args.key.now (Some (stronger (mode_among (get c.args.self.now c.args.key.now) c.args.session) c.args.mode))
granted_so g c after table written changes =
    sets_mode c.args.self.now table c.args.session c.args.key.now _ (Some after) (written ∙ set_so g c after) changes (granted_is_held _ after c.args.session _ changes)

-- an occupied entry: the key has holders
had : (g : Over) (c : After-into_mut g) → get c.args.self.now c.args.key.now ≡ Some c.into_mut.result.now
had g c =
    get-view c.self.inside.entries.entries c.args.self.now c.self.view_is c.args.key.now ∙ sym c.in-Ok.ensures.value ∙ ap entry_value c.in-Occupied.is ∙ c.into_mut.ensures.value

-- a vacant one: it has none
none : (g : Over) (c : In-Vacant g) → get c.args.self.now c.args.key.now ≡ None
unfolding entry_value
none g c = get-view c.self.inside.entries.entries c.args.self.now c.self.view_is c.args.key.now ∙ sym c.in-Ok.ensures.value ∙ ap entry_value c.in-Vacant.is

pub returns-in_default-clause-conflict : goal.returns-in_default-clause-conflict
returns-in_default-clause-conflict g c =
    let none = get-view c.self.inside.entries.entries c.args.self.now c.self.view_is c.args.key.now ∙ c.in_default.ensures.absent in (
      λ e. absurd cc,
      λ refuses. absurd (nobody_refuses _ none c.args.session c.args.mode refuses),
    )

pub returns-in_default-clause-memory : goal.returns-in_default-clause-memory
returns-in_default-clause-memory g c is =
    let none = get-view c.self.inside.entries.entries c.args.self.now c.self.view_is c.args.key.now ∙ c.in_default.ensures.absent in
    absurd (nobody_holds _ none c.args.session is)

pub returns-in-Occupied-clause-before : goal.returns-in-Occupied-clause-before
returns-in-Occupied-clause-before g c =
    subst (λ o. IfOk c.join.result (λ before. before ≡ mode_among o c.args.session)) (sym (had g (goal.at.returns-in-Occupied-clause-before g c).After-into_mut)) c.join.ensures.before

pub returns-in-Occupied-clause-granted : goal.returns-in-Occupied-clause-granted
returns-in-Occupied-clause-granted g c =
    let at = goal.at.returns-in-Occupied-clause-granted g c in
    let after = c.join.new.holders in
    let same : c.self-in-Occupied-2-1.given.0 ≡ map_with_value (Occupied c.in-Occupied.entry) after = search rules in
    let written = same ∙ sym (ap (λ e. map_with_value e after) c.in-Occupied.is) in
    if_done
    (λ changes.
    granted_so g at.In-Ok after _ (ap (λ m. map_of m.entries) written)
    (subst (λ o. ChangesTo o (Some after) c.args.session (Some (stronger (mode_among o c.args.session) c.args.mode))) (sym (had g at.After-into_mut)) changes))
    c.join.result c.join.ensures.granted

pub returns-in-Occupied-clause-own : goal.returns-in-Occupied-clause-own
returns-in-Occupied-clause-own g c =
    subst (λ o. OnOk c.join.result (c.join.new.own.items ≡ with_key c.args.own.now.items c.args.key.now (mode_among o c.args.session)))
    (sym (had g (goal.at.returns-in-Occupied-clause-own g c).After-into_mut)) c.join.ensures.own

pub returns-in-Occupied-clause-refused : goal.returns-in-Occupied-clause-refused
returns-in-Occupied-clause-refused g c =
    let at = goal.at.returns-in-Occupied-clause-refused g c in
    let before = c.args.self.now in
    let k = c.args.key.now in
    let after = c.join.new.holders in
    let same : c.self-in-Occupied-2-1.given.0 ≡ map_with_value (Occupied c.in-Occupied.entry) after = search rules in
    let written = same ∙ sym (ap (λ e. map_with_value e after) c.in-Occupied.is) in
    if_refused
    (λ kept.
    ap (λ m. map_of m.entries) written ∙ set_so g at.In-Ok after ∙ ap (λ h. with_entry before k (Some h)) kept ∙ ap (with_entry before k) (sym (had g at.After-into_mut)) ∙ with_entry_same before k)
    c.join.result c.join.ensures.refused

pub returns-in-Occupied-clause-conflict : goal.returns-in-Occupied-clause-conflict
returns-in-Occupied-clause-conflict g c =
    subst (λ o. (c.join.result ≡ Err Conflict) ↔ Refuses o c.args.session c.args.mode) (sym (had g (goal.at.returns-in-Occupied-clause-conflict g c).After-into_mut)) c.join.ensures.conflict

pub returns-in-Occupied-clause-memory : goal.returns-in-Occupied-clause-memory
returns-in-Occupied-clause-memory g c =
    subst (λ o. IsSome (mode_among o c.args.session) → c.join.result ≢ Err NoMemory) (sym (had g (goal.at.returns-in-Occupied-clause-memory g c).After-into_mut)) c.join.ensures.memory

pub returns-in_err-map_err-clause-conflict : goal.returns-in_err-map_err-clause-conflict
returns-in_err-map_err-clause-conflict g c = (
  λ e. absurd (not_conflict c.from_residual.result c.from_residual.ensures.1 e),
  λ refuses. absurd (nobody_refuses _ (none g (goal.at.returns-in_err-map_err-clause-conflict g c).In-Vacant) c.args.session c.args.mode refuses),
)

pub returns-in_err-map_err-clause-memory : goal.returns-in_err-map_err-clause-memory
returns-in_err-map_err-clause-memory g c is =
    absurd (nobody_holds _ (none g (goal.at.returns-in_err-map_err-clause-memory g c).In-Vacant) c.args.session is)

pub returns-clause-before : goal.returns-clause-before
returns-clause-before g c =
    sym (ap (λ o. mode_among o c.args.session) (none g (goal.at.returns-clause-before g c).In-Vacant))

pub returns-clause-granted : goal.returns-clause-granted
returns-clause-granted g c =
    let at = goal.at.returns-clause-granted g c in
    let after = c.one.result in
    let same : c.self-3-1.given.0 ≡ map_with_value (Vacant c.in-Vacant.entry) after = search rules in
    granted_so g at.In-Ok after _ (ap (λ m. map_of m.entries) (same ∙ sym (ap (λ e. map_with_value e after) c.in-Vacant.is)))
    (subst (λ o. ChangesTo o (Some after) c.args.session (Some (stronger (mode_among o c.args.session) c.args.mode))) (sym (none g at.In-Vacant)) c.one.ensures)

pub returns-clause-own : goal.returns-clause-own
returns-clause-own g c =
    c.push_reserved.ensures.items
    ∙ ap (λ (ks : List Bytes). ks ++ c.args.key.now ∷ []) c.reserve.ensures.items
    ∙ sym (ap (λ o. with_key c.args.own.now.items c.args.key.now (mode_among o c.args.session)) (none g (goal.at.returns-clause-own g c).In-Vacant))

pub returns-clause-conflict : goal.returns-clause-conflict
returns-clause-conflict g c = (
  λ e. absurd cc,
  λ refuses. absurd (nobody_refuses _ (none g (goal.at.returns-clause-conflict g c).In-Vacant) c.args.session c.args.mode refuses),
)
