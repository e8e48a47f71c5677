use Rattle.std.proofs.Common.{◌≡◌, ◌≢◌, ◌↔◌, Err, IfOk, IsSome, Some, sym, ap, ◌∙◌, subst}
use Rattle.std.specs.FinMap.{get}
use Rattle.procedure.proofs.Results.{if_done, if_refused}
use Rattle.locktable.specs.declared.errors.LockError.TheVariants.{Conflict, NoMemory}
use Rattle.locktable.specs.Modes.{stronger}
use Rattle.locktable.specs.Locks.{Conflicts, mode_of, with_lock}
use Rattle.locktable.specs.Holders.{mode_among}
use Rattle.locktable.specs.Tables.{keys_in}
use Rattle.locktable.proofs.Tables.{conflict, tells}
use Rattle.locktable.proofs.Taking.{asked_locks, asked_sound, refused_locks}
use Rattle.locktable.proofs.locks.LockTable.request.Goals as goal

pub invariant_of-self : goal.invariant_of-self
invariant_of-self g c =
    let mode = stronger (mode_among (get c.self.inside.holders c.args.key.now) c.args.session) c.args.mode in
    asked_sound c.self.inside.holders c.self.inside.held.items c.self.invariant c.args.session c.requires c.index_mut-own.result.now c.index_mut-own.ensures.value c.grant.new.own
    c.grant.new.self c.args.key.now mode c.grant.result c.grant.ensures.granted c.grant.ensures.own c.grant.ensures.refused c.grant.ensures.own_refused

pub returns-clause-before : goal.returns-clause-before
returns-clause-before g c =
    let s = c.args.session in
    let k = c.args.key.now in
    let told = sym (tells c.self.inside.holders (keys_in c.self.inside.held.items) c.self.invariant s k) ∙ ap (λ locks. mode_of locks s k) c.self.view_is in
    subst (λ o. IfOk c.grant.result (λ before. before ≡ o)) told c.grant.ensures.before

pub returns-clause-granted : goal.returns-clause-granted
returns-clause-granted g c =
    let s = c.args.session in
    let k = c.args.key.now in
    let holders = c.self.inside.holders in
    let mode = stronger (mode_among (get holders k) s) c.args.mode in
    let told = sym (tells holders (keys_in c.self.inside.held.items) c.self.invariant s k) ∙ ap (λ locks. mode_of locks s k) c.self.view_is in
    if_done
    (λ e. e ∙ ap (λ locks. with_lock locks s k (Some mode)) c.self.view_is ∙ ap (λ o. with_lock c.args.self.now s k (Some (stronger o c.args.mode))) told)
    c.grant.result
    (asked_locks holders c.self.inside.held.items c.self.invariant s c.requires c.index_mut-own.result.now c.index_mut-own.ensures.value c.grant.new.own
    c.grant.new.self k mode c.grant.result c.grant.ensures.granted c.grant.ensures.own)

pub returns-clause-refused : goal.returns-clause-refused
returns-clause-refused g c =
    if_refused (λ e. e ∙ c.self.view_is) c.grant.result
    (refused_locks c.self.inside.holders c.self.inside.held.items c.self.invariant c.args.session c.requires c.index_mut-own.result.now c.index_mut-own.ensures.value c.grant.new.own
    c.grant.new.self c.grant.result c.grant.ensures.refused c.grant.ensures.own_refused)

pub returns-clause-conflict : goal.returns-clause-conflict
returns-clause-conflict g c =
    let s = c.args.session in
    let k = c.args.key.now in
    let both = conflict c.self.inside.holders (keys_in c.self.inside.held.items) c.self.invariant s k c.args.mode in
    subst (λ locks. (c.grant.result ≡ Err Conflict) ↔ Conflicts locks s k c.args.mode) c.self.view_is (
      λ e. both.0 (c.grant.ensures.conflict.0 e),
      λ conflicts. c.grant.ensures.conflict.1 (both.1 conflicts),
    )

pub returns-clause-memory : goal.returns-clause-memory
returns-clause-memory g c =
    let s = c.args.session in
    let k = c.args.key.now in
    let told = sym (tells c.self.inside.holders (keys_in c.self.inside.held.items) c.self.invariant s k) ∙ ap (λ locks. mode_of locks s k) c.self.view_is in
    subst (λ o. IsSome o → c.grant.result ≢ Err NoMemory) told c.grant.ensures.memory
