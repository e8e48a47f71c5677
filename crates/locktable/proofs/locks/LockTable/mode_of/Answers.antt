use Rattle.std.proofs.Common.{length, sym, ◌∙◌, ap, subst}
use Rattle.locktable.specs.Holders.{mode_among}
use Rattle.locktable.specs.Locks.{IsConsistent, mode_of}
use Rattle.locktable.specs.Tables.{keys_in}
use Rattle.locktable.proofs.Tables.{consistent, sessions, tells}
use Rattle.locktable.proofs.locks.LockTable.mode_of.Goals as goal

pub returns-clause-value : goal.returns-clause-value
returns-clause-value g c =
    c.mode_among.ensures
    ∙ ap (λ o. mode_among o c.args.session) c.get.ensures
    ∙ sym (tells c.self.inside.holders (keys_in c.self.inside.held.items) c.self.invariant c.args.session c.args.key.now)
    ∙ ap (λ locks. mode_of locks c.args.session c.args.key.now) c.self.view_is

pub returns-clause-consistent : goal.returns-clause-consistent
returns-clause-consistent g c = subst IsConsistent c.self.view_is (consistent c.self.inside.holders (keys_in c.self.inside.held.items) c.self.invariant)

pub returns-clause-sessions : goal.returns-clause-sessions
returns-clause-sessions g c = ap length (sym c.self.view_is) ∙ sessions c.self.inside.holders (keys_in c.self.inside.held.items) c.self.invariant
