use Rattle.std.proofs.Common.{bit_or, Some, subst, sym, refl, arith, ◌<◌}
use Rattle.locktable.specs.declared.holders.Holders.TheVariants.{Readers, Writer}
use Rattle.locktable.specs.Modes.{stronger}
use Rattle.locktable.specs.Holders.{ChangesTo, Refuses, mode_in}
use Rattle.locktable.proofs.Sharing.{bit, one_more_reader, upgrade, none_refuses, other_refuses, others}
use Rattle.locktable.proofs.holders.readers_with.Goals as goal

pub returns-in-Shared-clause-granted : goal.returns-in-Shared-clause-granted
returns-in-Shared-clause-granted c =
    subst (λ mode. ChangesTo (Some (Readers c.args.readers)) (Some (Readers (bit_or c.args.readers (bit c.args.session)))) c.args.session
    (Some (stronger (mode_in (Readers c.args.readers) c.args.session) mode))) (sym c.in-Shared.is)
    (one_more_reader c.args.readers c.args.session c.requires)

pub returns-in-Exclusive-clause-granted : goal.returns-in-Exclusive-clause-granted
returns-in-Exclusive-clause-granted c =
    subst (λ mode. ChangesTo (Some (Readers c.args.readers)) (Some (Writer c.args.session)) c.args.session (Some (stronger (mode_in (Readers c.args.readers) c.args.session) mode)))
    (sym c.in-Exclusive.is)
    (upgrade c.args.readers c.args.session (omega arith) c.requires c.if-readers-session-eq0.true)

pub returns-in-Exclusive-clause-refused : goal.returns-in-Exclusive-clause-refused
returns-in-Exclusive-clause-refused c = (
  λ e. cc,
  λ r. absurd (none_refuses c.args.readers c.args.session (omega arith) c.requires c.if-readers-session-eq0.true
      (subst (λ mode. Refuses (Some (Readers c.args.readers)) c.args.session mode) c.in-Exclusive.is r)),
)

pub returns-in-Exclusive-2-clause-refused : goal.returns-in-Exclusive-2-clause-refused
returns-in-Exclusive-2-clause-refused c = (
  λ e. subst (λ mode. Refuses (Some (Readers c.args.readers)) c.args.session mode) (sym c.in-Exclusive-2.is)
      (other_refuses c.args.readers c.args.session (omega arith) c.requires (let some : 0 < others c.args.readers c.args.session = omega arith in some)),
  λ r. refl,
)
