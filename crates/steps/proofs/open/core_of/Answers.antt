use Rattle.std.proofs.Common.{ap, refl}
use Rattle.phase.specs.declared.phases.Phase.TheVariants.{Rest}
use Rattle.record_store.specs.ChangedSets.{ChangedSets}
use Rattle.steps.specs.declared.reclaiming.Aside.TheVariants.{Unknown}
use Rattle.steps.proofs.views.OpenedCore.{opened_core, opened_view}
use Rattle.steps.proofs.open.core_of.Goals as goal

pub invariant_of-result : goal.invariant_of-result
invariant_of-result g c =
    opened_core _ c.procedures-procedures.ensures.lawful c.requires.opening c.new.ensures c.requires.calls c.requires.last c.requires.locks c.new-3.ensures
    (ap (λ (s : ChangedSets). s.collecting) c.new-2.ensures) (ap (λ (s : ChangedSets). s.frozen) c.new-2.ensures) refl
    c.requires.store.versions c.len-records.ensures.most c.none.ensures.seen c.none.ensures.number c.none.ensures.finished refl

pub returns : goal.returns
returns g c =
    opened_view (record {
      alloc = c.args.alloc;
      catalog = c.args.catalog;
      opening = c.args.opening;
      log = c.new.result;
      store = c.args.store;
      locks = c.args.sessions.locks;
      changed = c.new-2.result;
      calls = c.args.sessions.calls;
      rooms = c.args.sessions.rooms;
      active = c.new-3.result;
      last = c.args.sessions.last;
      phase = Rest;
      checkpoint = c.none.result;
      aside = Unknown;
    }) c.procedures-procedures.ensures.lawful c.requires.opening c.new.ensures c.requires.calls c.requires.last c.requires.locks c.new-3.ensures
    (ap (λ (s : ChangedSets). s.collecting) c.new-2.ensures) (ap (λ (s : ChangedSets). s.frozen) c.new-2.ensures) refl
    c.requires.store.versions c.len-records.ensures.most c.none.ensures.seen c.none.ensures.number c.none.ensures.finished refl c.requires.store.slots
