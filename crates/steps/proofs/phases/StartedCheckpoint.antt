-- A core after a checkpoint began.
use Rattle.std.proofs.Common.{◌≡◌, Some, None, suc, ◌+◌, [], ◌∷◌, ◌++◌, refl, sym, ap, ◌∙◌, arith, true≢false, Bool, true, not, ◌&&◌, Option, is_none, length}
use Rattle.phase.specs.declared.phases.Phase.TheVariants.{Rest, Prepare}
use Rattle.commitlog.specs.Logs.{Log}
use Rattle.commitlog.specs.Histories.{number_of, phase_of}
use Rattle.commitlog.specs.Records.{Token}
use Rattle.image.specs.declared.images.Kind.{Kind}
use Rattle.steps.specs.inside.CoreFields.{IsCore, view_of}
use Rattle.steps.specs.CoreViews.{CoreView}
use Rattle.steps.specs.Checkpointing.{started}
use Rattle.steps.specs.machine.Machine.{Starts, more, start}
use Rattle.steps.specs.declared.checkpoints.Way.{Way}
use Rattle.steps.specs.declared.cores.Core.TheInside.{Inside}
use Rattle.steps.proofs.phases.AddedToken.{number_is, token_core}
use Rattle.std.specs.Prelude.{◌==◌}
use Rattle.std.specs.Option.{option_or}
use Rattle.phase.specs.declared.phases.Phase.{Phase}
use Rattle.commitlog.specs.declared.limits.TheConstants.{LOG_RECORDS}
use Rattle.image.specs.Images.{Image}
use Rattle.image.specs.declared.headers.Header.{Header}
use Rattle.steps.specs.Refusals.{is_rest, start_refusal, refused_unless}
use Rattle.steps.specs.declared.errors.StartError.TheVariants as starting
use Rattle.steps.proofs.sessions.AcceptedCalls.{passes}
use Rattle.steps.proofs.views.CoreState.{phase_by}

-- WHERE ONE MAY BEGIN

rest_is : (p : Phase) → is_rest p ≡ true → p ≡ Rest
rest_is Rest e = refl
rest_is _ e = absurd (true≢false (sym e))

untaken :
    (b : Bool) (w : Option Image) (h : Option Header) (full : Bool) →
    option_or (refused_unless b starting.NotAtRest) (option_or (refused_unless (is_none w && is_none h) starting.NotTaken) (refused_unless (not full) starting.LogFull)) ≡ None → h ≡ None
untaken true None None full e = refl
untaken _ _ _ full e = absurd (cc)

module _ {A : Type 0} (c : Inside A) (ok : IsCore c) (v : CoreView) (same : view_of c ≡ v) (starts : start_refusal v ≡ None) where
  -- where a checkpoint may begin none runs
  pub starts_at_rest : c.phase ≡ Rest
  starts_at_rest = phase_by c ok same (rest_is (phase_of v.log) (passes (is_rest (phase_of v.log)) starting.NotAtRest _ starts).0)

  -- and no header waits
  pub starts_untaken : c.checkpoint.header ≡ None
  starts_untaken = ap (λ (w : CoreView). w.checkpoint.header) same ∙ untaken (is_rest (phase_of v.log)) v.checkpoint.waiting v.checkpoint.header (length v.log == LOG_RECORDS) starts

-- IT BEGINS

module _ {A : Type 0} (c : Inside A) (ok : IsCore c) (kind : Kind) (way : Way) (log : Log) (at_rest : c.phase ≡ Rest) (untaken : c.checkpoint.header ≡ None) (log_is : log.records ≡ c.log.records ++ Token Prepare (c.checkpoint.number + 1) ∷ []) where
  abbrev after_start : Inside A
  after_start = record c { log = log; phase = Prepare; checkpoint = record c.checkpoint { number = c.checkpoint.number + 1; kind = kind; way = way } }

  next_is : c.checkpoint.number + 1 ≡ suc ok.world.number
  next_is = let kept = ok.stands.checkpoint.number in omega (arith, kept)

  log_as : log.records ≡ c.log.records ++ Token Prepare (suc ok.world.number) ∷ []
  log_as = log_is ∙ ap (λ n. c.log.records ++ Token Prepare n ∷ []) next_is

  pub start_core : IsCore after_start
  start_core =
      token_core c ok Prepare (suc ok.world.number) log.records log_as log refl c.store c.changed (record c.checkpoint { number = c.checkpoint.number + 1; kind = kind; way = way }) c.aside
      (start ok.world kind) (refl, refl, refl, refl, refl)
      (more ok.run (Starts kind (ok.stands.phase ∙ at_rest)))
      ok.stands.versions ok.stands.collecting ok.stands.frozen
      record {
        number = sym next_is;
        finished = ok.stands.checkpoint.finished;
        kind = refl;
        place = λ cutting. absurd (true≢false (sym cutting));
        scan = tt;
        waits = ok.stands.checkpoint.waits;
        heads = λ h is. absurd (let no_header : None ≡ Some h = sym untaken ∙ is in cc);
        none_yet = λ unfinished. untaken;
      }
      ok.aside

  pub start_number : (v : CoreView) → view_of c ≡ v → c.checkpoint.number + 1 ≡ suc (number_of v.log)
  start_number v same = next_is ∙ ap suc (number_is c ok) ∙ ap (λ (w : CoreView). suc (number_of w.log)) same

  pub start_view : (v : CoreView) → view_of c ≡ v → view_of after_start ≡ started v kind way
  start_view v same =
      ap (λ l. record (view_of after_start) { log = l }) (log_as ∙ ap (λ n. c.log.records ++ Token Prepare (suc n) ∷ []) (number_is c ok))
      ∙ ap (λ w. started w kind way) same
