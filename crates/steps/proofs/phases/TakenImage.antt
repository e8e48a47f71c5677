-- A core whose finished image is taken.
use Rattle.std.proofs.Common.{◌≡◌, ℕ, Bool, Option, Some, None, IfSome, refl, sym, ◌∙◌, subst}
use Rattle.procedure.specs.Bytes.{Bytes}
use Rattle.procedure.specs.Table.{Changes}
use Rattle.phase.specs.declared.phases.Phase.{Phase}
use Rattle.phase.specs.declared.phases.Phase.TheVariants.{Capture}
use Rattle.commitlog.specs.Cuts as cuts
use Rattle.image.specs.Headers.{FitsHeader, assembled}
use Rattle.image.specs.Images.{Image}
use Rattle.image.specs.declared.headers.Header.{Header}
use Rattle.image.specs.Merges.{table_of}
use Rattle.image.specs.declared.images.Kind.{Kind}
use Rattle.image.specs.declared.images.Kind.TheVariants.{Full, Partial}
use Rattle.steps.specs.inside.CoreFields.{IsCore}
use Rattle.steps.specs.CutImages.{IsOfKind, IsTaken, plain}
use Rattle.steps.specs.machine.ScheduleAnswers.{Among}
use Rattle.steps.specs.Promises.{ImagesAreCuts}
use Rattle.steps.specs.inside.CheckpointFields.{ScansIn, machine_image}
use Rattle.steps.specs.declared.checkpoints.Checkpoint.{Checkpoint}
use Rattle.steps.specs.declared.cores.Core.TheInside.{Inside}
use Rattle.steps.proofs.log.SchedulePromises.{all_schedules}
use Rattle.steps.proofs.views.CoreState.{stored_core}

pub each_some : {X : Type 0} (P : X → Type 0) (o : Option X) → ((x : X) → o ≡ Some x → P x) → IfSome o P
each_some P None f = tt
each_some P (Some x) f = f x refl

module _ {A : Type 0} where
  scan_taken :
      (p : Phase) (k : Checkpoint A) (waiting : Option Image) (header : Option Header) (spot : ℕ → Option Bytes) (seen wanted : Bytes → Bool) (given : Changes) →
      ScansIn p k spot seen wanted given → ScansIn p (record k { waiting = waiting; header = header }) spot seen wanted given
  scan_taken Capture k waiting header spot seen wanted given scan = record { visited = scan.visited; to_visit = scan.to_visit; within = scan.within; gave = scan.gave; once = scan.once; captured = scan.captured; count = scan.count; chain = scan.chain }
  scan_taken _ k waiting header spot seen wanted given scan = tt

  module _ (c : Inside A) (ok : IsCore c) where
    -- an image of the machine's is that of its cut
    made_taken : (i : Image) → Among (machine_image i) ok.world.images → IsTaken c.catalog (table_of c.opening) c.log.records i
    made_taken i among = record {
      has_cut = subst (λ l. cuts.HasCut l i.number) ok.stands.log (images.has_cut (machine_image i) among);
      cut = by i.kind refl;
    }
      where
        images : ImagesAreCuts c.catalog (table_of c.opening) ok.world
        images = (all_schedules c.catalog (table_of c.opening) ok.world ok.run).1

        by : (k : Kind) → i.kind ≡ k → IsOfKind k c.catalog (table_of c.opening) c.log.records (plain i)
        by Full e = subst (λ l. cuts.IsFullImage c.catalog (table_of c.opening) l (plain i)) ok.stands.log (images.full (machine_image i) among e)
        by Partial e = subst (λ l. cuts.IsPartialImage c.catalog (table_of c.opening) l (plain i)) ok.stands.log (images.partial (machine_image i) among e)

    -- so is the image that waits, and that of the header that waits
    pub waiting_taken : (i : Image) → c.checkpoint.waiting ≡ Some i → IsTaken c.catalog (table_of c.opening) c.log.records i
    waiting_taken i is = made_taken i (ok.stands.checkpoint.waits i is)

    pub header_made : (h : Header) → c.checkpoint.header ≡ Some h → IsTaken c.catalog (table_of c.opening) c.log.records (assembled h c.checkpoint.given.entries)
    header_made h is = made_taken (assembled h c.checkpoint.given.entries) (ok.stands.checkpoint.heads h is).makes

    pub header_fits : (h : Header) → c.checkpoint.header ≡ Some h → FitsHeader h c.checkpoint.given.entries
    header_fits h is = (ok.stands.checkpoint.heads h is).fits

    -- none waits
    pub header_core : (header : Option Header) → header ≡ None → IsCore (record c { checkpoint = record c.checkpoint { header = header } })
    header_core header none =
        stored_core c ok c.store c.aside (record c.checkpoint { header = header }) ok.world.versions ok.world.given ok.world.visited refl refl refl refl ok.run ok.stands.versions
        (scan_taken ok.world.phase c.checkpoint c.checkpoint.waiting header _ ok.world.visited ok.world.bound ok.world.given ok.stands.checkpoint.scan)
        ok.stands.checkpoint.waits (λ h is. absurd (let no_header : None ≡ Some h = sym none ∙ is in cc)) (λ unfinished. none) ok.aside

    pub take_core : (waiting : Option Image) → waiting ≡ None → IsCore (record c { checkpoint = record c.checkpoint { waiting = waiting } })
    take_core waiting none =
        stored_core c ok c.store c.aside (record c.checkpoint { waiting = waiting }) ok.world.versions ok.world.given ok.world.visited refl refl refl refl ok.run ok.stands.versions
        (scan_taken ok.world.phase c.checkpoint waiting c.checkpoint.header _ ok.world.visited ok.world.bound ok.world.given ok.stands.checkpoint.scan)
        (λ i is. absurd (let no_image : None ≡ Some i = sym none ∙ is in cc))
        ok.stands.checkpoint.heads ok.stands.checkpoint.none_yet ok.aside
