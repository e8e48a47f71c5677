use Rattle.std.proofs.Common.{◌≡◌, Some, refl, sym, ◌∙◌, subst, ap}
use Rattle.std.proofs.lemmas.Result.{IfErr-weaker, IfOk-weaker}
use Rattle.procedure.specs.Bytes.{Bytes}
use Rattle.calcdb.specs.Pairs.{EndsLoad, IsLoadFault, IsLoadHeader, image_of_pairs}
use Rattle.calcdb.specs.Refusing.{no_memory}
use Rattle.calcdb.proofs.Declined.{declined}
use Rattle.calcdb.proofs.TextReadings.{long_pairs, same_reading}
use Rattle.calcdb.proofs.pairs.load.Goals as goal
use Rattle.calcdb.proofs.pairs.load.Goals.{After-load_text}

pub returns-in-Err-NoMemory-clause-fault : goal.returns-in-Err-NoMemory-clause-fault
returns-in-Err-NoMemory-clause-fault g c = λ source known.
    let says = image_of_pairs source in
    declined (IsLoadFault says) (IsLoadHeader says) (g.W.Write.contents c.args.writer.now) (g.W.Write.contents c.refuse.new.writer) no_memory c.refuse.result
    tt refl refl c.refuse.ensures

-- what was read says what the source does
same : (g : _) (c : After-load_text g) (source : Bytes) → g.R.Read.remaining c.args.reader.now ≡ Some source → image_of_pairs source ≡ image_of_pairs c.as_slice.result.now
same g c source known =
    same_reading image_of_pairs long_pairs (g.R.Read.remaining c.args.reader.now) (g.R.Read.remaining c.read_past.new.reader) source c.in-Ok.text.items known c.in-Ok.ensures.read c.in-Ok.ensures.end
    ∙ sym (ap image_of_pairs c.as_slice.ensures.value)

pub returns-clause-image : goal.returns-clause-image
returns-clause-image g c =
    IfOk-weaker c.load_text.result _ _ (λ i h source known. (same g (goal.at.returns-clause-image g c).After-load_text source known ∙ h.0, h.1)) c.load_text.ensures.ok

pub returns-clause-fault : goal.returns-clause-fault
returns-clause-fault g c =
    IfErr-weaker c.load_text.result _ _
    (λ f h source known.
    subst (λ says. EndsLoad says (g.W.Write.contents c.args.writer.now) (g.W.Write.contents c.load_text.new.writer) f) (sym (same g (goal.at.returns-clause-fault g c).After-load_text source known)) h)
    c.load_text.ensures.err
