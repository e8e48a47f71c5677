use Rattle.std.proofs.Common.{◌≡◌, ◌≤◌, ◌+◌, ◌∷◌, arith, drop, length, sym, subst}
use Rattle.std.specs.List.{AllByRecursion}
use Rattle.std.proofs.lemmas.List.{drop_all}
use Rattle.procedure.proofs.WriteProgress.{next_item}
use Rattle.commitlog.specs.declared.formats.Version.TheVariants.{Two}
use Rattle.commitlog.specs.declared.limits.TheConstants.{BODY_BYTES}
use Rattle.commitlog.specs.LogBytes.{Fits, body}
use Rattle.commitlog.specs.Records.{Record}
use Rattle.commitlog.proofs.encoding.longest_body.Goals as goal
use Rattle.commitlog.proofs.encoding.longest_body.Goals.{then-longest-length, else-longest-length}

pub loop-record-preserved : goal.loop-record-preserved
loop-record-preserved g c =
    let l = c.loop-record in
    let rs = c.args.records.now in
    let r = c.record-item.result in
    let here = c.body_length-length.ensures in
    let longest = c.if-longest-length.longest in
    let next : drop l.record-index rs ≡ r ∷ drop (l.record-index + 1) rs = next_item rs l.record-index r c.loop-record-test.true c.record-item.is in
    let greater : (l.longest ≤ longest) × (c.body_length-length.result ≤ longest) × (longest ≤ BODY_BYTES) = elim c.if-longest-length.branch [
      | then-longest-length w ↦ (omega (arith, w.if-longest-length, w.longest-is), omega (arith, w.longest-is), omega (arith, w.longest-is, here.most))
      | else-longest-length w ↦ (omega (arith, w.longest-is), omega (arith, w.if-longest-length, w.longest-is), omega (arith, w.longest-is, l.invariant.most))
    ] in
    record {
      longest = λ most le rest.
          l.invariant.longest most (omega (arith, greater.0, le))
          (subst (AllByRecursion (λ (r : Record). length (body r) ≤ most)) (sym next) (omega (arith, here.length, greater.1, le), rest));
      fits = λ rest. l.invariant.fits (subst (AllByRecursion (Fits Two)) (sym next) (here.fits, rest));
      most = greater.2;
    }

pub returns-clause-longest : goal.returns-clause-longest
returns-clause-longest g c =
    let l = c.loop-record in
    l.invariant.longest l.longest (omega arith)
    (subst (AllByRecursion (λ (r : Record). length (body r) ≤ l.longest)) (sym (drop_all l.record-index c.args.records.now c.loop-record-test.false)) tt)
