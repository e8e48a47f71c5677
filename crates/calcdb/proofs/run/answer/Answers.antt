use Rattle.std.proofs.Common.{List, Err, length, subst}
use Rattle.std.specs.Io.KnownBytes.{Appends}
use Rattle.std.proofs.KnownBytes.{Appends-nil}
use Rattle.procedure.specs.Bytes.{Bytes}
use Rattle.commitlog.specs.Records.{Record}
use Rattle.calcdb.specs.Journals.{Taken}
use Rattle.calcdb.specs.Runs.{Carries, Images, Sent, images_shown, shown_text}
use Rattle.calcdb.proofs.CarryingOn.{carried_on}
use Rattle.calcdb.proofs.Keeping.{all_taken, noted_before}
use Rattle.calcdb.proofs.run.answer.Goals as goal

pub keep-requires : goal.keep-requires
keep-requires g c =
    let text : Bytes = shown_text c.carry_out-shown.new.core.log c.carry_out-shown.result in
    let taken : Images = images_shown c.carry_out-shown.result in
    let on = carried_on (Carries c.args.core.now.catalog c.args.command) c.args.core.now c.carry_out-shown.new.core text taken c.carry_out-shown.ensures in
    noted_before c.args.core.now c.carry_out-shown.new.core c.records-noted.result.now c.records-noted.ensures.value on

pub returns-in-Err : goal.returns-in-Err
returns-in-Err g c =
    let old = c.args.core.now in
    let new = c.carry_out-shown.new.core in
    let text : Bytes = shown_text c.carry_out-shown.new.core.log c.carry_out-shown.result in
    let taken : Images = images_shown c.carry_out-shown.result in
    let on = carried_on (Carries old.catalog c.args.command) old new text taken c.carry_out-shown.ensures in (
      text,
      taken,
      c.carry_out-shown.ensures,
      Appends-nil (g.W.Write.contents c.args.writer.now),
      λ images has. tt,
      λ start images has.
          subst (λ (t : Taken). g.J.Journal.HasFront start c.keep.new.journal t (length old.log)) (all_taken old new c.records-noted.result.now images taken c.records-noted.ensures.value on) (c.in-Err.ensures.err start _ has),
    )

pub returns-in-Err-write_shown : goal.returns-in-Err-write_shown
returns-in-Err-write_shown g c =
    let old = c.args.core.now in
    let new = c.carry_out-shown.new.core in
    let text : Bytes = shown_text c.carry_out-shown.new.core.log c.carry_out-shown.result in
    let taken : Images = images_shown c.carry_out-shown.result in
    let on = carried_on (Carries old.catalog c.args.command) old new text taken c.carry_out-shown.ensures in (
      text,
      taken,
      c.carry_out-shown.ensures,
      subst (λ (l : List Record). Sent (Err c.in-Err-write_shown.fault) (g.W.Write.contents c.args.writer.now) (g.W.Write.contents c.write_shown.new.writer) (shown_text l c.carry_out-shown.result)) c.records.ensures.value c.in-Err-write_shown.ensures,
      λ images has. tt,
      λ start images has.
          subst (λ (t : Taken). g.J.Journal.Has start c.keep.new.journal t) (all_taken old new c.records-noted.result.now images taken c.records-noted.ensures.value on) (c.in-Ok.ensures.ok start _ has),
    )

pub returns : goal.returns
returns g c =
    let old = c.args.core.now in
    let new = c.carry_out-shown.new.core in
    let text : Bytes = shown_text c.carry_out-shown.new.core.log c.carry_out-shown.result in
    let taken : Images = images_shown c.carry_out-shown.result in
    let on = carried_on (Carries old.catalog c.args.command) old new text taken c.carry_out-shown.ensures in (
      text,
      taken,
      c.carry_out-shown.ensures,
      subst (λ (l : List Record). Appends (g.W.Write.contents c.args.writer.now) (g.W.Write.contents c.write_shown.new.writer) (shown_text l c.carry_out-shown.result)) c.records.ensures.value c.in-Ok-write_shown.ensures,
      λ images has. c.hand_on.ensures images has,
      λ start images has.
          subst (λ (t : Taken). g.J.Journal.Has start c.keep.new.journal t) (all_taken old new c.records-noted.result.now images taken c.records-noted.ensures.value on) (c.in-Ok.ensures.ok start _ has),
    )
