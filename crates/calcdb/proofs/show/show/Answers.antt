use Rattle.std.proofs.Common.{Bool, true, false, ◌≡◌, inl, inr}
use Rattle.calcdb.specs.Showing.{Prints, PrintsImage, PrintsLog}
use Rattle.calcdb.proofs.Shown.{ends_wider, text_wider}
use Rattle.calcdb.proofs.show.show.Goals as goal

not_both : (b : Bool) → b ≡ true → b ≡ false → ⊥
not_both b so not_so = cc

pub returns-then-begins_log-clause-fault : goal.returns-then-begins_log-clause-fault
returns-then-begins_log-clause-fault g c =
    ends_wider (PrintsLog c.args.bytes.now) (Prints c.args.bytes.now) (λ says h. inl (c.begins_log.ensures.0 c.if-begins_log.true, h)) (g.W.Write.contents c.args.writer.now)
    (g.W.Write.contents c.show_log.new.writer) c.show_log.result c.show_log.ensures.fault

pub returns-else-begins_log-clause-text : goal.returns-else-begins_log-clause-text
returns-else-begins_log-clause-text g c =
    text_wider (PrintsImage c.args.bytes.now) (Prints c.args.bytes.now) (λ says h. inr (λ begins. not_both c.begins_log.result (c.begins_log.ensures.1 begins) c.if-begins_log.false, h))
    (g.W.Write.contents c.args.writer.now) (g.W.Write.contents c.show_image.new.writer) c.show_image.result c.show_image.ensures.text

pub returns-else-begins_log-clause-fault : goal.returns-else-begins_log-clause-fault
returns-else-begins_log-clause-fault g c =
    ends_wider (PrintsImage c.args.bytes.now) (Prints c.args.bytes.now) (λ says h. inr (λ begins. not_both c.begins_log.result (c.begins_log.ensures.1 begins) c.if-begins_log.false, h))
    (g.W.Write.contents c.args.writer.now) (g.W.Write.contents c.show_image.new.writer) c.show_image.result c.show_image.ensures.fault
