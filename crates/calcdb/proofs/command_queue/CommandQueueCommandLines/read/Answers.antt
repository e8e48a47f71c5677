use Rattle.std.proofs.Common.{◌≡◌, ◌∙◌, ◌∷◌, List, Some, codes, refl, sym, ap}
use Rattle.std.specs.Cmp.Lexicographic.{same_text}
use Rattle.procedure.specs.Bytes.{Bytes}
use Rattle.calcdb.specs.Commands.{Names, command_of, new_call_of, with_more}
use Rattle.calcdb.specs.Lines.{words}
use Rattle.calcdb.specs.Reads.{◌>>=◌}
use Rattle.calcdb.specs.Values.{value_of}
use Rattle.calcdb.specs.declared.commands.Command.{Command}
use Rattle.calcdb.specs.declared.commands.Command.TheVariants as command
use Rattle.calcdb.proofs.Readers.{handed_on}
use Rattle.calcdb.proofs.command_queue.CommandQueueCommandLines.read.Goals as goal

-- a line that begins with `call`
called : (names : Names) (w : Bytes) (ws : List Bytes) → w ≡ codes "call" → command_of names (w ∷ ws) ≡ (new_call_of 65535 value_of names ws >>= λ n. Some (command.Call n))
unfolding command_of
called names w ws h = rw h refl

pub returns-in_err-call : goal.returns-in_err-call
returns-in_err-call g c =
    let ws = words c.args.rest.now in
    let is = called c.args.names.now c.args.word.now ws (same_text _ _ (sym c.if-is_word.true ∙ c.is_word.ensures)) in
    handed_on _ c.from_residual-in_err-call.result c.in_err-call.field-0.0 (new_call_of 65535 value_of c.args.names.now ws)
    (with_more command_of c.args.names.now c.args.self.now (c.args.word.now ∷ ws)) c.from_residual-in_err-call.ensures.1 c.in_err-call.ensures (λ none. rw (is, none) refl)

pub returns-then-is_word : goal.returns-then-is_word
returns-then-is_word g c =
    let ws = words c.args.rest.now in
    let is = called c.args.names.now c.args.word.now ws (same_text _ _ (sym c.if-is_word.true ∙ c.is_word.ensures)) in
    rw (is, c.in_ok-call.ensures) (ap (λ (l : List (Command (List Bytes))). Some l) (sym c.in_ok-push_call.ensures))
