-- A program's commands, one by one, and what was given as an argument.
use Rattle.std.proofs.Common.{◌≡◌, ◌⊎◌, true, refl, inr, ap, ap₂, sym, false, ◌||◌, List, map, Option, Some, None, option_map, Result, Ok, Err, IfErr, IfOk, IsOkAnd, ◌∙◌}
use Rattle.std.specs.Borrow.{Bor}
use Rattle.std.specs.Option.{ok_or}
use Rattle.clap.specs.Built.{AddsArg, AddsSubcommand}
use Rattle.clap.specs.Faults.{is_simple_and_free}
use Rattle.clap.specs.Simple.{App, app_of, is_simple, with_rule, with_subcommand}
use Rattle.clap.specs.Walk.{Rule, Text, rule_of}
use Rattle.clap.specs.declared.builder.arg.Arg.{Arg}
use Rattle.clap.specs.declared.builder.command.Command.{Command}
use Rattle.clap.specs.declared.builder.command.Command.TheViews.{out-Command}
use Rattle.calcdb.specs.CommandLines.{calcdb_app}
use Rattle.calcdb.specs.declared.command_line.Unasked.{Unasked}
use Rattle.calcdb.specs.declared.command_line.Unasked.TheVariants.{NoMemory}

-- the command is this one, and no argument of it is global
abbrev pub IsApp : Command → App → Type 0
IsApp c a = (app_of c ≡ a) × ((out-Command c).has_globals ≡ false)

-- one argument more
pub argument_added : (old : Command) (x : Arg) (new : Command) (a : App) (r : Rule) → AddsArg old x new → rule_of x ≡ r → x.global ≡ false →
    IsApp old a → IsApp new (with_rule a r)
argument_added old x new a r h rule_is local old_is = (h.shape local ∙ ap₂ with_rule old_is.0 rule_is, h.globals ∙ ap₂ (λ g h. g || h) old_is.1 local)

-- one command more
pub command_added : {E : Type 0} (r : Result Command E) (old new : Command) (a s : App) → IsOkAnd r (λ sub. AddsSubcommand old sub new) →
    IfOk r (λ sub. app_of sub ≡ s) → IfOk r (λ sub. (out-Command sub).has_globals ≡ false) → app_of old ≡ a → app_of new ≡ with_subcommand a s.top
command_added (Ok sub) old new a s h sub_is local old_is = h.shape local ∙ ap₂ with_subcommand old_is (ap (λ (x : App). x.top) sub_is)
command_added (Err e) old new a s h sub_is local old_is = absurd h

-- clap says of the program's commands which matches and which faults the words have
pub commands_are_simple : (a : App) → a ≡ calcdb_app → is_simple a ≡ true
unfolding calcdb_app
commands_are_simple a is = rw is refl

pub commands_are_free : (a : App) → a ≡ calcdb_app → is_simple_and_free a ≡ true
unfolding calcdb_app
commands_are_free a is = rw is refl

-- the text that is there is the one that was given
pub given_text : {E : Type 0} (o : Option (Bor Text)) (e : E) (r : Result (Bor Text) E) (given : Option Text) →
    r ≡ ok_or o e → option_map (λ s. s.now) o ≡ given → IfOk r (λ s. given ≡ Some s.now)
given_text None e r given is same = rw is tt
given_text (Some s) e r given is same = rw is (sym same)

-- where no text is there, none was given
pub no_text : {E : Type 0} (o : Option (Bor Text)) (e : E) (r : Result (Bor Text) E) (given : Option Text) →
    r ≡ ok_or o e → option_map (λ s. s.now) o ≡ given → IfErr r (λ _. given ≡ None)
no_text None e r given is same = rw is (sym same)
no_text (Some s) e r given is same = rw is tt

-- the texts that are there are those that were given
pub given_texts : {E : Type 0} (o : Option (Bor (List (Bor Text)))) (e : E) (s : Bor (List (Bor Text))) (given : Option (List Text)) →
    Ok s ≡ ok_or o e → option_map (λ s. map (λ v. v.now) s.now) o ≡ given → given ≡ Some (map (λ v. v.now) s.now)
given_texts None e s given is same = absurd (cc)
given_texts (Some t) e s given is same =
    let same_text : t ≡ s = cc in
    sym same ∙ ap (λ (b : Bor (List (Bor Text))). Some (map (λ v. v.now) b.now)) same_text

-- where no texts are there, none were given
pub no_texts : {E : Type 0} (o : Option (Bor (List (Bor Text)))) (e x : E) (given : Option (List Text)) →
    Err x ≡ ok_or o e → option_map (λ s. map (λ v. v.now) s.now) o ≡ given → given ≡ None
no_texts None e x given is same = sym same
no_texts (Some s) e x given is same = absurd (cc)

-- what isn't refused for memory is refused for this
pub refused_for : {T : Type 0} (r : Result T Unasked) (B : Type 0) → B → IfErr r (λ e. (e ≡ NoMemory) ⊎ B)
refused_for (Ok t) B b = tt
refused_for (Err e) B b = inr b
