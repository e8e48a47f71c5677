-- What the words of a command line ask for.
use Rattle.std.specs.Prelude.{◌≡◌, ◌⊎◌, Bool, true, false, codes, fold, if◌then◌else◌, is_some, not, List, [], ◌∷◌, map, option_map, Option, None, Some}
use Rattle.std.specs.Str.{bytes_eq}
use Rattle.clap.specs.Faults.{fault_of}
use Rattle.clap.specs.Kinds.{HasKind}
use Rattle.clap.specs.Values.{kind_of}
use Rattle.clap.specs.Walk.{Row, Rule, Text, all_of, first_of}
use Rattle.clap.specs.Simple.{App, new_app, new_rule, on_top, subcommand_of, with_rule, with_subcommand}
use Rattle.clap.specs.declared.builder.action.ArgAction.TheVariants.{Append, SetTrue}
use Rattle.clap.specs.declared.builder.value_parser.ValueParser.TheVariants.{NonEmptyString}
use Rattle.clap.specs.declared.error.Error.{Error}
use Rattle.clap.specs.declared.error.kind.ErrorKind.TheVariants.{ArgumentConflict, MissingSubcommand}
use Rattle.calcdb.specs.declared.command_line.Task.{Task}
use Rattle.calcdb.specs.declared.command_line.Task.TheVariants.{Load, Merge, Recover, Run, Show}

-- an argument that has to be given
abbrev pub required : Text → Rule
required name = record (new_rule name) { required = true }

-- one that is given behind a flag, or not at all
abbrev pub flagged : Text → Text → Rule
flagged flag name = record (new_rule name) { long = Some flag }

-- a flag alone, which is given or not
abbrev pub switched : Text → Text → Rule
switched flag name = record (new_rule name) { long = Some flag; action = Some SetTrue }

-- the flag by which standard error gets lines of how far the work is
abbrev pub progress_rule : Rule
progress_rule = switched (codes "progress") (codes "PROGRESS")

-- one that has to be given, and may be given again
abbrev pub repeated : Text → Rule
repeated name = record (required name) { action = Some Append }

-- one that names what is written, and isn't empty
abbrev pub written : Rule → Rule
written rule = record rule { parser = Some NonEmptyString }

-- a command with these arguments
abbrev pub app : Text → List Rule → App
app name rules = fold with_rule (new_app name) rules

-- `run SCRIPT [--open IMAGE] [--out DIR] [--live] [--sync] [--threads] [--progress]`
abbrev pub run_app : App
run_app =
    app (codes "run")
    (required (codes "SCRIPT") ∷ flagged (codes "open") (codes "IMAGE") ∷ written (flagged (codes "out") (codes "DIR")) ∷ switched (codes "live") (codes "LIVE") ∷ switched (codes "sync") (codes "SYNC")
    ∷ switched (codes "threads") (codes "THREADS") ∷ progress_rule ∷ [])

-- `load PAIRS OUT [--progress]`
abbrev pub load_app : App
load_app = app (codes "load") (required (codes "PAIRS") ∷ written (required (codes "OUT")) ∷ progress_rule ∷ [])

-- `merge OUT IMAGE... [--progress]`
abbrev pub merge_app : App
merge_app = app (codes "merge") (written (required (codes "OUT")) ∷ repeated (codes "IMAGE") ∷ progress_rule ∷ [])

-- `recover SCRIPT LOG OUT IMAGE... [--progress]`
abbrev pub recover_app : App
recover_app = app (codes "recover") (required (codes "SCRIPT") ∷ required (codes "LOG") ∷ written (required (codes "OUT")) ∷ repeated (codes "IMAGE") ∷ progress_rule ∷ [])

-- `show FILE`
abbrev pub show_app : App
show_app = app (codes "show") (required (codes "FILE") ∷ [])

-- the program's commands
unfoldable pub calcdb_app : App
calcdb_app =
    let top = on_top (λ s. record s { subcommand_required = true; arg_required_else_help = true; has_version = true }) (new_app (codes "calcdb")) in
    fold (λ a s. with_subcommand a s.top) top (run_app ∷ load_app ∷ merge_app ∷ recover_app ∷ show_app ∷ [])

-- the text of a flag that was given
abbrev pub says_true : Option Text → Bool
says_true None = false
says_true (Some t) = bytes_eq t (codes "true")

-- a flag alone was given
abbrev pub is_given : Text → List Row → Bool
is_given name rows = says_true (first_of name rows)

-- what a command's name and its matches ask for
abbrev pub AsksFor : Text × List Row → Task → Type 0
AsksFor given (Run files) =
    (given.0 ≡ codes "run") × (first_of (codes "SCRIPT") given.1 ≡ Some files.script.now)
    × (first_of (codes "IMAGE") given.1 ≡ option_map (λ s. s.now) files.opening)
    × (first_of (codes "DIR") given.1 ≡ option_map (λ s. s.now) files.folder)
    × (files.live ≡ is_given (codes "LIVE") given.1) × (files.sync ≡ is_given (codes "SYNC") given.1)
    × (files.threads ≡ is_given (codes "THREADS") given.1) × (files.progress ≡ is_given (codes "PROGRESS") given.1)
AsksFor given (Load pairs out progress) =
    (given.0 ≡ codes "load") × (first_of (codes "PAIRS") given.1 ≡ Some pairs.now) × (first_of (codes "OUT") given.1 ≡ Some out.now)
    × (progress ≡ is_given (codes "PROGRESS") given.1)
AsksFor given (Merge out images progress) =
    (given.0 ≡ codes "merge") × (first_of (codes "OUT") given.1 ≡ Some out.now)
    × (all_of (codes "IMAGE") given.1 ≡ Some (map (λ s. s.now) images.items)) × (progress ≡ is_given (codes "PROGRESS") given.1)
AsksFor given (Recover script log out images progress) =
    (given.0 ≡ codes "recover") × (first_of (codes "SCRIPT") given.1 ≡ Some script.now)
    × (first_of (codes "LOG") given.1 ≡ Some log.now) × (first_of (codes "OUT") given.1 ≡ Some out.now)
    × (all_of (codes "IMAGE") given.1 ≡ Some (map (λ s. s.now) images.items)) × (progress ≡ is_given (codes "PROGRESS") given.1)
AsksFor given (Show file) = (given.0 ≡ codes "show") × (first_of (codes "FILE") given.1 ≡ Some file.now)

abbrev pub IsTask : List Text → Task → Type 0
IsTask words task = (given : Text × List Row) × (subcommand_of calcdb_app words ≡ Some given) × AsksFor given task

abbrev pub AsksForNothing : Text × List Row → Type 0
AsksForNothing given = (t : Task) → AsksFor given t → ⊥

abbrev pub IsNoTask : List Text → Type 0
IsNoTask words = (t : Task) → IsTask words t → ⊥

-- `--live` wants a folder, and `--sync` wants `--live`
abbrev pub goes_together : Task → Bool
goes_together (Run files) = if files.live then is_some files.folder else not files.sync
goes_together (Load pairs out progress) = true
goes_together (Merge out images progress) = true
goes_together (Recover script log out images progress) = true
goes_together (Show file) = true

-- the words are a run whose options don't go together
abbrev pub IsApart : List Text → Type 0
IsApart words = (t : Task) × IsTask words t × (goes_together t ≡ false)

-- why the words are refused: memory ran out, or clap finds a fault of this kind; or they are no task; or a run whose options don't go together
abbrev pub IsRefused : List Text → Error → Type 0
IsRefused words e =
    HasKind (fault_of calcdb_app words) e ⊎ ((kind_of e ≡ MissingSubcommand) × IsNoTask words) ⊎ ((kind_of e ≡ ArgumentConflict) × IsApart words)
