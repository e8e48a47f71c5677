-- What the commands of a script ask of threads.
use Rattle.std.specs.Prelude.{◌≡◌, ℕ, ◌+◌, ◌==◌, Bool, not, vec_len, if◌then◌else◌, List, [], ◌∷◌, filter, flat_map, map}
use Rattle.image.specs.declared.images.Kind.{Kind}
use Rattle.procedure.specs.Bytes.{Bytes}
use Rattle.procedure.specs.declared.instructions.Call as procedure
use Rattle.workers.specs.declared.runs.Script.{Script}
use Rattle.calcdb.specs.declared.commands.NewCall.{NewCall}
use Rattle.calcdb.specs.declared.thread_commands.ThreadCommand.{ThreadCommand}
use Rattle.calcdb.specs.declared.thread_commands.ThreadCommand.TheVariants.{Call, Checkpoint, View}

-- the commands of a script that is run in threads
abbrev pub ThreadCommands : Type 0
ThreadCommands = List (ThreadCommand (List Bytes))

abbrev pub kind_asked : ThreadCommand (List Bytes) → List Kind
kind_asked (Call c) = []
kind_asked (Checkpoint k) = k ∷ []
kind_asked (View key) = []

abbrev pub key_asked : ThreadCommand (List Bytes) → List Bytes
key_asked (Call c) = []
key_asked (Checkpoint k) = []
key_asked (View key) = key ∷ []

abbrev pub call_asked : ThreadCommand (List Bytes) → List (NewCall (List Bytes))
call_asked (Call c) = c ∷ []
call_asked (Checkpoint k) = []
call_asked (View key) = []

-- the kinds of the checkpoints, in order
abbrev pub kinds_of : ThreadCommands → List Kind
kinds_of commands = flat_map kind_asked commands

-- the keys that are looked up, in order
abbrev pub keys_of : ThreadCommands → List Bytes
keys_of commands = flat_map key_asked commands

-- the calls, in order
abbrev pub call_commands : ThreadCommands → List (NewCall (List Bytes))
call_commands commands = flat_map call_asked commands

-- a call of this session
abbrev pub is_of : ℕ → NewCall (List Bytes) → Bool
is_of s c = c.session == s

-- the calls of a session, in order
abbrev pub calls_of : ℕ → ThreadCommands → List (NewCall (List Bytes))
calls_of s commands = filter (is_of s) (call_commands commands)

module _ {A : Type 0} where
  -- a call as a command has it
  abbrev pub as_command : procedure.Call A → NewCall (List Bytes)
  as_command c = record { session = c.session; number = c.number; procedure = c.procedure; args = c.args }

  abbrev pub script_calls : ℕ → Script A → List (NewCall (List Bytes))
  script_calls s x = if x.session == s then map as_command x.calls.items else []

  -- the calls of a session in scripts
  abbrev pub calls_in : ℕ → List (Script A) → List (NewCall (List Bytes))
  calls_in s scripts = flat_map (script_calls s) scripts

  -- a script has a call
  abbrev pub has_calls : Script A → Bool
  has_calls x = not (vec_len x.calls == 0)

  -- the sessions of scripts are the numbers from n on
  abbrev pub AreNumbered : ℕ → List (Script A) → Type 0
  AreNumbered n [] = Unit {0}
  AreNumbered n (x ∷ xs) = (x.session ≡ n) × AreNumbered (n + 1) xs
