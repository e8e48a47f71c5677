-- The path of a file that is made.
use Rattle.std.specs.List.{ends_with}
use Rattle.std.specs.Prelude.{◌==◌, ◌++◌, if◌then◌else◌, codes, Option, Some}
use Rattle.procedure.specs.Bytes.{Bytes}
use Rattle.calcdb.specs.RunFiles.{file_name}
use Rattle.calcdb.specs.declared.faults.failures.OutFile.{OutFile}
use Rattle.calcdb.specs.declared.faults.failures.OutFile.TheVariants.{InFolder, Named}

-- a folder's name, which gets a slash where it ends in none
abbrev pub with_slash : Bytes → Bytes
with_slash folder = if ends_with (λ a b. a == b) folder (codes "/") then folder else folder ++ codes "/"

-- a file that the command line names prints as this name, and one in a folder as its path
abbrev pub out_file_text : OutFile → Option Bytes
out_file_text (Named name) = Some name.now
out_file_text (InFolder folder file) = Some (with_slash folder.now ++ file_name file)
