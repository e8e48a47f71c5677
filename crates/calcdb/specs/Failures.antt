-- The status of a process whose work isn't done, and what is said on standard error.
use Rattle.std.specs.Prelude.{ℕ, ◌++◌, codes, option_map, Option, None, Some, Result, Ok, Err}
use Rattle.procedure.specs.Bytes.{Bytes}
use Rattle.calcdb.specs.OutFiles.{out_file_text}
use Rattle.calcdb.specs.declared.faults.failures.Failure.{Failure}
use Rattle.calcdb.specs.declared.faults.failures.Failure.TheVariants as failure

-- 2 where the command line is faulty, and else 1
abbrev pub status_of : Failure → ℕ
status_of failure.Usage = 2
status_of (failure.FaultyLine name line) = 1
status_of (failure.LongText name) = 1
status_of (failure.Refused subject reason) = 1
status_of (failure.CannotRead name) = 1
status_of (failure.CannotWrite file) = 1
status_of failure.CannotPrint = 1
status_of failure.NoMemory = 1

-- and 0 where it is done
abbrev pub status_after : Result (Unit {0}) Failure → ℕ
status_after (Ok done) = 0
status_after (Err f) = status_of f

-- the lines that the formats fix
abbrev pub explanation : Failure → Option Bytes
explanation (failure.CannotRead name) = Some (codes "calcdb: cannot read " ++ name.now ++ codes "\n")
explanation (failure.CannotWrite file) = option_map (λ text. codes "calcdb: cannot write " ++ text ++ codes "\n") (out_file_text file)
explanation failure.CannotPrint = Some (codes "calcdb: cannot write output\n")
explanation failure.NoMemory = Some (codes "calcdb: no memory\n")
explanation (failure.FaultyLine name line) = None
explanation (failure.LongText name) = None
explanation (failure.Refused subject reason) = None
explanation failure.Usage = None
