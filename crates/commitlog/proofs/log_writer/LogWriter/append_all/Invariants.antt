use Rattle.std.proofs.Common.{◌++◌, List, Option, take}
use Rattle.procedure.specs.Bytes.{Bytes}
use Rattle.commitlog.specs.Records.{Record}
use Rattle.commitlog.specs.LogWriters.{HasSent}
use Rattle.commitlog.specs.declared.formats.LogHeader.{LogHeader}
use Rattle.commitlog.proofs.log_writer.LogWriter.append_all.Given as goal

-- the records so far went out
abbrev pub invariant-loop-record : goal.invariant-loop-record
invariant-loop-record g l = (start : Option Bytes) (h : LogHeader) (rs : List Record) → HasSent start l.fn.self h rs → HasSent start l.self h (rs ++ take l.record-index l.records)
