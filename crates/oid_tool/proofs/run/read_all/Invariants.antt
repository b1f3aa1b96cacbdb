use Rattle.std.proofs.Common.{◌≤◌, ◌-◌, take}
use Rattle.std.specs.Io.KnownBytes.{Consumes}
use Rattle.oid_tool.specs.declared.run.TheConstants.{BUFFER_LEN}
use Rattle.oid_tool.proofs.run.read_all.Given as goal

abbrev pub invariant-loop-len : goal.invariant-loop-len
invariant-loop-len g l = record {
  within : l.len ≤ BUFFER_LEN;
  consumed : Consumes (g.R.Read.remaining l.initial.input) (g.R.Read.remaining l.input) (take l.len l.buffer);
}

abbrev pub decreases-loop-len : goal.decreases-loop-len
decreases-loop-len g l = BUFFER_LEN - l.len
