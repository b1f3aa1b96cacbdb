-- The texts of errors.
use Rattle.std.specs.Prelude.{ℕ, List, codes}
use Rattle.oid_tool.specs.declared.run.ToolError.{ToolError}
use Rattle.oid_tool.specs.declared.run.ToolError.TheVariants.{Read, Write, TooLong}

-- the text of an error
abbrev pub reason_of : ToolError → List ℕ
reason_of Read = codes "read failed"
reason_of Write = codes "write failed"
reason_of TooLong = codes "input too long"
