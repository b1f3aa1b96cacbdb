use Rattle.std.proofs.Common.{arith}
use Rattle.const_oid.proofs.{Encodings.oid_encoding, Lengths.size_push, Tree.{child_none, child_arcs}}
use Rattle.const_oid.proofs.oid.ObjectIdentifier.push_arc.Goals as goal

pub returns-in-Err-clause-fits : goal.returns-in-Err-clause-fits
returns-in-Err-clause-fits g c =
    rw (size_push _ _ _ c.args.arc (oid_encoding c.args.self)) (c.in-Err.ensures.0, c.in-Err.ensures.1)

pub invariant_of-result : goal.invariant_of-result
invariant_of-result g c =
    record { valid = child_none _ c.args.arc (oid_encoding c.args.self) (omega arith) c.in-Ok.ensures.1 }

pub returns-in-Ok-clause-fits : goal.returns-in-Ok-clause-fits
returns-in-Ok-clause-fits g c = rw (size_push _ _ _ c.args.arc (oid_encoding c.args.self)) c.in-Ok.ensures.0

pub returns-in-Ok-clause-child : goal.returns-in-Ok-clause-child
returns-in-Ok-clause-child g c =
    child_arcs _ c.args.arc (oid_encoding c.args.self) (omega arith) c.in-Ok.ensures.1
