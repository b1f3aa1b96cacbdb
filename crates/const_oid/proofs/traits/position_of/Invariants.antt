use Rattle.std.proofs.Common.{◌≢◌}
use Rattle.std.specs.List.{AllWithin}
use Rattle.const_oid.specs.Oid.{oid_arcs}
use Rattle.const_oid.proofs.traits.position_of.Given as goal

-- no value before this index has the identifier
abbrev pub invariant-loop-index : goal.invariant-loop-index
invariant-loop-index g l = AllWithin
    (λ value. (goal.DynAssociatedOid-dyn g (value.vtable, value.value)).value_arcs value.value ≢ oid_arcs l.oid) l.values 0 l.index
