use Rattle.std.proofs.Common.{◌≡◌, map, ap, refl}
use Rattle.const_oid.specs.{Names.sorted_entries_of, OidRef.ref_arcs}
use Rattle.const_oid.proofs.Identifiers.{sorted_rows}
use Rattle.examples.specs.AttributeTypes.{attribute_types}
use Rattle.examples.proofs.Rows.{row_of, row_found}
use Rattle.examples.proofs.table.is_attribute_type.Goals as goal

pub new-requires : goal.new-requires
new-requires c = sorted_rows 4 _ (λ d. refl)

pub returns : goal.returns
unfolding attribute_types
returns c =
    let entries = sorted_entries_of c.new.result in
    let rows : map row_of entries ≡ attribute_types = ap (map row_of) c.new.ensures in
    let arcs = ref_arcs c.args.oid.now in
    row_found entries attribute_types rows arcs c.by_oid.result _ c.by_oid.ensures c.is_some.ensures
