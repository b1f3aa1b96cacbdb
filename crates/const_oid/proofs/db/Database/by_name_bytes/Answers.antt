use Rattle.std.proofs.Common.{arith, ap, sym}
use Rattle.std.specs.Option.{option_map}
use Rattle.const_oid.specs.{Names.oid_of}
use Rattle.const_oid.proofs.Linked.{finds, finds_none, goes_on, goes_past, same_names, starts}
use Rattle.const_oid.proofs.db.Database.by_name_bytes.Goals as goal

pub loop-index-init : goal.loop-index-init
loop-index-init c =
    let first = c.first_candidate-index.ensures in
    starts _ _ _ _ _ (same_names c.args.name.now) c.args.self.now.by_name c.first_candidate-index.result first.linked first.scanned

pub loop-index-preserved : goal.loop-index-preserved
loop-index-preserved c =
    let next = c.next_candidate-index.ensures in
    let reached = c.loop-index.invariant in
    goes_past _ _ _ _ _ (same_names c.args.name.now) c.args.self.now.by_name 0 c.loop-index.index _ c.index-self-index.result c.loop-index-test.true (rw c.as_bytes.ensures.value at (sym c.if-is_same_name.ensures)) reached
    (goes_on _ _ _ _ _ (same_names c.args.name.now) c.args.self.now.by_name c.loop-index.index _ c.loop-index-test.true next.linked next.scanned reached.there)

pub loop-index-smaller : goal.loop-index-smaller
loop-index-smaller c =
    let next = c.next_candidate-index.ensures in
    let more = goes_on _ _ _ _ _ (same_names c.args.name.now) c.args.self.now.by_name c.loop-index.index _ c.loop-index-test.true next.linked next.scanned c.loop-index.invariant.there in
    omega (arith, more.after)

pub returns-then-is_same_name : goal.returns-then-is_same_name
returns-then-is_same_name c =
    ap (option_map oid_of) (finds _ _ _ _ _ (same_names c.args.name.now) c.args.self.now.by_name c.loop-index.index c.index-self-index.result
    c.loop-index-test.true (rw c.as_bytes.ensures.value at (sym c.if-is_same_name.ensures)) c.loop-index.invariant)

pub returns : goal.returns
returns c = ap (option_map oid_of) (finds_none _ _ _ _ _ (same_names c.args.name.now) c.args.self.now.by_name c.loop-index.index c.loop-index-test.false c.loop-index.invariant)
