use Rattle.std.proofs.Common.{arith, ap, sym}
use Rattle.std.specs.Option.{option_map}
use Rattle.const_oid.specs.{Names.name_of}
use Rattle.const_oid.specs.Oid.{oid_octets}
use Rattle.const_oid.proofs.Hashes.{no_bits, same_bytes}
use Rattle.const_oid.proofs.Linked.{finds, finds_none, goes_on, goes_past, same_oids, starts}
use Rattle.const_oid.proofs.db.Database.entry_of.Goals as goal

pub loop-index-init : goal.loop-index-init
loop-index-init c =
    let first = c.first_candidate-index.ensures in
    starts _ _ _ _ _ (same_oids c.args.oid.now) c.args.self.now.by_oid c.first_candidate-index.result (rw (c.as_bytes.ensures.octets, no_bits (oid_octets c.args.oid.now)) at first.linked) first.scanned

pub loop-index-preserved : goal.loop-index-preserved
loop-index-preserved c =
    let next = c.next_candidate-index.ensures in
    let reached = c.loop-index.invariant in
    goes_past _ _ _ _ _ (same_oids c.args.oid.now) c.args.self.now.by_oid 0 c.loop-index.index _ c.index-self-index.result c.loop-index-test.true (sym (c.if-has_oid.ensures)) reached
    (goes_on _ _ _ _ _ (same_oids c.args.oid.now) c.args.self.now.by_oid c.loop-index.index _ c.loop-index-test.true next.linked next.scanned reached.there)

pub loop-index-smaller : goal.loop-index-smaller
loop-index-smaller c =
    let next = c.next_candidate-index.ensures in
    let more = goes_on _ _ _ _ _ (same_oids c.args.oid.now) c.args.self.now.by_oid c.loop-index.index _ c.loop-index-test.true next.linked next.scanned c.loop-index.invariant.there in
    omega (arith, more.after)

pub returns-then-has_oid-clause-name : goal.returns-then-has_oid-clause-name
returns-then-has_oid-clause-name c =
    ap (option_map name_of) (finds _ _ _ _ _ (same_oids c.args.oid.now) c.args.self.now.by_oid c.loop-index.index c.index-self-index.result
    c.loop-index-test.true (sym (c.if-has_oid.ensures)) c.loop-index.invariant)

pub returns-clause-name : goal.returns-clause-name
returns-clause-name c = ap (option_map name_of) (finds_none _ _ _ _ _ (same_oids c.args.oid.now) c.args.self.now.by_oid c.loop-index.index c.loop-index-test.false c.loop-index.invariant)

pub returns-then-has_oid-clause-oid : goal.returns-then-has_oid-clause-oid
returns-then-has_oid-clause-oid c = same_bytes _ _ (sym c.if-has_oid.ensures)
