use Rattle.std.proofs.Common.{[], append-nil, sym}
use Rattle.const_oid.specs.{OidRef.ref_arcs, Rows.{rows_in, IsNearestRow}}
use Rattle.const_oid.proofs.Encodings.{ref_encoding}
use Rattle.const_oid.proofs.NearestRows.{further_up, none_above}
use Rattle.const_oid.proofs.Shown.{parent_begins}
use Rattle.const_oid.proofs.tables.Tables.nearest.Goals as goal

pub loop-entry-init : goal.loop-entry-init
loop-entry-init c = record { begins = ([], sym (append-nil (ref_arcs c.args.oid))); longest = λ k d below begun. begun }

pub returns-in-Some-clause-found : goal.returns-in-Some-clause-found
returns-in-Some-clause-found c =
    let l = c.loop-entry in
    let entry = c.in-Some.entry in
    let nearest : IsNearestRow (rows_in c.args.self.now) (ref_arcs c.args.oid) (ref_arcs entry.0) entry.1.now =
    rw c.in-Some.ensures.oid (record { begins = l.invariant.begins; first = sym c.in-Some.ensures.name; longest = l.invariant.longest }) in
    nearest

pub loop-entry-preserved : goal.loop-entry-preserved
loop-entry-preserved c =
    let l = c.loop-entry in
    let arcs = ref_arcs c.args.oid in
    let parent = c.in_ok-above.ensures.arcs in
    record {
      begins = (parent_begins arcs (ref_arcs l.above) (ref_arcs c.in_ok-above.above) l.invariant.begins parent).0;
      longest = further_up (rows_in c.args.self.now) arcs (ref_arcs l.above) l.invariant.longest c.in_default.ensures.name _ parent;
    }

pub returns-in_err-above-clause-none : goal.returns-in_err-above-clause-none
returns-in_err-above-clause-none c =
    let l = c.loop-entry in
    rw c.from_residual.ensures (none_above (rows_in c.args.self.now) (ref_arcs c.args.oid) (ref_arcs l.above) l.invariant.longest
    c.in_default.ensures.name (ref_encoding l.above).identifier c.in_err-above.ensures.arcs)
