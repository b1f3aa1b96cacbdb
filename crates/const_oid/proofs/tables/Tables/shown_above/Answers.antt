use Rattle.std.proofs.Common.{ap, sym, ◌∙◌}
use Rattle.const_oid.specs.{OidRef.{ref_arcs, ref_octets}, Rows.rows_in, Typed.displayed_up_to}
use Rattle.const_oid.proofs.Encodings.{ref_encoding}
use Rattle.const_oid.proofs.Shown.{begins_below, displayed_less, displayed_name, displayed_none, parent_begins}
use Rattle.const_oid.proofs.tables.Tables.shown_above.Goals as goal

pub returns-in-Some-shown : goal.returns-in-Some-shown
returns-in-Some-shown c =
    let l = c.loop-above in
    let arcs = ref_arcs c.args.oid in
    let (_, _, more) = parent_begins arcs (ref_arcs l.prefix) (ref_arcs c.in-Some.above) l.invariant.arcs c.in-Some.ensures.arcs in (
      l.invariant.begins,
      l.invariant.shorter ∙ displayed_name (rows_in c.args.self.now) arcs (ref_arcs l.prefix) l.invariant.arcs c.in-Some-shown.name.now
          more c.in-Some-shown.ensures,
    )

pub loop-above-preserved : goal.loop-above-preserved
loop-above-preserved c =
    let l = c.loop-above in
    let entries = rows_in c.args.self.now in
    let arcs = ref_arcs c.args.oid in
    let (above, fewer, more) = parent_begins arcs (ref_arcs l.prefix) (ref_arcs c.in-Some.above) l.invariant.arcs c.in-Some.ensures.arcs in
    record {
      begins = begins_below _ _ _ l.invariant.begins c.in-Some.ensures.prefix;
      arcs = above;
      shorter = l.invariant.shorter ∙ displayed_less entries arcs (ref_arcs l.prefix) l.invariant.arcs more c.in_default-shown.ensures ∙ ap (displayed_up_to entries arcs) (sym fewer);
    }

pub returns : goal.returns
returns c =
    let l = c.loop-above in
    l.invariant.shorter ∙ displayed_none (rows_in c.args.self.now) (ref_arcs c.args.oid) (ref_arcs l.prefix) (ref_octets l.prefix)
    (ref_encoding l.prefix) c.in_default.ensures.arcs
