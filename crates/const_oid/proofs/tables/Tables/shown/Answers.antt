use Rattle.std.proofs.Common.{◌≡◌, ◌<◌, ap, arith, length, ◌∙◌, sym}
use Rattle.std.proofs.lemmas.Grind.{common_steps}
use Rattle.std.specs.Option.{option_copied, option_map}
use Rattle.const_oid.specs.{Names.lent_arcs, Oid.oid_arcs, OidRef.{ref_arcs, ref_octets}, Rows.{named, rows_in}}
use Rattle.const_oid.proofs.Encodings.{ref_encoding, same_octets}
use Rattle.const_oid.proofs.Shown.{shown_name, shown_none, unnamed}
use Rattle.const_oid.proofs.tables.Tables.shown.Goals as goal

pub returns-in_err-oid : goal.returns-in_err-oid
returns-in_err-oid c =
    let oid = c.args.oid in
    let long : 39 < length (ref_octets oid) = grind (arith, common_steps) in
    rw c.from_residual.ensures (unnamed (ref_arcs oid) (rows_in c.args.self.now)
    (λ octets e. omega (arith, long, ap length (same_octets e (ref_encoding oid)))))

pub returns-then-eq_last_first : goal.returns-then-eq_last_first
returns-then-eq_last_first c =
    let entries = rows_in c.args.self.now in
    let same : oid_arcs c.in_ok-oid.oid ≡ ref_arcs c.args.oid = grind (arith, common_steps) in
    let first = ap (named entries) (sym same) ∙ sym c.by_oid.ensures ∙ ap option_copied c.in_ok-name.was in
    shown_name (ref_arcs c.args.oid) entries c.in_ok-name.name.now (lent_arcs c.in_ok-other.other) first
    (sym c.by_name.ensures ∙ ap (option_map lent_arcs) c.in_ok-other.was)
    (c.eq_last_first.ensures.0 c.if-eq_last_first.true ∙ same)

pub returns-else-eq_last_first : goal.returns-else-eq_last_first
returns-else-eq_last_first c =
    let entries = rows_in c.args.self.now in
    let same : oid_arcs c.in_ok-oid.oid ≡ ref_arcs c.args.oid = grind (arith, common_steps) in
    let first = ap (named entries) (sym same) ∙ sym c.by_oid.ensures ∙ ap option_copied c.in_ok-name.was in
    shown_none (ref_arcs c.args.oid) entries c.in_ok-name.name.now (lent_arcs c.in_ok-other.other) first
    (sym c.by_name.ensures ∙ ap (option_map lent_arcs) c.in_ok-other.was)
    (λ equal. let told = c.eq_last_first.ensures.1 (equal ∙ sym same) in cc)
