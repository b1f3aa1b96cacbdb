use Rattle.std.proofs.Common.{◌<◌, ap, arith, length}
use Rattle.std.proofs.lemmas.Grind.{common_steps}
use Rattle.const_oid.specs.{OidRef.{ref_arcs, ref_octets}, Rows.rows_in}
use Rattle.const_oid.proofs.Encodings.{ref_encoding, same_octets}
use Rattle.const_oid.proofs.NearestRows.{too_long}
use Rattle.const_oid.proofs.tables.Tables.lent_entry_of.Goals as goal

pub returns-in_err-ok-clause-name : goal.returns-in_err-ok-clause-name
returns-in_err-ok-clause-name c =
    let oid = c.args.oid in
    let long : 39 < length (ref_octets oid) = grind (arith, common_steps) in
    rw c.from_residual.ensures (too_long (ref_arcs oid) (rows_in c.args.self.now)
    (λ octets e. omega (arith, long, ap length (same_octets e (ref_encoding oid)))))
