use Rattle.std.proofs.Common.{ap, arith, drop, length, sym, ◌∙◌}
use Rattle.std.proofs.Math.Seq.{drop-append_seam}
use Rattle.const_oid.specs.{OidRef.ref_arcs, Typed.dotted}
use Rattle.const_oid.proofs.outputs.text_below.Goals as goal

pub write_dotted-requires : goal.write_dotted-requires
write_dotted-requires c =
    let prefix = ref_arcs c.args.prefix.now in
    let counted = c.in_ok-strip_prefix.field-0 in
    let written = c.in_ok-strip_prefix-2.field-0 in
    let same = sym (drop-append_seam prefix written) ∙ ap (drop (length prefix)) (sym c.in_ok-strip_prefix-2.ensures ∙ c.in_ok-strip_prefix.ensures)
    ∙ drop-append_seam prefix counted in
    omega (arith, c.in_ok-text_len.ensures, ap (λ arcs. length (dotted arcs)) same)
