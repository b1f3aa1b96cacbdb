use Rattle.std.proofs.Common.{◌++◌, ap, arith, map, ◌∙◌}
use Rattle.std.proofs.lemmas.Grind.{common_steps}
use Rattle.const_oid.specs.{Base128.value_of, Contents.cut, Typed.dotted}
use Rattle.const_oid.proofs.{Appended.written_by_parts, Decimals.drop_more}
use Rattle.const_oid.proofs.tables.Display.encode_text.Goals as goal

pub returns-clause-written : goal.returns-clause-written
returns-clause-written c =
    let named = c.write_bytes-at.ensures in
    let all = c.write_dotted.ensures in
    rw c.in-Some.is (written_by_parts c.args.out.now c.write_dotted.result (grind (arith, common_steps))
    (rw c.later-2.ensures at all.prefix
    ∙ ap (λ begun. begun ++ dotted (map value_of (cut c.args.self.now.below.now))) (named.prefix ∙ c.as_bytes.ensures.value))
    (all.after ∙ drop_more c.write_bytes-at.result c.write_dotted.result _ _ (omega arith) named.after))
