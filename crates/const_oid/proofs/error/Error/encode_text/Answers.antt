use Rattle.std.proofs.Common.{arith, append_assoc}
use Rattle.std.specs.Str.{IsUtf8}
use Rattle.std.proofs.lemmas.{Grind.common_steps, Str.IsUtf8-append}
use Rattle.const_oid.proofs.{Decimals.drop_more, Appended.written_by_parts}
use Rattle.const_oid.proofs.error.Error.encode_text.Goals as goal

pub returns-clause-written : goal.returns-clause-written
returns-clause-written c =
    written_by_parts _ _ (grind (arith, common_steps)) (grind (arith, append_assoc)) (grind (arith, drop_more))

pub returns-clause-utf8 : goal.returns-clause-utf8
returns-clause-utf8 c =
    let before : IsUtf8 c.words.result.0.now = rw c.as_bytes.ensures.value at c.as_bytes.ensures.utf8 in
    let after : IsUtf8 c.words.result.1.now = rw c.as_bytes-2.ensures.value at c.as_bytes-2.ensures.utf8 in
    rw c.words.ensures (IsUtf8-append _ _ before (IsUtf8-append _ _ c.write_detail-at.ensures.utf8 after))
