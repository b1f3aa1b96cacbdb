use Rattle.std.proofs.lemmas.Str.{IsUtf8-from_is_utf8}
use Rattle.const_oid.proofs.packed.PackedDatabase.text_at.Goals as goal

pub from_utf8_unchecked-requires : goal.from_utf8_unchecked-requires
from_utf8_unchecked-requires c = rw c.name_at.ensures (IsUtf8-from_is_utf8 _ c.requires.text)
