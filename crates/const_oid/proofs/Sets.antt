-- Sets of lemmas that functions name.
use Rattle.std.proofs.Math.Seq.{take-append_seam}
use Rattle.std.proofs.lemmas.{Fmt.IsAscii-decimal, Slice.drop-put_mid, Str.IsUtf8-from_ascii}
use Rattle.const_oid.proofs.{PartsFault.{parts_from_later, later_small}, Texts.{arcs_text-nil, length-arcs_text}}
use Rattle.const_oid.proofs.PartBounds.{valid_after, none_after, arc_after}

-- octets after some parts
pub ruleset parts_left = (parts_from_later, later_small, valid_after, none_after, arc_after)

-- the text of arcs that are left
pub ruleset texts_left = (length-arcs_text, arcs_text-nil)

-- bytes that were put into others
pub ruleset bytes_put = (take-append_seam, drop-put_mid)

-- digits are UTF-8
pub ruleset digits_utf8 = (IsAscii-decimal, IsUtf8-from_ascii)
