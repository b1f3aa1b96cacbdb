use Rattle.std.proofs.Common.{rules, ◌-◌, length, get_or}
use Rattle.const_oid.proofs.Hashes.{last_eight, last_four, word_cased}
use Rattle.const_oid.proofs.fast.words.last_word.Goals as goal

pub returns-in-len8-up : goal.returns-in-len8-up
returns-in-len8-up g c =
    let octets = c.args.octets.now in
    let at = length octets in
    rw (c.from_be_bytes.ensures, c.from_be_bytes-bits.ensures, last_eight g.row.BITS octets c.in-len8-up.len_at_least)
    (word_cased g.row.BITS (get_or octets (at - 8) 0) (get_or octets (at - 7) 0) (get_or octets (at - 6) 0) (get_or octets (at - 5) 0)
    (get_or octets (at - 4) 0) (get_or octets (at - 3) 0) (get_or octets (at - 2) 0) (get_or octets (at - 1) 0) (search rules) (search rules))

pub returns-in-len4-up-len4-up : goal.returns-in-len4-up-len4-up
returns-in-len4-up-len4-up g c =
    let octets = c.args.octets.now in
    let at = length octets in
    rw (c.from_be_bytes-in-len4-up-len4-up.ensures, c.from_be_bytes-bits.ensures, last_four g.row.BITS octets (search rules) c.in_default.len_below)
    (word_cased g.row.BITS (get_or octets 0 0) (get_or octets 1 0) (get_or octets 2 0) (get_or octets 3 0)
    (get_or octets (at - 4) 0) (get_or octets (at - 3) 0) (get_or octets (at - 2) 0) (get_or octets (at - 1) 0) (search rules) (search rules))
