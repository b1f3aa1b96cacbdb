use Rattle.std.proofs.Common.{rules, ◌∙◌, sym, get_or, bit_or}
use Rattle.std.proofs.lemmas.List.{length-map}
use Rattle.const_oid.specs.Private.Links.{hash_of}
use Rattle.const_oid.proofs.Hashes.{word_cased, words_step, words_end}
use Rattle.const_oid.proofs.links.hash.Goals as goal

pub loop-left-preserved : goal.loop-left-preserved
loop-left-preserved g c =
    let left = c.loop-left.left.now in
    let word = word_cased g.row.BITS (get_or left 0 0) (get_or left 1 0) (get_or left 2 0) (get_or left 3 0)
    (get_or left 4 0) (get_or left 5 0) (get_or left 6 0) (get_or left 7 0) (search rules) (search rules) in
    let step = words_step g.row.BITS c.loop-left.hash left c.in-len9-up.len_at_least in
    rw (c.hash_with-hash.ensures, c.from_be_bytes-word.ensures, c.from_be_bytes-bits.ensures, c.split_at.ensures.back, word) (sym step ∙ c.loop-left.invariant)

pub returns : goal.returns
unfolding hash_of
returns g c =
    let few = words_end g.row.BITS c.loop-left.hash c.loop-left.left.now (search rules) in
    let long = length-map c.args.bytes.now (λ byte. bit_or byte g.row.BITS) in cc
