use Rattle.std.proofs.Common.{◌+◌, ◌-◌, arith, sym, ◌∙◌}
use Rattle.const_oid.proofs.ByWords.{same_more, ended_at}
use Rattle.const_oid.proofs.fast.comparison.order.Goals as goal

pub returns : goal.returns
returns c =
    let same = same_more c.word-x.ensures c.word-y.ensures c.in_default.ensures c.if-x-y.false in
    c.cmp-2.ensures ∙ sym (ended_at _ _ (c.min-min_len.result - 8 + 8) (omega arith) same)
