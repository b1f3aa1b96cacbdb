use Rattle.std.proofs.Common.{arith}
use Rattle.std.proofs.lemmas.Bool.Decides.{nat_tests}
use Rattle.const_oid.proofs.ByWords.{same_more, equal_words, same_less, last_words, tells_same}
use Rattle.const_oid.proofs.fast.comparison.are_arrays_equal.Goals as goal

pub loop-at-preserved : goal.loop-at-preserved
loop-at-preserved c = grind (arith, nat_tests, same_more, equal_words)

pub returns : goal.returns
returns c =
    tells_same _ c.args.a.now c.args.b.now
    (λ t. grind (arith, nat_tests, same_less, last_words c.word-2.ensures c.word-3.ensures))
    (λ e. grind (arith, nat_tests, equal_words))
