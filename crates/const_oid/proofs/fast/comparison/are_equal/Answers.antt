use Rattle.std.proofs.Common.{arith}
use Rattle.std.proofs.lemmas.Bool.Decides.{nat_tests}
use Rattle.const_oid.proofs.ByWords.{equal_words, last_words, tells_same}
use Rattle.const_oid.proofs.fast.comparison.are_equal.Goals as goal

pub returns-then-word : goal.returns-then-word
returns-then-word c =
    tells_same _ _ _ (λ t. absurd (cc)) (λ e. absurd (c.if-word.true (equal_words c.word.ensures c.word-2.ensures e)))

pub returns : goal.returns
returns c =
    tells_same _ c.args.a.now c.args.b.now
    (λ t. grind (arith, nat_tests, last_words c.word.ensures c.word-2.ensures))
    (λ e. grind (arith, nat_tests))
