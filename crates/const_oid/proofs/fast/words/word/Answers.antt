use Rattle.std.proofs.Common.{arith}
use Rattle.const_oid.proofs.ByWords.{word_is}
use Rattle.const_oid.proofs.fast.words.word.Goals as goal

pub returns : goal.returns
returns c = search (arith, word_is)
