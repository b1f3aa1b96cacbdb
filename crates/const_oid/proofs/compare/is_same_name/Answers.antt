use Rattle.const_oid.proofs.Hashes.{other_name}
use Rattle.const_oid.proofs.compare.is_same_name.Goals as goal

pub returns-then-last_word : goal.returns-then-last_word
returns-then-last_word c =
    other_name c.args.a.now c.args.b.now (rw (c.last_word.ensures, c.last_word-2.ensures) at c.if-last_word.true)
