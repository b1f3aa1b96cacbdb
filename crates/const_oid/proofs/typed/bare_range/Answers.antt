use Rattle.std.proofs.lemmas.Str.Ascii.{trim_ascii_start_is, trim_ascii_end_is}
use Rattle.const_oid.proofs.Bare.{at_range}
use Rattle.const_oid.proofs.typed.bare_range.Goals as goal

pub returns-clause-bare : goal.returns-clause-bare
returns-clause-bare c =
    at_range c.args.text.now c.trim_ascii_start-begun.result.now c.trim_ascii_end-ended.result.now c.prefix_len.result
    (trim_ascii_start_is _ _ c.trim_ascii_start-begun.ensures.value) (trim_ascii_end_is _ _ c.trim_ascii_end-ended.ensures.value)
    c.prefix_len.ensures.prefix c.prefix_len.ensures.within
