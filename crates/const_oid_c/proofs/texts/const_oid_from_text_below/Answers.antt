use Rattle.const_oid_c.proofs.texts.const_oid_from_text_below.Goals as goal

pub returns-in-Ok-write_below-clause-status : goal.returns-in-Ok-write_below-clause-status
returns-in-Ok-write_below-clause-status c = rw (← c.in-Ok.ensures.answer, c.in-Ok-write_below.ensures.0) c.in-Ok-write_below.ensures.1

pub returns-in-Ok-write_below-clause-written : goal.returns-in-Ok-write_below-clause-written
returns-in-Ok-write_below-clause-written c = rw (← c.in-Ok.ensures.answer, c.in-Ok-write_below.ensures.0) c.in-Ok-write_below.ensures.2
