use Rattle.std.proofs.Common.{arith}
use Rattle.const_oid.proofs.PartsFault.{big_fault, more_fault, open_fault}
use Rattle.const_oid.proofs.base128.group_fault.Goals as goal
use Rattle.const_oid.proofs.base128.group_fault.Goals.{then-number_of_five-limit-via-then-number_of_five-limit, then-number_of_five-limit-via-else-number_of_five-limit+then-octets-gt5}

pub returns-then-number_of_five-limit : goal.returns-then-number_of_five-limit
returns-then-number_of_five-limit c =
    elim c.then-number_of_five-limit.branch [
      | then-number_of_five-limit-via-then-number_of_five-limit w ↦
          let big = rw c.number_of_five.ensures at w.if-number_of_five-limit.true in
          big_fault _ _ c.if-octets.false c.requires.faulty (omega arith) big
      | then-number_of_five-limit-via-else-number_of_five-limit+then-octets-gt5 w ↦
          let small = rw c.number_of_five.ensures at w.if-number_of_five-limit.false in
          more_fault _ _ c.if-octets.false c.requires.faulty (omega arith) small c.requires.small
    ]

pub returns : goal.returns
returns c =
    let small = rw c.number_of_five.ensures at c.if-number_of_five-limit.false in
    open_fault _ _ c.if-octets.false c.requires.faulty (omega arith) small
