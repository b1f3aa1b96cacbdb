use Rattle.std.proofs.Common.{length, ◌<◌, ◌≤◌}
use Rattle.const_oid.proofs.{Nearest.{first_longer, later_longer, only_first, only_later}, SortedNames.entry_octets}
use Rattle.const_oid.proofs.tables.nearer.Goals as goal

pub returns-in_default : goal.returns-in_default
returns-in_default c = λ arcs entries others first later.
    only_later arcs entries others c.args.later (rw c.in_default.is at first) later

pub returns-in_default-later : goal.returns-in_default-later
returns-in_default-later c = λ arcs entries others first later.
    rw c.in-Some.is (only_first arcs entries others c.in-Some.entry.now (rw c.in-Some.is at first) (rw c.in_default-later.is at later))

pub returns-then-as_bytes : goal.returns-then-as_bytes
returns-then-as_bytes c = λ arcs entries others first later.
    let x = c.in-Some.entry.now in
    let y = c.in-Some-later.other.now in
    let longer : length (entry_octets x) < length (entry_octets y) = rw (c.as_bytes.ensures.slice, c.as_bytes-2.ensures.slice) at c.if-as_bytes.true in
    rw c.in-Some-later.is (later_longer arcs entries others x (rw c.in-Some.is at first) y (rw c.in-Some-later.is at later) longer)

pub returns-else-as_bytes : goal.returns-else-as_bytes
returns-else-as_bytes c = λ arcs entries others first later.
    let x = c.in-Some.entry.now in
    let y = c.in-Some-later.other.now in
    let shorter : length (entry_octets y) ≤ length (entry_octets x) = rw (c.as_bytes.ensures.slice, c.as_bytes-2.ensures.slice) at c.if-as_bytes.false in
    rw c.in-Some.is (first_longer arcs entries others x (rw c.in-Some.is at first) y (rw c.in-Some-later.is at later) shorter)
