-- What a buffer holds.
use Rattle.std.specs.Prelude.{ℕ, List, take}
use Rattle.const_oid.specs.declared.buffer.Buffer.{Buffer}

-- the octets in use
abbrev pub buffer_octets : {SIZE : ℕ} → Buffer SIZE → List ℕ
buffer_octets buffer = take buffer.used buffer.bytes
