use Rattle.const_oid.proofs.WordBytes.{later_are_plain}
use Rattle.const_oid.proofs.fast.windows.is_odd_after_three.Goals as goal

pub returns : goal.returns
returns c = λ plain.
    later_are_plain c.args.octets.now c.window-3.result c.window-4.result c.window.result c.window-2.result
    c.window-3.ensures c.window-4.ensures c.window.ensures c.window-2.ensures (c.is_odd.ensures plain)
