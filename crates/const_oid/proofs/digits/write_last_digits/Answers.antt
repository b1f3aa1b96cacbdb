use Rattle.std.proofs.Common.{◌+◌, ◌-◌, ◌%◌, refl, arith, append-nil}
use Rattle.std.proofs.lemmas.{Fmt.{decimal_digit, length-decimal-le}, List.{drop-set, drop_all}}
use Rattle.const_oid.proofs.Decimals.{decimal-last, length_step}
use Rattle.const_oid.proofs.digits.write_last_digits.Goals as goal

pub loop-at-init : goal.loop-at-init
loop-at-init c = record {
  digits = rw (drop_all 10 c.args.out.now (omega arith), append-nil) refl;
  room = grind (arith, length-decimal-le 10 c.args.arc);
  within = omega arith;
}

pub loop-at-preserved : goal.loop-at-preserved
loop-at-preserved c =
    let l = c.loop-at in
    grind (arith, decimal-last l.rest, length_step l.rest, drop-set l.out (l.at - 1) (48 + l.rest % 10))

pub returns-then-rest-eq0-clause-digits : goal.returns-then-rest-eq0-clause-digits
returns-then-rest-eq0-clause-digits c =
    let l = c.loop-at in
    grind (arith, decimal_digit l.rest, drop-set l.out (l.at - 1) (48 + l.rest % 10))
