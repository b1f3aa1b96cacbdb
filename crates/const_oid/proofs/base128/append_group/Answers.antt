use Rattle.std.proofs.Common.{◌≡◌, ◌≤◌, ◌+◌, ◌-◌, ◌/◌, ◌%◌, ◌^◌, [], refl, sym, ◌∙◌, arith}
use Rattle.std.proofs.Math.Nat.{div-le_self, mod-eq_of_lt}
use Rattle.const_oid.proofs.Leading.{IsLed, digits_above, led_on, led_past, led_to, nothing_led}
use Rattle.const_oid.proofs.base128.append_group.Goals as goal
use Rattle.const_oid.proofs.base128.append_group.Goals.{then-number-shift-gt0+else-at-capacity, else-number-shift-gt0}
use Rattle.const_oid.proofs.base128.append_group.Goals.{then-number-ge16384+else-loop-shift-test, else-number-ge16384}
use Rattle.const_oid.proofs.base128.append_group.Goals.{then-number-ge128+else-at-capacity-2, else-number-ge128}

pub loop-shift-init : goal.loop-shift-init
loop-shift-init c =
    let none : c.args.number / 2 ^ 35 ≡ 0 = omega arith in
    (omega arith, omega arith, refl, rw none (nothing_led c.args.capacity c.args.used c.args.out.now))

pub loop-shift-preserved : goal.loop-shift-preserved
loop-shift-preserved c =
    let shift = c.loop-shift.shift in
    let led = c.loop-shift.invariant.3 in
    let above = digits_above c.args.number shift in
    let back : shift - 7 + 7 ≡ shift = omega arith in (
      omega arith,
      omega arith,
      omega arith,
      rw back
          (elim c.if-number-shift-gt0.branch [
            | then-number-shift-gt0+else-at-capacity w ↦
                rw w.at-is
                (led_on c.args.capacity c.args.used c.args.out.now (c.args.number / 2 ^ shift) led above w.if-number-shift-gt0.true w.if-at-capacity.false
                (λ room. w.out-is))
            | else-number-shift-gt0 w ↦
                let same : c.args.number / 2 ^ (shift + 7) ≡ c.args.number / 2 ^ shift = omega arith in
                rw (w.out-is, w.at-is) (rw same at led)
          ]),
    )

pub returns-then-at-capacity-clause-appends : goal.returns-then-at-capacity-clause-appends
returns-then-at-capacity-clause-appends c =
    let n = c.args.number / 2 ^ c.loop-shift.shift in
    let fewer : n ≤ c.args.number = div-le_self c.args.number (2 ^ c.loop-shift.shift) in
    led_past c.args.capacity c.args.used c.args.out.now [] n c.args.number c.loop-shift.invariant.3
    (digits_above c.args.number c.loop-shift.shift) fewer c.if-at-capacity.true

pub returns-then-at-capacity-2-clause-appends : goal.returns-then-at-capacity-2-clause-appends
returns-then-at-capacity-2-clause-appends c =
    let before : IsLed c.args.capacity c.args.used (c.args.number / 16384) c.args.out.now c.if-number-ge16384.out c.if-number-ge16384.at =
    elim c.if-number-ge16384.branch [
      | then-number-ge16384+else-loop-shift-test v ↦
          let last : v.loop-shift.shift ≡ 7 = omega arith in
          rw (v.out-is, v.at-is) (rw last at v.loop-shift.invariant.3)
      | else-number-ge16384 v ↦
          let none : c.args.number / 16384 ≡ 0 = omega arith in
          rw (v.out-is, v.at-is, none) (nothing_led c.args.capacity c.args.used c.args.out.now)
    ] in
    led_past c.args.capacity c.args.used c.args.out.now [] (c.args.number / 128) c.args.number before (omega arith) (omega arith)
    c.if-at-capacity-2.true

pub returns-then-at-capacity-3-clause-appends : goal.returns-then-at-capacity-3-clause-appends
returns-then-at-capacity-3-clause-appends c =
    let led : IsLed c.args.capacity c.args.used (c.args.number / 128) c.args.out.now c.if-number-ge128.out c.if-number-ge128.at =
    elim c.if-number-ge128.branch [
      | then-number-ge128+else-at-capacity-2 w ↦
          let before : IsLed c.args.capacity c.args.used (c.args.number / 16384) c.args.out.now w.if-number-ge16384.out w.if-number-ge16384.at =
          elim w.if-number-ge16384.branch [
            | then-number-ge16384+else-loop-shift-test v ↦
                let last : v.loop-shift.shift ≡ 7 = omega arith in
                rw (v.out-is, v.at-is) (rw last at v.loop-shift.invariant.3)
            | else-number-ge16384 v ↦
                let none : c.args.number / 16384 ≡ 0 = omega arith in
                rw (v.out-is, v.at-is, none) (nothing_led c.args.capacity c.args.used c.args.out.now)
          ] in
          rw w.at-is
          (led_on c.args.capacity c.args.used c.args.out.now (c.args.number / 128) before (omega arith) (omega arith) w.if-at-capacity-2.false
          (λ room. w.out-is))
      | else-number-ge128 w ↦
          let none : c.args.number / 128 ≡ 0 = omega arith in
          rw (w.out-is, w.at-is, none) (nothing_led c.args.capacity c.args.used c.args.out.now)
    ] in
    led_past c.args.capacity c.args.used c.args.out.now [] c.args.number c.args.number led refl (omega arith) c.if-at-capacity-3.true

pub returns-clause-appends : goal.returns-clause-appends
returns-clause-appends c =
    let led : IsLed c.args.capacity c.args.used (c.args.number / 128) c.args.out.now c.if-number-ge128.out c.if-number-ge128.at =
    elim c.if-number-ge128.branch [
      | then-number-ge128+else-at-capacity-2 w ↦
          let before : IsLed c.args.capacity c.args.used (c.args.number / 16384) c.args.out.now w.if-number-ge16384.out w.if-number-ge16384.at =
          elim w.if-number-ge16384.branch [
            | then-number-ge16384+else-loop-shift-test v ↦
                let last : v.loop-shift.shift ≡ 7 = omega arith in
                rw (v.out-is, v.at-is) (rw last at v.loop-shift.invariant.3)
            | else-number-ge16384 v ↦
                let none : c.args.number / 16384 ≡ 0 = omega arith in
                rw (v.out-is, v.at-is, none) (nothing_led c.args.capacity c.args.used c.args.out.now)
          ] in
          rw w.at-is
          (led_on c.args.capacity c.args.used c.args.out.now (c.args.number / 128) before (omega arith) (omega arith) w.if-at-capacity-2.false
          (λ room. w.out-is))
      | else-number-ge128 w ↦
          let none : c.args.number / 128 ≡ 0 = omega arith in
          rw (w.out-is, w.at-is, none) (nothing_led c.args.capacity c.args.used c.args.out.now)
    ] in
    let last : c.if-number-ge128.last ≡ c.args.number % 128 =
    elim c.if-number-ge128.branch [
      | then-number-ge128+else-at-capacity-2 w ↦ w.last-is
      | else-number-ge128 w ↦ w.last-is ∙ sym (mod-eq_of_lt (omega arith))
    ] in
    led_to c.args.capacity c.args.used c.args.out.now c.args.number led refl c.if-at-capacity-3.false
    (λ room. rw last refl)
