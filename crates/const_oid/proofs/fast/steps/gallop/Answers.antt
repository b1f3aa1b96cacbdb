use Rattle.std.proofs.Common.{◌≡◌, false, arith, of_calls, refl, length}
use Rattle.std.specs.{Fn.ComputesKey, List.AllWithin}
use Rattle.std.proofs.lemmas.Fn.{called}
use Rattle.const_oid.proofs.Runs.{computed, passed_upto, failed_from, parted_between, cut_between}
use Rattle.const_oid.proofs.fast.steps.gallop.Goals as goal
use Rattle.const_oid.proofs.fast.steps.gallop.Goals.{then-loop-place-test+else-test, else-loop-place-test}

pub loop-place-preserved : goal.loop-place-preserved
loop-place-preserved g c = record {
  callable = λ _. search of_calls;
  inside = omega arith;
  upto = omega arith;
  passed = λ p test.
      let items = c.args.items.now in
      let place = c.loop-place.place in
      let call = called g.P.FnMut c.if-test.ensures refl in
      let next = computed g.P.FnMut p call (c.loop-place.invariant.passed p test).0 in
      (next.1, λ by. passed_upto p items by place c.index-items-place.result (omega arith) c.index-items-place.is next.0);
}

pub returns-clause-cut : goal.returns-clause-cut
returns-clause-cut g c = λ p test by.
    let items = c.args.items.now in
    let start = c.loop-place.start in
    let end = c.min-end.result in
    let so_far = c.loop-place.invariant.passed p test in
    let (left, after) : ComputesKey g.P.FnMut p c.loop-place-test.test × AllWithin (λ item. p item ≡ false) items end (length items) = elim c.loop-place-test.branch [
      | then-loop-place-test+else-test w ↦
          let next = computed g.P.FnMut p (called g.P.FnMut w.if-test.ensures refl) so_far.0 in
          (rw w.test-is next.1, λ k d from inside. failed_from p items by c.loop-place.place w.index-items-place.result (omega arith) w.index-items-place.is next.0 k d (omega arith) inside)
      | else-loop-place-test w ↦ (rw w.test-is so_far.0, λ k d from inside. absurd (omega arith))
    ] in
    let point = c.partition_point.ensures in
    let part = point.partitioned p left (parted_between p items by start end (omega arith) (omega arith)) in
    cut_between p items by start end (omega arith) (omega arith) (so_far.1 by) after _ point.bound part
