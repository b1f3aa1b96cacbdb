use Rattle.std.proofs.Common.{arith, refl}
use Rattle.std.specs.List.{HoldsAt}
use Rattle.std.proofs.lemmas.{Bool.Decides.nat_tests, List.get_or_read}
use Rattle.const_oid.specs.{OidRef.ref_octets, Tree.BeginsWith}
use Rattle.const_oid.proofs.SortedLists.{reached_itself, reached_nearest, reached_first, none_above, reached_common, none_common}
use Rattle.const_oid.proofs.SortedLists.{first_if_short, none_if_long}
use Rattle.const_oid.proofs.search.nearest_of.Goals as goal

pub returns-in-Some-clause-found : goal.returns-in-Some-clause-found
returns-in-Some-clause-found g c = λ list.
    reached_nearest g.T.Contents.octets_of _ _ list c.args.oid.now (reached_itself _ _ _)
    _ (c.in-Some.ensures.found list (c.start_of-start.ensures.cut list))

pub returns-in-Some-clause-first : goal.returns-in-Some-clause-first
returns-in-Some-clause-first g c = λ list.
    reached_first g.T.Contents.octets_of _ _ list c.args.oid.now (reached_itself _ _ _)
    _ (c.in-Some.ensures.found list (c.start_of-start.ensures.cut list))

pub returns-in_err-last-clause-none : goal.returns-in_err-last-clause-none
returns-in_err-last-clause-none g c = λ list.
    let so_far = c.loop-last.invariant in
    rw c.from_residual.ensures
    (none_above g.T.Contents.octets_of _ _ list c.loop-last.above (so_far.reached list) (so_far.absent list)
    _ so_far.inside (so_far.cut list) (grind arith))

pub returns-in_err-above-clause-none : goal.returns-in_err-above-clause-none
returns-in_err-above-clause-none g c = λ list.
    let so_far = c.loop-last.invariant in
    rw c.from_residual-in_err-above.ensures
    (none_common g.T.Contents.octets_of _ _ list c.loop-last.above (so_far.reached list) (so_far.absent list)
    _ so_far.inside (so_far.cut list) c.index-items-last.result (grind arith) (grind arith)
    _ (rw c.contents.ensures at c.in_err-above.ensures.none) refl)

pub returns-then-contents-as_bytes-clause-found : goal.returns-then-contents-as_bytes-clause-found
returns-then-contents-as_bytes-clause-found g c = λ list.
    let octets_of = g.T.Contents.octets_of in
    let items = c.args.items.now in
    let so_far = c.loop-last.invariant in
    let last = c.index-items-last in
    let under : HoldsAt (λ item. BeginsWith (octets_of item) (ref_octets c.in_ok-above.above)) items c.in_ok-last.last =
    λ d. rw (← get_or_read items c.in_ok-last.last last.result (omega arith) last.is d)
    (rw c.contents.ensures at c.in_ok-above.ensures.some.begins_others) in
    let start = c.index-items-start in
    let reached = reached_common octets_of _ _ list c.loop-last.above (so_far.reached list) (so_far.absent list)
    _ so_far.inside (so_far.cut list) last.result (grind arith) (grind arith)
    _ (rw c.contents.ensures at c.in_ok-above.ensures.some) c.in_ok-above.above refl in
    reached_nearest octets_of _ _ list c.in_ok-above.above reached _
    (first_if_short octets_of c.in_ok-above.above items list c.in_ok-last.last (omega arith) under
    _ c.first_under-start.ensures.within (c.first_under-start.ensures.cut list under)
    (λ d. grind (arith, nat_tests, get_or_read items c.first_under-start.result start.result (omega arith) start.is d)))

pub returns-then-contents-as_bytes-clause-first : goal.returns-then-contents-as_bytes-clause-first
returns-then-contents-as_bytes-clause-first g c = λ list.
    let octets_of = g.T.Contents.octets_of in
    let items = c.args.items.now in
    let so_far = c.loop-last.invariant in
    let last = c.index-items-last in
    let under : HoldsAt (λ item. BeginsWith (octets_of item) (ref_octets c.in_ok-above.above)) items c.in_ok-last.last =
    λ d. rw (← get_or_read items c.in_ok-last.last last.result (omega arith) last.is d)
    (rw c.contents.ensures at c.in_ok-above.ensures.some.begins_others) in
    let start = c.index-items-start in
    let reached = reached_common octets_of _ _ list c.loop-last.above (so_far.reached list) (so_far.absent list)
    _ so_far.inside (so_far.cut list) last.result (grind arith) (grind arith)
    _ (rw c.contents.ensures at c.in_ok-above.ensures.some) c.in_ok-above.above refl in
    reached_first octets_of _ _ list c.in_ok-above.above reached _
    (first_if_short octets_of c.in_ok-above.above items list c.in_ok-last.last (omega arith) under
    _ c.first_under-start.ensures.within (c.first_under-start.ensures.cut list under)
    (λ d. grind (arith, nat_tests, get_or_read items c.first_under-start.result start.result (omega arith) start.is d)))

pub loop-last-preserved : goal.loop-last-preserved
loop-last-preserved g c =
    let octets_of = g.T.Contents.octets_of in
    let items = c.args.items.now in
    let so_far = c.loop-last.invariant in
    let last = c.index-items-last in
    let under : HoldsAt (λ item. BeginsWith (octets_of item) (ref_octets c.in_ok-above.above)) items c.in_ok-last.last =
    λ d. rw (← get_or_read items c.in_ok-last.last last.result (omega arith) last.is d)
    (rw c.contents.ensures at c.in_ok-above.ensures.some.begins_others) in
    let start = c.index-items-start in
    record {
      inside = grind arith;
      reached = λ list.
          reached_common octets_of _ _ list c.loop-last.above (so_far.reached list) (so_far.absent list)
          _ so_far.inside (so_far.cut list) last.result (grind arith) (grind arith)
          _ (rw c.contents.ensures at c.in_ok-above.ensures.some) c.in_ok-above.above refl;
      cut = λ list. c.first_under-start.ensures.cut list under;
      absent = λ list.
          none_if_long octets_of c.in_ok-above.above items list c.in_ok-last.last (omega arith) under
          _ c.first_under-start.ensures.within (c.first_under-start.ensures.cut list under)
          (λ d. grind (arith, nat_tests, get_or_read items c.first_under-start.result start.result (omega arith) start.is d));
    }
