use Rattle.std.proofs.Common.{[], ◌∷◌, Ok, Err, refl, sym, ◌∙◌, arith}
use Rattle.const_oid.specs.{Identifier.{root_rule, max_second}, declared.error.Error.TheVariants.{ArcInvalid, Empty}}
use Rattle.const_oid.proofs.{Faults.some_from_above, Appended.{root_given, later_given, all_given}}
use Rattle.const_oid.proofs.TakesItems.{first_taken, takes_all, takes_few, takes_prefix, stopped}
use Rattle.const_oid.proofs.encoder.encode_inlined.Goals as goal

-- no arc
pub returns-in_default : goal.returns-in_default
returns-in_default g c =
    let it = c.into_iter-arcs in
    let few = takes_few root_rule c.args.capacity g.I.IntoIter.Iterator.next_gives it.result [] it.result c.next.new.self refl (λ later. refl) c.in_default.ensures.steps Empty refl in
    (it.result, it.ensures.into_iter_gives, (Err Empty, few, refl))

-- the first arc is out of range
pub returns-in_err-check_first : goal.returns-in_err-check_first
returns-in_err-check_first g c =
    let it = c.into_iter-arcs in
    let first = c.in-Some.first in
    let fault = c.in_err-check_first.field-0.0 in
    let wrong = c.in_err-check_first.ensures in
    let prefix = takes_prefix root_rule c.args.capacity g.I.IntoIter.Iterator.next_gives it.result [] it.result c.next.new.self refl (λ later. refl) first fault c.in-Some.ensures.steps (rw wrong.0 (sym (some_from_above 2 first (ArcInvalid first) wrong.1))) in
    (it.result, it.ensures.into_iter_gives, stopped c.args.capacity c.args.out.now c.args.out.now c.from_residual.result fault c.from_residual.ensures.1 prefix)

-- one arc
pub returns-in_default-next : goal.returns-in_default-next
returns-in_default-next g c =
    let it = c.into_iter-arcs in
    let taken = first_taken c.args.capacity c.in_ok-check_first.ensures in
    let few = takes_few root_rule c.args.capacity g.I.IntoIter.Iterator.next_gives it.result (c.in-Some.first ∷ []) c.next.new.self c.next-2.new.self (c.next.new.self, c.in-Some.ensures.steps, refl) taken c.in_default-next.ensures.steps Empty refl in
    (it.result, it.ensures.into_iter_gives, (Err Empty, few, refl))

-- the second arc is out of range
pub returns-in_err-number : goal.returns-in_err-number
returns-in_err-number g c =
    let it = c.into_iter-arcs in
    let first = c.in-Some.first in
    let second = c.in-Some-next.second in
    let taken = first_taken c.args.capacity c.in_ok-check_first.ensures in
    let fault = c.in_err-number.field-0.0 in
    let wrong = c.in_err-number.ensures in
    let prefix = takes_prefix root_rule c.args.capacity g.I.IntoIter.Iterator.next_gives it.result (first ∷ []) c.next.new.self c.next-2.new.self (c.next.new.self, c.in-Some.ensures.steps, refl) taken second fault c.in-Some-next.ensures.steps (rw (wrong.0, some_from_above (max_second root_rule first) second (ArcInvalid second) wrong.1) refl) in
    (it.result, it.ensures.into_iter_gives, stopped c.args.capacity c.args.out.now c.args.out.now c.from_residual-in_err-number.result fault c.from_residual-in_err-number.ensures.1 prefix)

-- the first subidentifier does not fit
pub returns-in_err-used : goal.returns-in_err-used
returns-in_err-used g c =
    let it = c.into_iter-arcs in
    let root = c.in_ok-number.ensures in
    let taken = first_taken c.args.capacity c.in_ok-check_first.ensures in
    let fault = c.in_err-used.field-0.0 in
    let refused = root_given c.args.capacity c.args.out.now c.append_group.new.out c.in_ok-check_first.ensures root.0 root.1 (Err fault) c.in_err-used.ensures.appends in
    let prefix = takes_prefix root_rule c.args.capacity g.I.IntoIter.Iterator.next_gives it.result (c.in-Some.first ∷ []) c.next.new.self c.next-2.new.self (c.next.new.self, c.in-Some.ensures.steps, refl) taken c.in-Some-next.second fault c.in-Some-next.ensures.steps refused in
    (it.result, it.ensures.into_iter_gives, stopped c.args.capacity c.args.out.now c.append_group.new.out c.from_residual-in_err-used.result fault c.from_residual-in_err-used.ensures.1 prefix)

pub loop-arc-init : goal.loop-arc-init
loop-arc-init g c =
    let root = c.in_ok-number.ensures in
    root_given c.args.capacity c.args.out.now c.append_group.new.out c.in_ok-check_first.ensures root.0 root.1 (Ok c.in_ok-used.used) c.in_ok-used.ensures.appends

pub loop-arc-preserved : goal.loop-arc-preserved
loop-arc-preserved g c =
    later_given c.args.capacity c.args.out.now c.append_group-in-loop-arc.new.out c.loop-arc.invariant
    (c.loop-arc.auto.out ∙ c.append_group.auto.out) (omega arith) (Ok c.in_ok-used-2.used) c.in_ok-used-2.ensures.appends

-- a later subidentifier does not fit
pub returns-in_err-used-2 : goal.returns-in_err-used-2
returns-in_err-used-2 g c =
    let it = c.into_iter-arcs in
    let l = c.loop-arc in
    let later = rw c.into_iter-arc-iterator.ensures.into_iter_gives at l.yielded_by in
    let fault = c.in_err-used-2.field-0.0 in
    let refused = later_given c.args.capacity c.args.out.now c.append_group-in-loop-arc.new.out l.invariant (l.auto.out ∙ c.append_group.auto.out) (omega arith) (Err fault) c.in_err-used-2.ensures.appends in
    let prefix = takes_prefix root_rule c.args.capacity g.I.IntoIter.Iterator.next_gives it.result (c.in-Some.first ∷ c.in-Some-next.second ∷ l.yielded) l.arc-iterator c.next-in-loop-arc.new.self (c.next.new.self, c.in-Some.ensures.steps, (c.next-2.new.self, c.in-Some-next.ensures.steps, later)) l.invariant.taken c.in-Some-arc.arc fault c.in-Some-arc.ensures.steps refused in
    (it.result, it.ensures.into_iter_gives, stopped c.args.capacity c.args.out.now c.append_group-in-loop-arc.new.out c.from_residual-in_err-used-2.result fault c.from_residual-in_err-used-2.ensures.1 prefix)

pub returns : goal.returns
returns g c =
    let it = c.into_iter-arcs in
    let l = c.loop-arc in
    let given = c.in-Some.first ∷ c.in-Some-next.second ∷ l.yielded in
    let later = rw c.into_iter-arc-iterator.ensures.into_iter_gives at l.yielded_by in
    let all = takes_all root_rule c.args.capacity g.I.IntoIter.Iterator.next_gives it.result given l.arc-iterator c.next-in-loop-arc.new.self (c.next.new.self, c.in-Some.ensures.steps, (c.next-2.new.self, c.in-Some-next.ensures.steps, later)) l.invariant.taken c.in-None.ensures.steps refl in
    (it.result, it.ensures.into_iter_gives, (Ok given, all, all_given c.args.capacity c.args.out.now {given = given} l.invariant))
