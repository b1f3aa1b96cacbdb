use Rattle.std.proofs.Common.{◌≡◌, ◌+◌, ◌-◌, ◌<◌, ◌≤◌, ◌∙◌, ap, get_or, length, take, ⊎_elim, arith}
use Rattle.std.proofs.lemmas.{Bool.cases_lt, Grind.common_steps, List.{get_or-take, length-take-le}}
use Rattle.const_oid.specs.OidRef.{ref_octets}
use Rattle.const_oid.proofs.Encodings.{ref_encoding}
use Rattle.const_oid_c.specs.{declared.lists.Octets.Octets, Lists.octets_at}
use Rattle.const_oid_c.proofs.SortedList.{unsorted, sorted_before}
use Rattle.const_oid_c.proofs.lists.list_fault.Goals as goal

pub loop-index-preserved : goal.loop-index-preserved
loop-index-preserved c =
    let items = c.args.items.now in
    let index = c.loop-index.index in
    let before = c.loop-index.invariant in
    let read = c.in-Ok.ensures in
    let at : (item : Octets) → octets_at (get_or items index item) ≡ ref_octets c.in-Ok.oid =
    λ item. grind (arith, common_steps, c.contents.ensures, read.octets) in
    record {
      status = grind (arith, common_steps, before.status, read.none, c.contents.ensures, read.octets);
      valid = λ place item from within. ⊎_elim
          (λ (early : place < index). before.valid place item from early)
          (λ (late : index ≤ place).
          let here : octets_at (get_or items place item) ≡ ref_octets c.in-Ok.oid = grind (arith, at item) in
          rw here (ref_encoding c.in-Ok.oid))
          (cases_lt place index);
      sorted = λ place item from within.
          grind (arith, common_steps, before.sorted place item, before.last item, at item, read.sorted);
      first = λ none. absurd (omega arith);
      last = λ item some. grind (arith, common_steps, at item);
    }

pub returns-in-Err-clause-unsorted : goal.returns-in-Err-clause-unsorted
returns-in-Err-clause-unsorted c = λ list.
    let items = c.args.items.now in
    let index = c.loop-index.index in
    let before = c.loop-index.invariant in
    let item : Octets = record { octets = c.contents.result } in
    let here : octets_at (get_or items index item) ≡ c.contents.result.now = grind (arith, common_steps, c.contents.ensures) in
    let less = c.in-Err.ensures.invalid (rw here at (list.valid index item (omega arith))) in
    unsorted octets_at items index item _ (omega arith) before.first (before.last item) (rw here less) list

pub returns-in-Err-clause-first : goal.returns-in-Err-clause-first
returns-in-Err-clause-first c =
    let items = c.args.items.now in
    let index = c.loop-index.index in
    let before = c.loop-index.invariant in
    let item : Octets = record { octets = c.contents.result } in
    let here : octets_at (get_or items index item) ≡ c.contents.result.now = grind (arith, common_steps, c.contents.ensures) in
    let inside : index < length items = omega arith in
    let cut = get_or-take (index + 1) items index item (omega arith) in
    let same : octets_at (get_or (take (index + 1) items) index item) ≡ c.contents.result.now = ap octets_at cut ∙ here in
    let len = length-take-le (index + 1) items (omega arith) in
    rw c.in-Err.ensures.index record {
      within = inside;
      sorted = sorted_before octets_at items index (omega arith) before.valid before.sorted;
      unsorted = λ list.
          let less = c.in-Err.ensures.invalid (rw same at (list.valid index item (omega (arith, len)))) in
          unsorted octets_at (take (index + 1) items) index item _ (omega (arith, len)) before.first
          (λ some. rw (get_or-take (index + 1) items (index - 1) item (omega arith)) (before.last item some)) (rw same less) list;
    }
