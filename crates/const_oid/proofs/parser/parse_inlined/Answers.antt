use Rattle.std.proofs.Common.{ℕ, List, [], Ok, Err, Result, MatchResult}
use Rattle.const_oid.specs.Private.Parser.{error_of, place_of, IsFaultAt, IsFoundAt, NeedsNoStart}
use Rattle.const_oid.specs.declared.parser.Wrong.{Wrong}
use Rattle.const_oid.proofs.{WrongIndex.fault_at, Components.root_written}
use Rattle.const_oid.proofs.parser.parse_inlined.Goals as goal

pub returns-in-Err-clause-answer : goal.returns-in-Err-clause-answer
returns-in-Err-clause-answer c = (fault_at c.args.capacity (c.in-Err.ensures.0 c.args.capacity), c.in-Err.ensures.1)

pub returns-in-Err-append_group-clause-answer : goal.returns-in-Err-append_group-clause-answer
returns-in-Err-append_group-clause-answer c = (
  fault_at c.args.capacity (root_written c.args.capacity c.args.out.now c.append_group.new.out c.in-Ok.ensures c.append_group.auto.out
      (Err c.in-Err-append_group.fault) c.in-Err-append_group.ensures.appends),
  tt,
)

whole : (capacity : ℕ) (text : List ℕ) (Is : ℕ → Type 0) (result : Result ℕ Wrong)
    → MatchResult result Is (λ wrong. IsFoundAt capacity text (error_of text wrong) (place_of wrong) × NeedsNoStart text wrong)
    → MatchResult result Is (λ wrong. IsFaultAt capacity text (error_of text wrong) (place_of wrong) × NeedsNoStart text wrong)
whole capacity text Is (Ok len) is = is
whole capacity text Is (Err wrong) is = (fault_at capacity is.0, is.1)

pub returns-clause-answer : goal.returns-clause-answer
returns-clause-answer c =
    let begun = root_written c.args.capacity c.args.out.now c.append_group.new.out c.in-Ok.ensures c.append_group.auto.out
    (Ok c.in-Ok-append_group.used) c.in-Ok-append_group.ensures.appends in
    whole c.args.capacity c.args.text.now _ c.parse_later.result (c.parse_later.ensures.answer [] c.args.out.now 0 begun)
