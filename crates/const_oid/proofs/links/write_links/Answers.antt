use Rattle.std.proofs.Common.{◌≡◌, ◌+◌, ◌-◌, length, arith, refl}
use Rattle.std.proofs.lemmas.{Grind.common_steps, List.get_or-replicate}
use Rattle.const_oid.proofs.Linked.{no_links, one_more}
use Rattle.const_oid.proofs.links.write_links.Goals as goal

pub loop-index-init : goal.loop-index-init
loop-index-init c =
    let count = length c.args.entries.now in
    record {
      within = omega arith;
      long = refl;
      so_far = no_links _ _ _ _ (λ slot l. rw (c.requires.unlinked) (get_or-replicate (length c.args.links.now) (count + slot) count 0 (omega arith)));
    }

pub loop-index-preserved : goal.loop-index-preserved
loop-index-preserved c =
    let again : c.loop-index.index - 1 + 1 ≡ c.loop-index.index = omega arith in
    record {
      within = omega arith;
      long = grind (arith, common_steps);
      so_far = one_more _ (length c.args.links.now - length c.args.entries.now) _ _ _ c.index-entries-index.result c.loop-index.links
          (omega arith) (omega arith) (omega arith) c.index-entries-index.is (cc)
          (rw again c.loop-index.invariant.so_far);
    }

pub returns : goal.returns
returns c = λ more.
    let ended : c.loop-index.index ≡ 0 = omega arith in
    rw (c.loop-index.invariant.long) (rw ended at c.loop-index.invariant.so_far)
