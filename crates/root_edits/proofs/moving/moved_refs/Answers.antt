use Rattle.root_edits.proofs.MovedIds.{refs_few, refs_once}
use Rattle.root_edits.proofs.moving.moved_refs.Goals as goal

pub returns-clause-refs : goal.returns-clause-refs
returns-clause-refs c =
    (refs_once c.distinct_ids.ensures.equal c.args.troves.now c.args.trove.now c.in_ok-refs.refs.items c.sort_unstable.new.self.items c.dedup.new.self.items c.new.result c.in_ok-refs.ensures.value c.in_ok-refs.ensures.valid
    c.sort_unstable.ensures.permutation c.sort_unstable.ensures.sorted c.dedup.ensures.filtered c.new.ensures).0

pub returns-clause-valid : goal.returns-clause-valid
returns-clause-valid c =
    (refs_once c.distinct_ids.ensures.equal c.args.troves.now c.args.trove.now c.in_ok-refs.refs.items c.sort_unstable.new.self.items c.dedup.new.self.items c.new.result c.in_ok-refs.ensures.value c.in_ok-refs.ensures.valid
    c.sort_unstable.ensures.permutation c.sort_unstable.ensures.sorted c.dedup.ensures.filtered c.new.ensures).1

pub returns-clause-few : goal.returns-clause-few
returns-clause-few c =
    refs_few c.args.troves.now c.args.trove.now c.in_ok-refs.refs.items c.sort_unstable.new.self.items c.dedup.new.self.items c.new.result c.in_ok-refs.ensures.value c.sort_unstable.ensures.permutation c.dedup.ensures.filtered c.new.ensures
