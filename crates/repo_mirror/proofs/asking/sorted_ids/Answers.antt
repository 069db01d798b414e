use Rattle.repo_mirror.proofs.Asked.{sorted_once}
use Rattle.repo_mirror.proofs.asking.sorted_ids.Goals as goal

pub returns : goal.returns
returns c =
    sorted_once c.args.troves.now c.in_ok-ids.ids.items c.sort_unstable.new.self.items c.dedup.new.self.items c.in_ok-ids.ensures.ids c.in_ok-ids.ensures.valid c.sort_unstable.ensures.permutation c.sort_unstable.ensures.sorted c.dedup.ensures.filtered
