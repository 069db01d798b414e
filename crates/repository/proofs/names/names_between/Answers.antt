use Rattle.repository.proofs.Gathered.{gathered_once}
use Rattle.repository.proofs.names.names_between.Goals as goal

pub returns : goal.returns
returns c =
    gathered_once c.args.old.now c.args.fresh.now c.in_ok-names.names.items c.sort_unstable.new.self.items c.dedup.new.self.items c.new.result c.in_ok-names.ensures c.sort_unstable.ensures.permutation c.sort_unstable.ensures.sorted c.dedup.ensures.filtered c.new.ensures
