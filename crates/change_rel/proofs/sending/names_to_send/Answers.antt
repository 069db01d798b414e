use Rattle.change_rel.proofs.Sent.{sent_once}
use Rattle.change_rel.proofs.sending.names_to_send.Goals as goal

pub returns : goal.returns
returns c =
    sent_once c.args.old.now c.args.fresh.now c.in_ok-names.names.items c.sort_unstable.new.self.items c.dedup.new.self.items c.new.result c.in_ok-names.ensures c.sort_unstable.ensures.permutation c.sort_unstable.ensures.sorted c.dedup.ensures.filtered c.new.ensures
