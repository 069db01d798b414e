use Rattle.std.proofs.Common.{ap, ◌∙◌}
use Rattle.manifest_troves.specs.Shares.{Shared, share_at, plus}
use Rattle.manifest_troves.proofs.Sharing.{put_back}
use Rattle.manifest_troves.proofs.shares.add.Goals as goal

pub returns : goal.returns
returns c = λ other.
    put_back plus c.args.name other c.args.added (share_at c.insert.new.self other) (share_at c.take_share-share.new.shares other) (share_at c.args.shares.now other) (share_at c.args.shares.now c.args.name)
    c.push.new.self (c.in_ok-insert.ensures.updates.0 other) (c.take_share-share.ensures.rest.0 other)
    (c.in_ok-push.ensures ∙ ap (λ (s : Shared). plus s c.args.added) c.take_share-share.ensures.value)
    (λ same. ap (share_at c.args.shares.now) same)
