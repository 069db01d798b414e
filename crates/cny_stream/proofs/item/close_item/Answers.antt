use Rattle.std.proofs.Common.{◌∙◌}
use Rattle.cny_stream.proofs.Nesting.{closed}
use Rattle.cny_stream.proofs.item.close_item.Goals as goal

pub returns-clause-closed : goal.returns-clause-closed
returns-clause-closed c front head value place five is =
    c.write_head.ensures ∙ closed c.args.begun.tag c.args.begun.at c.args.out.now front head value place five is
