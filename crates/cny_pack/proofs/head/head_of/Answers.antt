use Rattle.cny_pack.proofs.Heading.{head_is}
use Rattle.cny_pack.proofs.head.head_of.Goals as goal

pub returns-clause-head : goal.returns-clause-head
returns-clause-head c =
    head_is c.args.words c.in_ok-text.text c.push_id.new.text c.push_given.new.text c.push_given-2.new.text c.in_ok-id.id c.in_ok-requires_.requires_ c.in_ok-provides.provides c.in_ok-text.ensures c.in_ok-id.ensures.added c.in_ok-requires_.ensures.added
    c.in_ok-provides.ensures.added
