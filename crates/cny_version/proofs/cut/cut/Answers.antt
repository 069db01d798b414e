use Rattle.cny_version.proofs.TextPieces.{split_once_is}
use Rattle.cny_version.proofs.cut.cut.Goals as goal

pub returns-clause-cut : goal.returns-clause-cut
returns-clause-cut c = (split_once_is c.args.byte c.args.text.now c.split_once.result c.split_once.ensures.cases c.requires).cut

pub returns-clause-pieces : goal.returns-clause-pieces
returns-clause-pieces c = (split_once_is c.args.byte c.args.text.now c.split_once.result c.split_once.ensures.cases c.requires).pieces
