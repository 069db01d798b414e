use Rattle.manifest_troves.proofs.Policies.{not_in, slash_next}
use Rattle.manifest_troves.proofs.policy.is_in.Goals as goal

pub returns-in-None : goal.returns-in-None
returns-in-None c = not_in c.args.place.now c.args.path.now c.args.dir c.in-None.ensures.cases

pub returns-in-Some : goal.returns-in-Some
returns-in-Some c =
    slash_next c.args.place.now c.args.path.now c.in-Some.rest.now c.args.dir c.is_slash_next.result c.in-Some.ensures.cases.0 c.in-Some.ensures.cases.1 c.is_slash_next.ensures
