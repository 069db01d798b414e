use Rattle.repo_mirror.proofs.SetReplies.{excluded, one_place, same_set}
use Rattle.repo_mirror.proofs.message_laws.one_reply.Goals as goal

pub returns-clause-unique : goal.returns-clause-unique
returns-clause-unique c = same_set c.unique_set.ensures

pub returns-clause-excluded : goal.returns-clause-excluded
returns-clause-excluded c = λ set bytes place. excluded bytes set place

pub returns-clause-one_place : goal.returns-clause-one_place
returns-clause-one_place c = one_place
