use Rattle.repo_mirror.proofs.Taken.{again, all_there, none, own_and_missing, own_kept, sent_there}
use Rattle.repo_mirror.proofs.laws.mirrored.Goals as goal

pub returns-clause-troves : goal.returns-clause-troves
returns-clause-troves c = own_and_missing

pub returns-clause-contents : goal.returns-clause-contents
returns-clause-contents c = sent_there

pub returns-clause-kept : goal.returns-clause-kept
returns-clause-kept c = λ other own new name bytes it. own_kept other own new it name bytes

pub returns-clause-all : goal.returns-clause-all
returns-clause-all c = all_there

pub returns-clause-again_none : goal.returns-clause-again_none
returns-clause-again_none c = none

pub returns-clause-again : goal.returns-clause-again
returns-clause-again c = λ other own new last it more whole. again other own new last it more whole
