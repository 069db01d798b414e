use Rattle.cny_laws.proofs.EditedSystems.{flag_kept, log_kept, log_before}
use Rattle.cny_laws.proofs.SeveralEdits.{all_kept, kept_beside}
use Rattle.cny_laws.proofs.edits.recovers_edited.Goals as goal

pub returns-clause-clear : goal.returns-clause-clear
returns-clause-clear c x s edits are clear r = all_kept edits x s are clear r

pub returns-clause-beside : goal.returns-clause-beside
returns-clause-beside c x s edits puts are set holds can r = kept_beside x s edits puts are set holds can r

pub returns-clause-flag : goal.returns-clause-flag
returns-clause-flag c x e is = flag_kept x e is.not_reserved

pub returns-clause-log : goal.returns-clause-log
returns-clause-log c x e puts is holds = log_kept x e is.not_reserved puts holds

pub returns-clause-log_before : goal.returns-clause-log_before
returns-clause-log_before c x e puts is holds = log_before x e is.not_reserved puts holds
