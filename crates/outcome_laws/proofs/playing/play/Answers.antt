use Rattle.outcome_laws.proofs.PlayedStates.{played_folds}
use Rattle.outcome_laws.proofs.playing.play.Goals as goal

pub returns : goal.returns
returns c = record {
  made = c.make_all.ensures;
  folds = played_folds c.store_laws.ensures _ _ _ _ _ _ _ _ c.make_all.ensures;
}
