use Rattle.job_targets.proofs.Changing.{all_change, all_seen}
use Rattle.job_targets.proofs.laws.planned_is_seen.Goals as goal

pub returns : goal.returns
returns c = record {
  seen = λ old fresh options tree plan are. all_seen old fresh options tree plan are;
  changes = λ old fresh options tree plan are. all_change old fresh options tree plan are;
}
