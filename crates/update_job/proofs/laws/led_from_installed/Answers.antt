use Rattle.update_job.proofs.Bases.{led_from}
use Rattle.update_job.proofs.laws.led_from_installed.Goals as goal

pub returns : goal.returns
returns c = led_from
