use Rattle.std.proofs.Common.{subst, sym}
use Rattle.trove_stream.specs.Installed.{IsRising}
use Rattle.trove_stream.proofs.Lists.{none_rise}
use Rattle.local_db.proofs.loading.no_database.Goals as goal

pub of_rising-requires : goal.of_rising-requires
of_rising-requires c = subst IsRising (sym c.new.ensures.items) none_rise
