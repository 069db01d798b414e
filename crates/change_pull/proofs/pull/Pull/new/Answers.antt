use Rattle.std.proofs.Common.{inl, refl, None}
use Rattle.change_pull.specs.Open.{no_set}
use Rattle.change_pull.proofs.pull.Pull.new.Goals as goal

pub returns-clause-given : goal.returns-clause-given
returns-clause-given c = λ dir. record {
  set = no_set;
  written = None;
  kept = record { parts = c.new-2.ensures.items; staged = c.new-4.ensures.items; index = c.new-3.ensures };
  is_at = inl (refl, refl, c.new.ensures, record { count = refl; start = refl; goes_on = refl });
}
