use Rattle.dep_closure.proofs.whole.ListedMeets.meets.Goals as goal

pub returns : goal.returns
returns c = (
  λ h. let met = c.is_met_by_any.ensures.0 h in record { trove = met.0; there = met.1; by = met.2 },
  λ met. c.is_met_by_any.ensures.1 (met.trove, met.there, met.by),
)
