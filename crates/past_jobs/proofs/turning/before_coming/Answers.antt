use Rattle.std.proofs.Common.{Option, None, Some, Bor, sym, ◌∙◌, subst}
use Rattle.std.specs.Option.{option_copied}
use Rattle.local_db.specs.trove-stream.declared.parts.TroveParts.{TroveParts}
use Rattle.local_db.specs.Record.{came, TakesBackAt}
use Rattle.past_jobs.proofs.turning.before_coming.Goals as goal

pub returns-clause-value : goal.returns-clause-value
returns-clause-value c =
    subst (λ (o : Option (Bor TroveParts)). TakesBackAt (Some (came c.args.id.now)) (option_copied o) None) (sym c.in-Some.is)
    (sym c.id.ensures.value ∙ c.is_same.ensures.0 c.if-not-is_same.false)
