use Rattle.std.proofs.Common.{Option, Some, Bor, sym, ◌∙◌, subst}
use Rattle.std.specs.Option.{option_copied}
use Rattle.std.proofs.lemmas.Bool.{false≢true}
use Rattle.local_db.specs.trove-stream.declared.parts.TroveParts.{TroveParts}
use Rattle.local_db.specs.Record.{was, TakesBackAt}
use Rattle.past_jobs.proofs.turning.as_it_was.Goals as goal

pub returns-clause-value : goal.returns-clause-value
returns-clause-value c =
    subst (λ (o : Option (Bor TroveParts)). TakesBackAt (Some (was c.args.was.now)) (option_copied o) (Some c.in_ok-copy-2.field-0)) (sym c.in-Some.is) (
      c.in_ok-copy-2.ensures,
      sym c.id.ensures.value ∙ c.is_same.ensures.0 c.if-not-is_same.false ∙ c.id-2.ensures.value,
      λ e. false≢true (sym c.if-branch.false ∙ c.in_ok-are_same.ensures.1 e),
    )
