use Rattle.std.proofs.Common.{Bool, sym, subst}
use Rattle.trove_spec.specs.AndThen.{EndsAs}
use Rattle.root_commands.specs.UpdateSpecs.{BringAll}
use Rattle.root_commands.proofs.specified.all_brought.Goals as goal

pub returns-then-resolve-clause-ends : goal.returns-then-resolve-clause-ends
returns-then-resolve-clause-ends c =
    subst (λ (resolve : Bool). EndsAs (BringAll resolve c.args.opened.now.catalogue.troves c.args.opened.now.db.installed c.args.config.now c.args.ids.now) c.all_completed.result) (sym c.if-resolve.true) c.all_completed.ensures.ends

pub returns-clause-ends : goal.returns-clause-ends
returns-clause-ends c =
    subst (λ (resolve : Bool). EndsAs (BringAll resolve c.args.opened.now.catalogue.troves c.args.opened.now.db.installed c.args.config.now c.args.ids.now) c.all_reached.result) (sym c.if-resolve.false) c.all_reached.ensures.ends
