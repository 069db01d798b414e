use Rattle.std.proofs.Common.{Option, Err, refl, sym, ◌∙◌, ap, subst}
use Rattle.repo_load.specs.cny-base.declared.refusal.Fault.{Fault}
use Rattle.repo_serve.specs.Sessions.{HasEnded, IsGivenTo}
use Rattle.repo_serve.specs.declared.halt.Halt.{Halt}
use Rattle.repo_serve.proofs.Halted.{ends_as_told, stopped_ends}
use Rattle.repo_serve.proofs.session.Session.end.Goals as goal

pub returns-in-Some-clause-replies : goal.returns-in-Some-clause-replies
returns-in-Some-clause-replies c = λ r given gained is.
    let out = c.args.out.now in
    subst (λ (why : Fault). HasEnded r given gained out out (Err why)) (sym c.fault.ensures)
    (stopped_ends r given gained out out c.in-Some.halt (subst (λ (o : Option Halt). IsGivenTo o r c.args.self.unanswered given gained) c.in-Some.is is))

pub returns-in-Some-clause-again : goal.returns-in-Some-clause-again
returns-in-Some-clause-again c = λ stop told.
    (ap (λ (why : Fault). Err why) (c.fault.ensures ∙ ends_as_told c.args.self.over c.in-Some.halt stop c.in-Some.is told), refl)
