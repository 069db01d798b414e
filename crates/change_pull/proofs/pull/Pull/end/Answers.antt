use Rattle.std.proofs.Common.{Option, sym, subst}
use Rattle.change_set.specs.FirstFault.{IsFaultOf, IsRefusalOrMemory}
use Rattle.change_pull.specs.declared.halt.Halt.{Halt}
use Rattle.change_pull.specs.Given.{IsGivenTo}
use Rattle.change_pull.proofs.Told.{ok_map, ok_two, pulled_set, end_exact, stopped_fault, stopped_exact}
use Rattle.change_pull.proofs.Standing.{pulled_stand}
use Rattle.change_pull.proofs.pull.Pull.end.Goals as goal

pub returns-in-Some-clause-refused : goal.returns-in-Some-clause-refused
returns-in-Some-clause-refused c = λ dir given is.
    subst (IsFaultOf given) (sym c.fault.ensures) (stopped_fault given c.in-Some.halt (subst (λ (o : Option Halt). IsGivenTo o c.args.self.reading dir given) c.in-Some.is is))

pub returns-in-Some-clause-exact : goal.returns-in-Some-clause-exact
returns-in-Some-clause-exact c = λ dir given refusal is first.
    subst (IsRefusalOrMemory refusal) (sym c.fault.ensures) (stopped_exact given refusal c.in-Some.halt (subst (λ (o : Option Halt). IsGivenTo o c.args.self.reading dir given) c.in-Some.is is) (c.one_fault.ensures.unique given) first)

pub returns-in-None-clause-value : goal.returns-in-None-clause-value
returns-in-None-clause-value c = λ dir given it.
    ok_two c.pulled.result (c.pulled.ensures.value dir given it) (c.pulled.ensures.few dir given it) (λ pulled is small. pulled_set it.set given it.written dir pulled is small)

pub returns-in-None-clause-exact : goal.returns-in-None-clause-exact
returns-in-None-clause-exact c = λ dir given refusal is first.
    let it = subst (λ (o : Option Halt). IsGivenTo o c.args.self.reading dir given) c.in-None.is is in
    end_exact (Unit {0}) given refusal it.set c.pulled.result (ok_map c.pulled.result (c.pulled.ensures.value dir given it) (λ pulled h. (h.0, tt))) (c.pulled.ensures.refused dir given it) (c.one_fault.ensures.unique given) (c.one_fault.ensures.excluded given) first

pub returns-in-None-clause-staged : goal.returns-in-None-clause-staged
returns-in-None-clause-staged c = λ dir given it path other.
    ok_two c.pulled.result (c.pulled.ensures.value dir given it) (c.pulled.ensures.few dir given it) (λ pulled is small tree holds. pulled_stand tree dir path other it.set it.written pulled is.2 is.3 small is.0.set_is.has_contents holds)
