use Rattle.std.proofs.Common.{◌++◌, Option, Some, Err, sym, subst, arith}
use Rattle.change_set.specs.FirstFault.{IsFirstFault}
use Rattle.change_set.specs.cny-base.declared.stop.Stop.{Stop}
use Rattle.cny_stream.specs.Decided.{Decided}
use Rattle.change_pull.specs.declared.halt.Halt.{Halt}
use Rattle.change_pull.specs.Given.{IsGivenTo, IfRefused, UnlessFailing}
use Rattle.change_pull.proofs.Ends.{open_is_undecided}
use Rattle.change_pull.proofs.Told.{stopped_on, stopped_refused, halted_refused}
use Rattle.change_pull.proofs.Taken.{all_bytes}
use Rattle.change_pull.proofs.pull.Pull.feed.Goals as goal

pub returns-in-Some-clause-given : goal.returns-in-Some-clause-given
returns-in-Some-clause-given g c = λ given is.
    let piece = c.args.piece.now in
    let reading = c.args.self.now.reading in
    let stopped = subst (λ (o : Option Halt). IsGivenTo o reading c.args.dir.now given) c.in-Some.is is in
    subst (λ (o : Option Halt). UnlessFailing (Err c.stop.result) (IsGivenTo o reading c.args.dir.now (given ++ piece))) (sym c.in-Some.is)
    (subst (λ (s : Stop). UnlessFailing (Err s) (IsGivenTo (Some c.in-Some.halt) reading c.args.dir.now (given ++ piece))) (sym c.stop.ensures)
    (stopped_on reading c.args.dir.now given piece c.in-Some.halt (all_bytes piece (λ i. omega (arith, c.type_inv.piece i))) stopped))

pub returns-in-Some-clause-decided : goal.returns-in-Some-clause-decided
returns-in-Some-clause-decided g c = λ given is.
    let piece = c.args.piece.now in
    let stopped = subst (λ (o : Option Halt). IsGivenTo o c.args.self.now.reading c.args.dir.now given) c.in-Some.is is in
    subst (IfRefused (Decided IsFirstFault (given ++ piece))) (sym c.stop.ensures) (stopped_refused given piece c.in-Some.halt (all_bytes piece (λ i. omega (arith, c.type_inv.piece i))) stopped)

pub returns-in-Ok-clause-given : goal.returns-in-Ok-clause-given
returns-in-Ok-clause-given g c = λ given is.
    let it = subst (λ (o : Option Halt). IsGivenTo o c.args.self.now.reading c.args.dir.now given) c.in-None.is is in
    subst (λ (o : Option Halt). IsGivenTo o c.take_all.new.reading c.args.dir.now (given ++ c.args.piece.now)) (sym c.in-None.is) (c.in-Ok.ensures.advances given it).0

pub returns-in-Ok-clause-undecided : goal.returns-in-Ok-clause-undecided
returns-in-Ok-clause-undecided g c = λ given is.
    let it = subst (λ (o : Option Halt). IsGivenTo o c.args.self.now.reading c.args.dir.now given) c.in-None.is is in
    open_is_undecided c.take_all.new.reading c.args.dir.now (given ++ c.args.piece.now) (c.in-Ok.ensures.advances given it).0

pub returns-in-Ok-clause-stands : goal.returns-in-Ok-clause-stands
returns-in-Ok-clause-stands g c = λ given it tells holds.
    let now = c.in-Ok.ensures.advances given it in
    (now.0, now.1 tells holds)

pub returns-in-Err-clause-decided : goal.returns-in-Err-clause-decided
returns-in-Err-clause-decided g c = λ given is.
    let it = subst (λ (o : Option Halt). IsGivenTo o c.args.self.now.reading c.args.dir.now given) c.in-None.is is in
    subst (IfRefused (Decided IsFirstFault (given ++ c.args.piece.now))) (sym c.stop-in-Err.ensures) (halted_refused (Decided IsFirstFault (given ++ c.args.piece.now)) c.in-Err.halt (c.in-Err.ensures.refused given it))
