use Rattle.std.proofs.Common.{◌++◌, Option, Err, sym, subst}
use Rattle.repo_load.specs.cny-base.declared.refusal.Refusal.{Refusal}
use Rattle.repo_load.specs.cny-base.declared.stop.Stop.{Stop}
use Rattle.repo_load.specs.tree-disk.Tree.{Tree}
use Rattle.repo_serve.specs.Answers.{Answers}
use Rattle.repo_serve.specs.Sessions.{HasFed, HasRefused, HasUnsound, IsGivenTo}
use Rattle.repo_serve.specs.declared.halt.Halt.{Halt}
use Rattle.repo_serve.specs.declared.session.Session.{Session}
use Rattle.repo_serve.proofs.Halted.{answers_told, stopped_on}
use Rattle.repo_serve.proofs.session.Session.feed.Goals as goal

pub returns-in-Some-clause-decided : goal.returns-in-Some-clause-decided
returns-in-Some-clause-decided g c = λ r given gained stop told is.
    let unanswered = c.args.self.now.unanswered in
    let piece = c.args.piece.now in
    subst (λ (o : Option Halt). IsGivenTo o r unanswered (given ++ piece) gained) (sym c.in-Some.is)
    (stopped_on r given piece c.in-Some.halt (subst (λ (o : Option Halt). IsGivenTo o r unanswered given gained) c.in-Some.is is))

pub returns-in-Err-clause-answers : goal.returns-in-Err-clause-answers
returns-in-Err-clause-answers g c = λ told.
    let old = c.args.self.now in
    let new : Session = record { unanswered = c.take_piece.new.it; over = c.kept.new.over } in
    let piece = c.args.piece.now in
    let out = c.args.out.now in
    let appended = c.take_piece.new.out in
    let troves = c.args.catalogue.now.troves in
    subst (λ (e : Stop). Answers g.D.TreeDisk.disk (λ (tree : Tree) (done : Unit {0}). HasFed tree old new piece out appended) (λ (tree : Tree) (refusal : Refusal). HasRefused tree old new piece refusal) (HasUnsound troves)
    c.args.disk.now c.take_piece.new.disk (Err e)) (sym c.kept.ensures.told)
    (answers_told g.D.TreeDisk.disk old new piece out appended appended troves c.args.disk.now c.take_piece.new.disk c.in-Err.stop c.in-None.is c.kept.ensures.over c.in-Err.ensures)
