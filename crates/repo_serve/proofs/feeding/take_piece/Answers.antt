use Rattle.std.proofs.Common.{refl}
use Rattle.repo_serve.specs.Sessions.{IsBehindEnd, IsRefusedPiece}
use Rattle.repo_serve.proofs.AnswersLaws.{answers_fault, answers_start, answers_stop, answers_value}
use Rattle.repo_serve.proofs.Piecewise.{malformed_of, refused_behind, refused_next, taken_on, taken_waiting, unsound_of}
use Rattle.repo_serve.proofs.feeding.take_piece.Goals as goal

pub returns-in_err-answer_tail : goal.returns-in_err-answer_tail
returns-in_err-answer_tail g c =
    let tree = g.D.TreeDisk.disk.reads c.args.disk.now in
    answers_stop c.in_err-answer_tail.ensures c.from_residual-in_err-answer_tail.ensures.1
    (λ told refusal d. refused_next tree c.args.it.now _ c.begin.new.it c.args.piece.now c.args.out.now c.begin.new.out c.in_ok-begin.ensures.ok c.in_ok-push_slice.ensures.ok refl refl c.if-it.true refusal d)
    (λ told path bad. unsound_of c.args.catalogue.now.troves c.begin.new.it.answered c.begin.new.it.tail tree path bad)

pub returns-in_err-check_rest : goal.returns-in_err-check_rest
returns-in_err-check_rest g c =
    let tree = g.D.TreeDisk.disk.reads c.args.disk.now in
    let last = c.answer_tail.new.it in
    answers_fault c.in_ok-answer_tail.ensures c.from_residual-in_err-check_rest.ensures.1
    (λ told all refusal same.
    malformed_of (IsBehindEnd last) (IsRefusedPiece tree c.args.it.now c.args.piece.now) c.in_err-check_rest.field-0.0 c.in_err-check_rest.ensures.refused
    (λ place b. refused_behind tree c.args.it.now _ c.begin.new.it c.args.piece.now c.args.out.now c.begin.new.out c.in_ok-begin.ensures.ok c.in_ok-push_slice.ensures.ok refl refl c.if-it.true last c.answer_tail.new.out all place b)
    refusal same)

pub returns-then-it : goal.returns-then-it
returns-then-it g c =
    let tree = g.D.TreeDisk.disk.reads c.args.disk.now in
    answers_value c.in_ok-answer_tail.ensures
    (λ told all.
    taken_on tree c.args.it.now _ c.begin.new.it c.args.piece.now c.args.out.now c.begin.new.out c.in_ok-begin.ensures.ok c.in_ok-push_slice.ensures.ok refl refl c.if-it.true c.answer_tail.new.it c.answer_tail.new.out all
    c.in_ok-check_rest.ensures.ok)

pub returns : goal.returns
returns g c =
    let tree = g.D.TreeDisk.disk.reads c.args.disk.now in
    answers_start g.met.D.TreeDisk.laws c.args.disk.now tt
    (λ told. taken_waiting tree c.args.it.now _ c.begin.new.it c.args.piece.now c.args.out.now c.begin.new.out c.in_ok-begin.ensures.ok c.in_ok-push_slice.ensures.ok refl refl c.if-it.false)
