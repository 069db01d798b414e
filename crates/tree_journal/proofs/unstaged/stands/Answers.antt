use Rattle.std.proofs.Common.{◌≡◌, true, List, ℕ, ap, sym, ◌∙◌}
use Rattle.std.specs.FinMap.{get}
use Rattle.std.specs.Str.{bytes_eq}
use Rattle.journal_log.specs.tree-disk.Rows.{look_of}
use Rattle.tree_journal.specs.Staging.{is_content}
use Rattle.journal_log.specs.tree-disk.declared.disk.Look.{Look}
use Rattle.journal_log.proofs.tree-disk.StepLaws.{tests_value}
use Rattle.tree_journal.specs.Found.{sees_size}
use Rattle.tree_journal.proofs.Finding.{finds_test_stop, finds_test_answer, finds_after_test, finds_answer, finds_stop}
use Rattle.tree_journal.proofs.FirstUnstaged.{other_size, of_size, same_size, size_equal}
use Rattle.tree_journal.proofs.unstaged.stands.Goals as goal

pub returns-in_err-look : goal.returns-in_err-look
returns-in_err-look g c = finds_test_stop c.in_err-look.ensures.tests c.in_err-look.ensures.stops c.from_residual.ensures.1

pub returns-then-not-has_size : goal.returns-then-not-has_size
returns-then-not-has_size g c = finds_test_answer c.in_ok-look.ensures.tests (λ tells.
    other_size _ c.args.size c.args.name.now (ap (λ (l : Look). sees_size l c.args.size) (sym (tests_value c.in_ok-look.ensures.tests tells)) ∙ sym c.has_size.ensures ∙ c.if-not-has_size.true))

pub digest_of-requires-clause-file : goal.digest_of-requires-clause-file
digest_of-requires-clause-file g c = λ tells. rw (c.in_ok-look.ensures.tests.same tells).same.reads
    (of_size _ c.args.size (ap (λ (l : Look). sees_size l c.args.size) (sym (tests_value c.in_ok-look.ensures.tests tells)) ∙ sym c.has_size.ensures ∙ c.if-not-has_size.false)).0

pub digest_of-requires-clause-size : goal.digest_of-requires-clause-size
digest_of-requires-clause-size g c = λ tells. rw (c.in_ok-look.ensures.tests.same tells).same.reads
    (size_equal _ c.args.size (ap (λ (l : Look). sees_size l c.args.size) (sym (tests_value c.in_ok-look.ensures.tests tells)) ∙ sym c.has_size.ensures ∙ c.if-not-has_size.false))

pub returns-in_err-digest : goal.returns-in_err-digest
returns-in_err-digest g c = finds_after_test g.met.D.TreeDisk.laws c.in_ok-look.ensures.tests (finds_stop {P = λ tree stands. stands ≡ is_content (get tree c.args.path.now) c.args.size c.args.name.now} c.in_err-digest.ensures c.from_residual-in_err-digest.ensures.1) (λ tells is z p. p)

pub returns : goal.returns
returns g c = finds_after_test g.met.D.TreeDisk.laws c.in_ok-look.ensures.tests
    (finds_answer {P = λ tree stands. sees_size (look_of tree c.args.path.now) c.args.size ≡ true → stands ≡ is_content (get tree c.args.path.now) c.args.size c.args.name.now} {z = c.eq.result} c.in_ok-digest.ensures
    (λ tells digest is. c.eq.ensures ∙ ap (λ (l : List ℕ). bytes_eq l c.args.name.now) digest ∙ same_size _ c.args.size c.args.name.now is))
    (λ tells is z p. p (ap (λ (l : Look). sees_size l c.args.size) (sym is) ∙ sym c.has_size.ensures ∙ c.if-not-has_size.false))
