use Rattle.std.proofs.Common.{◌≤◌, ◌-◌, length, Ok}
use Rattle.repo_serve.specs.Answers.{Answers}
use Rattle.repo_serve.specs.Steps.{IsWithin}
use Rattle.repo_serve.proofs.Progress.{Progresses}
use Rattle.repo_serve.proofs.answering.answer_all.Given as goal

abbrev pub invariant-requests : goal.invariant-requests
invariant-requests g l = record {
  most : l.used ≤ length l.bytes;
  within : IsWithin l.answered;
  run : Answers {X = Unit {0}} g.D.TreeDisk.disk (λ tree x. Progresses tree l.fn.answered l.answered l.bytes l.used l.fn.out l.out) (λ tree refusal. ⊥) (λ tree path. ⊥) l.fn.disk l.disk (Ok tt);
}

abbrev pub decreases-requests : goal.decreases-requests
decreases-requests g l = length l.bytes - l.used
