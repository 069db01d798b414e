use Rattle.std.proofs.Common.{◌≡◌, ℕ, ◌+◌, ◌∷◌, [], ◌∙◌, ap}
use Rattle.repo_load.specs.Steps.{commit_put}
use Rattle.repository.proofs.Applied.{can_apply, puts_of}
use Rattle.repository.proofs.Written.{writes_applied, writes_nothing, writes_stopped}
use Rattle.change_rel.specs.cny-base.Modes.{file_mode}
use Rattle.repository.proofs.writing.write.Goals as goal

pub returns-in_err-puts-clause-writes : goal.returns-in_err-puts-clause-writes
returns-in_err-puts-clause-writes g c = writes_nothing g.met.D.TreeDisk.laws c.args.committed.now g.listed c.args.troves.now c.requires.1.1.0 c.args.disk.now c.from_residual.result c.requires.1.1.1.1.1.1.1 c.from_residual.ensures.1

pub returns-in_err-base-clause-writes : goal.returns-in_err-base-clause-writes
returns-in_err-base-clause-writes g c = writes_nothing g.met.D.TreeDisk.laws c.args.committed.now g.listed c.args.troves.now c.requires.1.1.0 c.args.disk.now c.from_residual-in_err-base.result c.requires.1.1.1.1.1.1.1 c.from_residual-in_err-base.ensures.1

pub returns-in_err-prepare-clause-writes : goal.returns-in_err-prepare-clause-writes
returns-in_err-prepare-clause-writes g c =
    let prepared = c.in_err-prepare.ensures.prepares in
    writes_stopped g.met.D.TreeDisk.laws c.args.committed.now g.listed c.args.troves.now c.requires.1.1.0 _ c.from_residual-in_err-prepare.result c.requires.1.1.1.1.1.1.1 prepared.later prepared.confined c.in_err-prepare.ensures.only prepared.ends c.from_residual-in_err-prepare.ensures.1

pub apply-requires-clause-told : goal.apply-requires-clause-told
apply-requires-clause-told g c tells =
    let k = c.args.committed.now in
    let puts_are : c.in_ok-puts.puts ≡ puts_of k c.args.troves.now = c.in_ok-puts.ensures.value ∙ ap (λ (n : ℕ). commit_put (n + 1) file_mode c.args.troves.now ∷ []) (c.from-number.ensures ∙ c.commits.ensures) in
    let prepared = c.in_ok-prepare.ensures.prepares in
    rw (puts_are, c.in_ok-base.ensures) (can_apply g.met.D.TreeDisk.laws k g.listed c.args.troves.now c.requires.1.1.0 c.args.disk.now c.prepare.new.disk (c.requires.1.1.1.1.1.1.1 tells) (prepared.confined tells) (prepared.ends tells) c.in_ok-puts.ensures.bytes)

pub returns-clause-writes : goal.returns-clause-writes
returns-clause-writes g c =
    let k = c.args.committed.now in
    let puts_are : c.in_ok-puts.puts ≡ puts_of k c.args.troves.now = c.in_ok-puts.ensures.value ∙ ap (λ (n : ℕ). commit_put (n + 1) file_mode c.args.troves.now ∷ []) (c.from-number.ensures ∙ c.commits.ensures) in
    writes_applied g.met.D.TreeDisk.laws k g.listed c.args.troves.now c.requires.1.1.0 c.apply.result c.in_ok-puts.ensures.troves c.in_ok-puts.ensures.fits c.requires.1.1.1.1.1.1.1 c.in_ok-prepare.ensures.prepares c.in_ok-prepare.ensures.only c.apply.ensures.later
    (λ tells. rw (puts_are, c.in_ok-base.ensures) at (c.apply.ensures.any_moment tells))
    (λ tells. rw (puts_are, c.in_ok-base.ensures) at (c.apply.ensures.applied tells))
    (λ tells. rw (puts_are, c.in_ok-base.ensures) at (c.apply.ensures.stopped tells))
    (λ tells. rw (puts_are, c.in_ok-base.ensures) at (c.apply.ensures.confined tells))
    c.apply.ensures.failed c.apply.ensures.stops

pub prepare-requires : goal.prepare-requires
prepare-requires g c = λ κs lives. (lives.0, (lives.1, (c.requires.1.1.0, (c.requires.1.1.1.0, (c.requires.1.1.1.1.0, (c.requires.1.1.1.1.1.0, c.requires.1.1.1.1.1.1.0))))))
