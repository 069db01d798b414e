use Rattle.std.proofs.Common.{◌≡◌, ◌+◌, ◌∙◌, ap, arith}
use Rattle.repo_load.proofs.tree-disk.ConfinedLaws.{confined_on, confined_start, confined_then, confined_wider}
use Rattle.repo_load.specs.tree-disk.Rows.{is_dir_at}
use Rattle.repo_load.specs.tree-disk.Tree.{Tree}
use Rattle.repo_load.specs.Files.{commit_file, contents_dir, repository_base}
use Rattle.repo_load.specs.journal-log.Own.{staged}
use Rattle.repository.specs.Preparing.{content, IsWrittenName}
use Rattle.tree_journal.proofs.Preparing.{makes_stopped, prepares_makes, prepares_stop}
use Rattle.repository.proofs.Putting.{carried_is_unnamed}
use Rattle.repository.proofs.Readying.{behind_prepared, dir_made, dirs_not_staged, dirs_prepared, is_ready, unnamed_prepared}
use Rattle.repository.proofs.Within.{behind_written, dirs_written}
use Rattle.repository.proofs.preparing.prepare.Goals as goal

pub returns-in_err-behind-clause-only : goal.returns-in_err-behind-clause-only
returns-in_err-behind-clause-only g c tells = confined_start g.met.D.TreeDisk.laws (IsWrittenName c.args.committed.now g.listed) c.args.disk.now

pub returns-in_err-dir-clause-prepares : goal.returns-in_err-dir-clause-prepares
returns-in_err-dir-clause-prepares g c = makes_stopped _ (dirs_prepared c.args.committed.now) c.in_err-dir.ensures.makes c.from_residual-in_err-dir.ensures.1

pub returns-in_err-dir-clause-only : goal.returns-in_err-dir-clause-only
returns-in_err-dir-clause-only g c tells = confined_wider (dirs_written c.args.committed.now g.listed) (c.in_err-dir.ensures.makes.confined tells)

pub returns-in_err-put_contents-clause-prepares : goal.returns-in_err-put_contents-clause-prepares
returns-in_err-put_contents-clause-prepares g c =
    let k = c.args.committed.now in
    prepares_stop _ c.in_ok-dir.ensures.makes.later (λ tells. confined_wider (dirs_prepared k) (c.in_ok-dir.ensures.makes.confined tells)) c.in_err-put_contents.ensures.later
    (λ tells. confined_wider (λ q h. unnamed_prepared k q (carried_is_unnamed k g.listed (c.requires.1.1.1.1.1.0 tells) q h)) (c.in_err-put_contents.ensures.confined tells)) c.in_err-put_contents.ensures.ends c.from_residual-in_err-put_contents.ensures.1

pub returns-in_err-put_contents-clause-only : goal.returns-in_err-put_contents-clause-only
returns-in_err-put_contents-clause-only g c tells =
    confined_then (confined_wider (dirs_written c.args.committed.now g.listed) (c.in_ok-dir.ensures.makes.confined tells)) (confined_wider (λ q h. content h) (c.in_err-put_contents.ensures.confined tells))

pub returns-clause-prepares : goal.returns-clause-prepares
returns-clause-prepares g c =
    let k = c.args.committed.now in
    let dirs = c.in_ok-dir.ensures.makes in
    let put = c.in_ok-put_contents.ensures in
    let number : c.in_ok-behind.behind ≡ commit_file (k.commits + 2) = c.in_ok-behind.ensures in
    let cleared = rw number at c.clear_tree.ensures in
    prepares_makes (omega (arith, dirs.later, put.later))
    (λ tells. confined_then (confined_wider (dirs_prepared k) (dirs.confined tells)) (confined_wider (λ q h. unnamed_prepared k q (carried_is_unnamed k g.listed (c.requires.1.1.1.1.1.0 tells) q h)) (put.confined tells)))
    (behind_prepared k) cleared
    (λ tells is. is_ready k g.listed (g.D.TreeDisk.disk.reads c.args.disk.now) _ _ _ (dirs.ended tells) (λ q out. (put.confined tells).reads q (λ h. out (carried_is_unnamed k g.listed (c.requires.1.1.1.1.1.0 tells) q h))) (put.ends tells) is)

pub returns-clause-only : goal.returns-clause-only
returns-clause-only g c tells =
    let k = c.args.committed.now in
    let number : c.in_ok-behind.behind ≡ commit_file (k.commits + 2) = c.in_ok-behind.ensures in
    let cleared = rw number at c.clear_tree.ensures in
    confined_on (confined_then (confined_wider (dirs_written k g.listed) (c.in_ok-dir.ensures.makes.confined tells)) (confined_wider (λ q h. content h) (c.in_ok-put_contents.ensures.confined tells)))
    (behind_written k g.listed) (cleared.confined tells)

pub put_contents-requires : goal.put_contents-requires
put_contents-requires g c = λ κs lives. (
  lives.0,
  (
    lives.1,
    (
      c.requires.1.1.1.0,
      (
        λ tells. g.met.I.Incoming.steady c.args.contents.now (staged repository_base) g.listed (g.D.TreeDisk.disk.reads c.args.disk.now) (g.D.TreeDisk.disk.reads c.make_dirs.new.disk) (c.requires.1.1.1.1.0 tells)
            (λ q within. (c.in_ok-dir.ensures.makes.confined tells).reads q (dirs_not_staged q within)),
        (
          c.requires.1.1.1.1.1.0,
          (
            c.requires.1.1.1.1.1.1,
            (
              c.in_ok-dir.ensures.path,
              λ tells. ap (λ (t : Tree). is_dir_at t contents_dir) (c.in_ok-dir.ensures.makes.ended tells) ∙ dir_made (g.D.TreeDisk.disk.reads c.args.disk.now),
            ),
          ),
        ),
      ),
    ),
  ),
)
