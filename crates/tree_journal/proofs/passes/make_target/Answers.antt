use Rattle.std.proofs.Common.{◌≡◌, true, IsTrue, Some, sym, ap, subst}
use Rattle.journal_log.specs.cny-base.declared.node.Node.TheVariants as node
use Rattle.journal_log.specs.tree-disk.Disk.{DiskModel}
use Rattle.journal_log.specs.tree-disk.Tree.{Name, Tree, same_name, put}
use Rattle.journal_log.proofs.tree-disk.StepLaws.{makes_as, makes_start, makes_wider}
use Rattle.journal_log.specs.tree-disk.Unfailed.{UnlessFailed}
use Rattle.journal_log.proofs.tree-disk.Unfailed.{unfailed_start, unfailed_weaker}
use Rattle.journal_log.specs.declared.put.Want.{Want}
use Rattle.journal_log.specs.Targets.{is_dir_want, node_of}
use Rattle.journal_log.specs.WriteSet.{CanBeLogged}
use Rattle.tree_journal.specs.Passes.{is_renamed, is_work_or_name}
use Rattle.tree_journal.specs.Staging.{has_content, resolved}
use Rattle.tree_journal.specs.Visible.{IsBetween}
use Rattle.tree_journal.proofs.MakePass.{put_nothing, may_make_dir, may_move}
use Rattle.tree_journal.proofs.Seen.{between_either}
use Rattle.tree_journal.proofs.Staged.{content_size}
use Rattle.journal_log.proofs.cny-base.Bools.{or_right}
use Rattle.tree_journal.proofs.passes.make_target.Goals as goal

-- what a target comes to
abbrev target : Name → Name → Tree → Want → Tree
target base path tree want = put tree path (node_of (resolved base tree want))

seen_as : {D : Type 0} {disk : DiskModel D} {old new : D} {v w : Want} (base path : Name) → v ≡ w → UnlessFailed disk old new (IsBetween base (disk.reads old) (target base path (disk.reads old) w))
    → UnlessFailed disk old new (IsBetween base (disk.reads old) (target base path (disk.reads old) v))
seen_as {disk = disk} {old = old} {new = new} base path is seen = subst (λ (w : Want). UnlessFailed disk old new (IsBetween base (disk.reads old) (target base path (disk.reads old) w))) (sym is) seen

pub returns-in-Nothing-clause-makes : goal.returns-in-Nothing-clause-makes
returns-in-Nothing-clause-makes g c = makes_start g.met.D.TreeDisk.laws (is_work_or_name c.args.base.now c.args.put.now.path) c.args.disk.now tt
    (λ tells. sym (put_nothing c.args.base.now _ c.args.put.now c.in-Nothing.is (c.requires.told tells).can))

pub returns-in-Nothing-clause-seen : goal.returns-in-Nothing-clause-seen
returns-in-Nothing-clause-seen g c = λ tells. unfailed_start c.args.disk.now _

name_within : (base path q : Name) → IsTrue (same_name q path) → IsTrue (is_work_or_name base path q)
name_within base path q h = or_right _ (same_name q path) h

pub make_dir_at-requires : goal.make_dir_at-requires
make_dir_at-requires g c = λ tells. may_make_dir _ c.args.put.now (c.requires.told tells).can (ap is_renamed c.in-Dir.is) (λ none. absurd (cc (c.in-Dir.is, none)))

pub returns-in-Dir-clause-makes : goal.returns-in-Dir-clause-makes
returns-in-Dir-clause-makes g c = makes_as (makes_wider (name_within c.args.base.now c.args.put.now.path) c.make_dir_at.ensures.makes)
    (λ tells. sym (ap (target c.args.base.now c.args.put.now.path (g.D.TreeDisk.disk.reads c.args.disk.now)) c.in-Dir.is))

pub returns-in-Dir-clause-seen : goal.returns-in-Dir-clause-seen
returns-in-Dir-clause-seen g c = λ tells.
    let tree = g.D.TreeDisk.disk.reads c.args.disk.now in
    let base = c.args.base.now in
    let path = c.args.put.now.path in
    seen_as base path c.in-Dir.is (unfailed_weaker (λ t. between_either base tree (put tree path (Some (node.Dir c.in-Dir.mode))) t) (c.make_dir_at.ensures.seen tells))

pub put_link-requires-clause-told : goal.put_link-requires-clause-told
put_link-requires-clause-told g c = λ tells. may_move c.args.base.now _ c.args.put.now (c.requires.told tells) (ap is_dir_want c.in-Link.is) (λ none. absurd (cc (c.in-Link.is, none)))

pub returns-in-Link-clause-makes : goal.returns-in-Link-clause-makes
returns-in-Link-clause-makes g c = makes_as c.put_link.ensures.makes (λ tells. sym (ap (target c.args.base.now c.args.put.now.path (g.D.TreeDisk.disk.reads c.args.disk.now)) c.in-Link.is))

pub returns-in-Link-clause-seen : goal.returns-in-Link-clause-seen
returns-in-Link-clause-seen g c = λ tells. seen_as c.args.base.now c.args.put.now.path c.in-Link.is (c.put_link.ensures.seen tells)

pub put_file-requires-clause-staged : goal.put_file-requires-clause-staged
put_file-requires-clause-staged g c = subst (CanBeLogged c.args.base.now) c.in-Staged.is c.requires.logged

pub put_file-requires-clause-stands : goal.put_file-requires-clause-stands
put_file-requires-clause-stands g c = λ tells. content_size c.args.base.now _ c.in-Staged.mode c.in-Staged.number c.in-Staged.size _ (subst (λ (w : Want). has_content c.args.base.now (g.D.TreeDisk.disk.reads c.args.disk.now) w ≡ true) c.in-Staged.is (c.requires.told tells).stands)

pub put_file-requires-clause-told : goal.put_file-requires-clause-told
put_file-requires-clause-told g c = λ tells. may_move c.args.base.now _ c.args.put.now (c.requires.told tells) (ap is_dir_want c.in-Staged.is) (λ none. absurd (cc (c.in-Staged.is, none)))

pub returns-in-Staged-clause-makes : goal.returns-in-Staged-clause-makes
returns-in-Staged-clause-makes g c = makes_as c.put_file.ensures.makes (λ tells. sym (ap (target c.args.base.now c.args.put.now.path (g.D.TreeDisk.disk.reads c.args.disk.now)) c.in-Staged.is))

pub returns-in-Staged-clause-seen : goal.returns-in-Staged-clause-seen
returns-in-Staged-clause-seen g c = λ tells. seen_as c.args.base.now c.args.put.now.path c.in-Staged.is (c.put_file.ensures.seen tells)

pub unreachable-requires : goal.unreachable-requires
unreachable-requires g c = absurd (subst (CanBeLogged c.args.base.now) c.in-File.is c.requires.logged)
