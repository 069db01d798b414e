use Rattle.std.proofs.Common.{◌∙◌, ap, sym, subst, ℕ}
use Rattle.std.specs.BTreeSet.{contains_text}
use Rattle.tree_disk.specs.Disk.{IsCrashImage}
use Rattle.tree_nodes.specs.Crash.{left_by, HoldsNodes}
use Rattle.tree_nodes.proofs.Left.{bytes_of, in_order, left_zero}
use Rattle.tree_nodes.proofs.CrashImage.{left_image}
use Rattle.tree_nodes.proofs.crash.Crash.image.Goals as goal

pub returns-clause-picked : goal.returns-clause-picked
returns-clause-picked c =
    let self = c.args.self.now in
    record {
      names = bytes_of self.unsynced.now.keys;
      in_order = in_order self.unsynced.now c.in_ok-leave_all.ensures.sorted;
      image = c.in_ok-leave_all.ensures.image ∙ ap (left_by self.reads.now self.synced.now (contains_text self.unsynced.now) c.args.pick 0 (bytes_of self.unsynced.now.keys)) c.in_ok-image.ensures;
    }

pub returns-clause-image : goal.returns-clause-image
returns-clause-image c =
    let self = c.args.self.now in
    let names = bytes_of self.unsynced.now.keys in
    let left = c.in_ok-leave_all.ensures.image ∙ ap (left_by self.reads.now self.synced.now (contains_text self.unsynced.now) c.args.pick 0 names) c.in_ok-image.ensures in
    subst (IsCrashImage self.reads.now (contains_text self.unsynced.now)) (sym left)
    (left_image self.reads.now self.synced.now (contains_text self.unsynced.now) c.requires.tree c.args.pick names (in_order self.unsynced.now c.in_ok-leave_all.ensures.sorted) c.requires.paths
    (subst HoldsNodes left (c.in_ok-leave_all.ensures.nodes (subst HoldsNodes (sym c.in_ok-image.ensures) c.requires.tree.nodes))))

pub returns-clause-zero : goal.returns-clause-zero
returns-clause-zero c none =
    let self = c.args.self.now in
    let names = bytes_of self.unsynced.now.keys in
    c.in_ok-leave_all.ensures.image
    ∙ ap (λ (n : ℕ). left_by self.reads.now self.synced.now (contains_text self.unsynced.now) n 0 names c.in_ok-image.image) none
    ∙ ap (left_by self.reads.now self.synced.now (contains_text self.unsynced.now) 0 0 names) c.in_ok-image.ensures
    ∙ left_zero self.reads.now self.synced.now (contains_text self.unsynced.now) 0 names c.requires.tree
