use Rattle.std.proofs.Common.{◌≡◌, IsTrue, sym, ◌∙◌, ap}
use Rattle.std.specs.FinMap.{get}
use Rattle.sha1.specs.Sha1.{sha1}
use Rattle.repo_load.specs.tree-disk.Tree.{Name}
use Rattle.repo_load.specs.content-store.Store.{content_path, stored}
use Rattle.repo_load.specs.Files.{contents_dir}
use Rattle.repository.proofs.Placing.{can_put, dir_stays, none_at, put_confined, put_stops}
use Rattle.tree_journal.proofs.Preparing.{makes_stopped, prepares_stop, prepares_then}
use Rattle.repository.proofs.storing.put_content.Goals as goal

pub returns-in_err-clear : goal.returns-in_err-clear
returns-in_err-clear g c = makes_stopped _ (λ q h. h) (rw c.requires.dir at c.in_err-clear.ensures.makes) c.from_residual.ensures.1

pub put-requires-clause-can : goal.put-requires-clause-can
put-requires-clause-can g c tells =
    let named : sha1 c.args.bytes.now ≡ c.args.name.now = sym (c.requires.hash tells) in
    let made = rw c.requires.dir at c.in_ok-clear.ensures.makes in
    let bare = rw c.requires.dir at (c.in_ok-clear.ensures.cleared tells) in
    rw c.requires.dir (rw named (can_put (g.D.TreeDisk.disk.reads c.clear.new.disk) contents_dir (content_path contents_dir c.args.name.now)
    (dir_stays (g.D.TreeDisk.disk.reads c.args.disk.now) (g.D.TreeDisk.disk.reads c.clear.new.disk) c.args.name.now (made.outside tells) (c.requires.stands tells))
    (none_at (g.D.TreeDisk.disk.reads c.clear.new.disk) (content_path contents_dir c.args.name.now) bare)))

pub returns-in_err-put : goal.returns-in_err-put
returns-in_err-put g c =
    let path = content_path c.args.dir.now (sha1 c.args.bytes.now) in
    let path_is : IsTrue g.D.TreeDisk.disk.tells → path ≡ content_path contents_dir c.args.name.now = λ tells. (λ i. content_path (c.requires.dir i) (sym (c.requires.hash tells) i)) in
    let made = rw c.requires.dir at c.in_ok-clear.ensures.makes in
    prepares_stop _ made.later made.confined c.in_err-put.ensures.decides.later
    (λ tells. put_confined (content_path contents_dir c.args.name.now) path _ (path_is tells) c.in_err-put.ensures.decides tells)
    (put_stops path (sha1 c.args.bytes.now) c.args.bytes.now _
    (λ tells. ap (λ (n : Name). get (g.D.TreeDisk.disk.reads c.clear.new.disk) n) (path_is tells) ∙ none_at (g.D.TreeDisk.disk.reads c.clear.new.disk) (content_path contents_dir c.args.name.now) (rw c.requires.dir at (c.in_ok-clear.ensures.cleared tells)))
    c.in_err-put.ensures.decides c.in_err-put.ensures.stops) c.from_residual-in_err-put.ensures.1

pub returns : goal.returns
returns g c =
    let path = content_path c.args.dir.now (sha1 c.args.bytes.now) in
    let path_is : IsTrue g.D.TreeDisk.disk.tells → path ≡ content_path contents_dir c.args.name.now = λ tells. (λ i. content_path (c.requires.dir i) (sym (c.requires.hash tells) i)) in
    let made = rw c.requires.dir at c.in_ok-clear.ensures.makes in
    prepares_then made.later made.confined c.in_ok-put.ensures.decides.later
    (λ tells. put_confined (content_path contents_dir c.args.name.now) path _ (path_is tells) c.in_ok-put.ensures.decides tells)
    (λ tells. (λ i. stored (g.D.TreeDisk.disk.reads c.put.new.disk) (sym c.requires.dir i) (c.requires.hash tells i)) ∙ c.in_ok-put.ensures.stored tells)
