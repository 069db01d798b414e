use Rattle.std.proofs.Common.{◌≡◌, IsTrue, Some, sym, ◌∙◌, ap, subst}
use Rattle.sha1.specs.Sha1.{sha1}
use Rattle.repo_load.specs.content-store.Store.{stored}
use Rattle.repo_load.specs.journal-log.Own.{staged}
use Rattle.repo_load.specs.tree-disk.Tree.{Tree}
use Rattle.repo_load.specs.tree-disk.Rows.{is_dir_at}
use Rattle.repo_load.specs.Files.{contents_dir, repository_base}
use Rattle.repo_index.specs.Catalogue.{has_content}
use Rattle.change_pull.specs.Incoming.{content_at}
use Rattle.tree_journal.proofs.Preparing.{prepares_weaker}
use Rattle.repository.proofs.Compared.{prepares_read, read_stopped}
use Rattle.repository.proofs.Putting.{nothing_put}
use Rattle.repository.proofs.preparing.put_new.Goals as goal

pub returns-then-has_content : goal.returns-then-has_content
returns-then-has_content g c =
    let named : c.name-name.result ≡ (content_at g.listed c.args.place).name = c.name-name.ensures g.listed c.requires.1.1.1.0 in
    nothing_put g.met.D.TreeDisk.laws c.args.committed.now (content_at g.listed c.args.place) c.args.disk.now
    (rw named at (sym c.has_content.ensures ∙ c.if-has_content.true))

pub returns-in_err-read : goal.returns-in_err-read
returns-in_err-read g c =
    read_stopped g.met.D.TreeDisk.laws _ (c.in_err-read.ensures.tests (staged repository_base) g.listed c.requires.1.1.1.0 c.requires.1.1.1.1.0) c.in_err-read.ensures.stops c.from_residual.ensures.1

pub put_content-requires-clause-hash : goal.put_content-requires-clause-hash
put_content-requires-clause-hash g c tells =
    let content = content_at g.listed c.args.place in
    let named : c.name-name.result ≡ content.name = c.name-name.ensures g.listed c.requires.1.1.1.0 in
    let tests = c.in_ok-read.ensures.tests (staged repository_base) g.listed c.requires.1.1.1.0 c.requires.1.1.1.1.0 in
    let bytes : content.bytes ≡ c.bytes.result.now = let both = tests.found tells in cc (both, c.bytes.ensures) in
    named ∙ c.requires.1.1.1.1.1.0 tells ∙ ap sha1 bytes

pub put_content-requires-clause-stands : goal.put_content-requires-clause-stands
put_content-requires-clause-stands g c tells =
    let tests = c.in_ok-read.ensures.tests (staged repository_base) g.listed c.requires.1.1.1.0 c.requires.1.1.1.1.0 in
    subst (λ (t : Tree). IsTrue (is_dir_at t contents_dir)) (sym (tests.same tells).same.reads) (c.requires.1.1.1.1.1.1.1 tells)

pub returns : goal.returns
returns g c =
    let content = content_at g.listed c.args.place in
    let named : c.name-name.result ≡ content.name = c.name-name.ensures g.listed c.requires.1.1.1.0 in
    let tests = c.in_ok-read.ensures.tests (staged repository_base) g.listed c.requires.1.1.1.0 c.requires.1.1.1.1.0 in
    let bytes : IsTrue g.D.TreeDisk.disk.tells → content.bytes ≡ c.bytes.result.now = λ tells. let both = tests.found tells in cc (both, c.bytes.ensures) in
    prepares_read g.met.D.TreeDisk.laws tests.later tests.same
    (prepares_weaker (λ q within. record { unnamed = rw named at (sym c.has_content.ensures ∙ c.if-has_content.false); within = within }) (λ tree stands. stands) (rw named at c.put_content.ensures))
    (λ tells tree stands unnamed. stands ∙ ap Some (sym (bytes tells)))
