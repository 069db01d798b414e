use Rattle.std.proofs.Common.{◌≡◌, ℕ, List, IsTrue, Option, Some, None, Ok, sym, ◌∙◌, ap, subst}
use Rattle.repo_load.specs.cny-base.declared.refusal.Refusal.TheVariants.{Collision}
use Rattle.repo_load.specs.cny-base.declared.stop.Stop.TheVariants.{Refused}
use Rattle.repo_load.specs.content-store.Difference.{first_difference}
use Rattle.repo_load.specs.journal-log.Own.{staged}
use Rattle.repo_load.specs.tree-disk.Tree.{Tree}
use Rattle.repo_load.specs.Files.{repository_base}
use Rattle.change_pull.specs.Incoming.{content_at}
use Rattle.repository.specs.Order.{source_stop}
use Rattle.repository.proofs.Compared.{both_read, disk_stop, look_stopped, read_ends}
use Rattle.repository.proofs.Held.{collides_at}
use Rattle.repository.proofs.Ordering.{as_stop, collided_source, none_held, none_source, read_stop}
use Rattle.repository.proofs.colliding.check_content.Goals as goal

pub returns-in_err-kept-clause-checks : goal.returns-in_err-kept-clause-checks
returns-in_err-kept-clause-checks g c =
    let named : c.name-name.result ≡ (content_at g.listed c.args.place).name = c.name-name.ensures g.listed c.requires.1.1.1.0 in
    look_stopped _ (rw named at c.in_err-kept.ensures.finds) c.from_residual.ensures.1

pub returns-in_err-kept-clause-first : goal.returns-in_err-kept-clause-first
returns-in_err-kept-clause-first g c tells =
    let named : c.name-name.result ≡ (content_at g.listed c.args.place).name = c.name-name.ensures g.listed c.requires.1.1.1.0 in
    let stop = source_stop c.args.committed.now.troves (g.D.TreeDisk.disk.reads c.args.disk.now) (content_at g.listed c.args.place) in
    as_stop stop stop _ c.from_residual.result (λ s is. is) c.from_residual.ensures.1 (read_stop c.args.committed.now.troves (content_at g.listed c.args.place) _ tells (rw named at c.in_err-kept.ensures.finds))

pub returns-in_default-clause-checks : goal.returns-in_default-clause-checks
returns-in_default-clause-checks g c =
    let named : c.name-name.result ≡ (content_at g.listed c.args.place).name = c.name-name.ensures g.listed c.requires.1.1.1.0 in
    let finds = rw named at c.in_ok-kept.ensures.finds in record {
      later = finds.later;
      same = finds.same;
      ends = λ tells. none_held c.args.committed.now.troves (g.D.TreeDisk.disk.reads c.args.disk.now) (content_at g.listed c.args.place) _ c.in_default.not-Some (finds.ends tells);
    }

pub returns-in_default-clause-first : goal.returns-in_default-clause-first
returns-in_default-clause-first g c tells =
    let named : c.name-name.result ≡ (content_at g.listed c.args.place).name = c.name-name.ensures g.listed c.requires.1.1.1.0 in
    none_source c.args.committed.now.troves (g.D.TreeDisk.disk.reads c.args.disk.now) (content_at g.listed c.args.place) _ c.in_default.not-Some ((rw named at c.in_ok-kept.ensures.finds).ends tells)

pub read-requires : goal.read-requires
read-requires g c = c.requires.1.1.0

pub returns-in_err-read-clause-checks : goal.returns-in_err-read-clause-checks
returns-in_err-read-clause-checks g c =
    let finds = c.in_ok-kept.ensures.finds in
    let stand : IsTrue g.D.TreeDisk.disk.tells → g.I.Incoming.stand c.args.contents.now (staged repository_base) g.listed (g.D.TreeDisk.disk.reads c.content.new.disk) =
    λ tells. subst (λ (t : Tree). g.I.Incoming.stand c.args.contents.now (staged repository_base) g.listed t) (sym (finds.same tells).same.reads) (c.requires.1.1.1.1 tells) in
    let tests = c.in_err-read.ensures.tests (staged repository_base) g.listed c.requires.1.1.1.0 stand in
    both_read g.met.D.TreeDisk.laws finds.later finds.same tests (read_ends {X = Option (List ℕ)} (g.I.Incoming.held c.args.contents.now c.args.place) g.D.TreeDisk.disk.tells (Ok (content_at g.listed c.args.place).bytes) _ _ _ c.from_residual-in_err-read.result _ _ _ c.from_residual-in_err-read.ensures.1 c.in_err-read.ensures.stops finds.later tests.found)

pub returns-in_err-read-clause-first : goal.returns-in_err-read-clause-first
returns-in_err-read-clause-first g c tells = disk_stop _ _ c.from_residual-in_err-read.result c.from_residual-in_err-read.ensures.1 c.in_err-read.ensures.stops

pub returns-clause-checks : goal.returns-clause-checks
returns-clause-checks g c =
    let carried = content_at g.listed c.args.place in
    let named : c.name-name.result ≡ carried.name = c.name-name.ensures g.listed c.requires.1.1.1.0 in
    let finds = c.in_ok-kept.ensures.finds in
    let stand : IsTrue g.D.TreeDisk.disk.tells → g.I.Incoming.stand c.args.contents.now (staged repository_base) g.listed (g.D.TreeDisk.disk.reads c.content.new.disk) =
    λ tells. subst (λ (t : Tree). g.I.Incoming.stand c.args.contents.now (staged repository_base) g.listed t) (sym (finds.same tells).same.reads) (c.requires.1.1.1.1 tells) in
    let tests = c.in_ok-read.ensures.tests (staged repository_base) g.listed c.requires.1.1.1.0 stand in
    let bytes : IsTrue g.D.TreeDisk.disk.tells → carried.bytes ≡ c.bytes.result.now = λ tells. let both = tests.found tells in cc (both, c.bytes.ensures) in
    both_read g.met.D.TreeDisk.laws finds.later finds.same tests (λ tells.
    collides_at c.args.committed.now.troves (g.D.TreeDisk.disk.reads c.args.disk.now) carried c.in-Some.kept c.in-Some-first_difference.at
    (rw c.in-Some.is at ((rw named at finds).ends tells))
    ((λ i. first_difference (sym c.get.ensures i) (bytes tells i)) ∙ sym c.difference.ensures.value ∙ c.in-Some-first_difference.is)
    ∙ (λ i. Some (Collision (sym named i) c.in-Some-first_difference.at)))

pub returns-clause-first : goal.returns-clause-first
returns-clause-first g c tells =
    let carried = content_at g.listed c.args.place in
    let named : c.name-name.result ≡ carried.name = c.name-name.ensures g.listed c.requires.1.1.1.0 in
    let finds = c.in_ok-kept.ensures.finds in
    let stand : IsTrue g.D.TreeDisk.disk.tells → g.I.Incoming.stand c.args.contents.now (staged repository_base) g.listed (g.D.TreeDisk.disk.reads c.content.new.disk) =
    λ tells. subst (λ (t : Tree). g.I.Incoming.stand c.args.contents.now (staged repository_base) g.listed t) (sym (finds.same tells).same.reads) (c.requires.1.1.1.1 tells) in
    let tests = c.in_ok-read.ensures.tests (staged repository_base) g.listed c.requires.1.1.1.0 stand in
    let bytes : carried.bytes ≡ c.bytes.result.now = let both = tests.found tells in cc (both, c.bytes.ensures) in
    collided_source c.args.committed.now.troves (g.D.TreeDisk.disk.reads c.args.disk.now) carried c.in-Some.kept c.in-Some-first_difference.at
    (rw c.in-Some.is at ((rw named at finds).ends tells))
    ((λ i. first_difference (sym c.get.ensures i) (bytes i)) ∙ sym c.difference.ensures.value ∙ c.in-Some-first_difference.is)
    ∙ (λ i. Some (Refused (Collision (sym named i) c.in-Some-first_difference.at)))
