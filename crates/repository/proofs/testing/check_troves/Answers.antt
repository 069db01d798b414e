use Rattle.std.proofs.Common.{◌≡◌, ◌++◌, List, refl, sym, ◌∙◌, ap, subst}
use Rattle.change_set.specs.declared.change.Carried.{Carried}
use Rattle.repository.specs.Outcome.{committed_contents, AreSound}
use Rattle.repository.specs.Order.{later_stop, refusing, sources_stop}
use Rattle.repo_load.specs.tree-disk.Tree.{Tree}
use Rattle.repository.specs.Tests.{collision, later_refusal, missing_content, missing_ref, refs_of, too_many}
use Rattle.repository.proofs.Checking.{checks_fault, checks_start, checks_stop, later_is}
use Rattle.repository.proofs.Lists.{then_first, then_second}
use Rattle.repository.proofs.Ordering.{as_stop, fault_stop, later_stop_is}
use Rattle.change_rel.specs.trove-stream.FilesOf.{files_of}
use Rattle.repository.proofs.testing.check_troves.Goals as goal

pub returns-in_err-check_refs-clause-checks : goal.returns-in_err-check_refs-clause-checks
returns-in_err-check_refs-clause-checks g c =
    let k = c.args.committed.now in
    let troves = c.args.added.now.troves in
    let contents = g.listed in
    let refs = missing_ref (k.troves ++ troves) (refs_of troves) in
    checks_fault g.met.D.TreeDisk.laws {o = refs} _ (checks_start g.met.D.TreeDisk.laws c.args.disk.now) (λ tells. c.in_err-check_refs.ensures) c.from_residual.ensures.1
    (λ tells refusal is. later_is k (committed_contents k.troves (g.D.TreeDisk.disk.reads c.args.disk.now)) contents troves c.requires.1.1.0 ∙ then_first refs _ refusal is)

pub returns-in_err-check_refs-clause-first : goal.returns-in_err-check_refs-clause-first
returns-in_err-check_refs-clause-first g c tells =
    let k = c.args.committed.now in
    let troves = c.args.added.now.troves in
    let contents = g.listed in
    let x = g.D.TreeDisk.disk.reads c.args.disk.now in
    let refs = missing_ref (k.troves ++ troves) (refs_of troves) in
    fault_stop refs (later_stop k x contents troves) _ c.from_residual.result
    (λ s is. later_stop_is k x contents troves c.requires.1.1.0 ∙ then_first (refusing refs) _ s is)
    c.from_residual.ensures.1 c.in_err-check_refs.ensures

pub returns-in_err-check_contents-clause-first : goal.returns-in_err-check_contents-clause-first
returns-in_err-check_contents-clause-first g c tells =
    let k = c.args.committed.now in
    let troves = c.args.added.now.troves in
    let contents = g.listed in
    let x = g.D.TreeDisk.disk.reads c.args.disk.now in
    let sources = missing_content k.troves contents (files_of troves) in
    let same : missing_content k.troves contents (files_of c.troves.result.now) ≡ sources = λ i. missing_content k.troves contents (files_of (c.troves.ensures.value i)) in
    fault_stop (missing_content k.troves contents (files_of c.troves.result.now)) (later_stop k x contents troves) _ c.from_residual-in_err-check_contents.result
    (λ s is. later_stop_is k x contents troves c.requires.1.1.0 ∙ then_second (refusing (missing_ref (k.troves ++ troves) (refs_of troves))) _ (ap refusing c.in_ok-check_refs.ensures)
    ∙ then_first (refusing sources) _ s (ap refusing (sym same) ∙ is))
    c.from_residual-in_err-check_contents.ensures.1 (c.in_err-check_contents.ensures contents x (c.requires.1.1.1.1.1 tells) (c.requires.1.1.1.1.0 tells))

pub returns-in_err-check_collisions-clause-first : goal.returns-in_err-check_collisions-clause-first
returns-in_err-check_collisions-clause-first g c tells =
    let k = c.args.committed.now in
    let troves = c.args.added.now.troves in
    let contents = g.listed in
    let x = g.D.TreeDisk.disk.reads c.args.disk.now in
    let sources = missing_content k.troves contents (files_of troves) in
    let same : missing_content k.troves contents (files_of c.troves.result.now) ≡ sources = λ i. missing_content k.troves contents (files_of (c.troves.ensures.value i)) in
    as_stop (sources_stop k.troves x contents) (later_stop k x contents troves) _ c.from_residual-in_err-check_collisions.result
    (λ s is. later_stop_is k x contents troves c.requires.1.1.0 ∙ then_second (refusing (missing_ref (k.troves ++ troves) (refs_of troves))) _ (ap refusing c.in_ok-check_refs.ensures)
    ∙ then_second (refusing sources) _ (ap refusing (sym same ∙ c.in_ok-check_contents.ensures contents x (c.requires.1.1.1.1.1 tells) (c.requires.1.1.1.1.0 tells)))
    ∙ then_first (sources_stop k.troves x contents) _ s is)
    c.from_residual-in_err-check_collisions.ensures.1 (c.in_err-check_collisions.ensures.first tells)

pub returns-in_err-check_count-clause-first : goal.returns-in_err-check_count-clause-first
returns-in_err-check_count-clause-first g c tells =
    let k = c.args.committed.now in
    let troves = c.args.added.now.troves in
    let contents = g.listed in
    let x = g.D.TreeDisk.disk.reads c.args.disk.now in
    let sources = missing_content k.troves contents (files_of troves) in
    let same : missing_content k.troves contents (files_of c.troves.result.now) ≡ sources = λ i. missing_content k.troves contents (files_of (c.troves.ensures.value i)) in
    fault_stop (too_many k.commits) (later_stop k x contents troves) _ c.from_residual-in_err-check_count.result
    (λ s is. later_stop_is k x contents troves c.requires.1.1.0 ∙ then_second (refusing (missing_ref (k.troves ++ troves) (refs_of troves))) _ (ap refusing c.in_ok-check_refs.ensures)
    ∙ then_second (refusing sources) _ (ap refusing (sym same ∙ c.in_ok-check_contents.ensures contents x (c.requires.1.1.1.1.1 tells) (c.requires.1.1.1.1.0 tells)))
    ∙ then_second (sources_stop k.troves x contents) _ (c.in_ok-check_collisions.ensures.first tells) ∙ is)
    c.from_residual-in_err-check_count.ensures.1 c.in_err-check_count.ensures

pub returns-clause-first : goal.returns-clause-first
returns-clause-first g c tells =
    let k = c.args.committed.now in
    let troves = c.args.added.now.troves in
    let contents = g.listed in
    let x = g.D.TreeDisk.disk.reads c.args.disk.now in
    let sources = missing_content k.troves contents (files_of troves) in
    let same : missing_content k.troves contents (files_of c.troves.result.now) ≡ sources = λ i. missing_content k.troves contents (files_of (c.troves.ensures.value i)) in
    later_stop_is k x contents troves c.requires.1.1.0 ∙ then_second (refusing (missing_ref (k.troves ++ troves) (refs_of troves))) _ (ap refusing c.in_ok-check_refs.ensures)
    ∙ then_second (refusing sources) _ (ap refusing (sym same ∙ c.in_ok-check_contents.ensures contents x (c.requires.1.1.1.1.1 tells) (c.requires.1.1.1.1.0 tells)))
    ∙ then_second (sources_stop k.troves x contents) _ (c.in_ok-check_collisions.ensures.first tells)
    ∙ ap refusing c.in_ok-check_count.ensures

pub returns-in_err-check_contents-clause-checks : goal.returns-in_err-check_contents-clause-checks
returns-in_err-check_contents-clause-checks g c =
    let k = c.args.committed.now in
    let troves = c.args.added.now.troves in
    let contents = g.listed in
    let x = g.D.TreeDisk.disk.reads c.args.disk.now in
    let refs = missing_ref (k.troves ++ troves) (refs_of troves) in
    let sources = missing_content k.troves contents (files_of troves) in
    let same : missing_content k.troves contents (files_of c.troves.result.now) ≡ sources = λ i. missing_content k.troves contents (files_of (c.troves.ensures.value i)) in
    checks_fault g.met.D.TreeDisk.laws {o = missing_content k.troves contents (files_of c.troves.result.now)} _ (checks_start g.met.D.TreeDisk.laws c.args.disk.now)
    (λ tells. c.in_err-check_contents.ensures contents x (c.requires.1.1.1.1.1 tells) (c.requires.1.1.1.1.0 tells)) c.from_residual-in_err-check_contents.ensures.1
    (λ tells refusal is. later_is k (committed_contents k.troves x) contents troves c.requires.1.1.0 ∙ then_second refs _ c.in_ok-check_refs.ensures ∙ then_first sources _ refusal (sym same ∙ is))

pub returns-in_err-check_collisions-clause-checks : goal.returns-in_err-check_collisions-clause-checks
returns-in_err-check_collisions-clause-checks g c =
    let k = c.args.committed.now in
    let troves = c.args.added.now.troves in
    let contents = g.listed in
    let x = g.D.TreeDisk.disk.reads c.args.disk.now in
    let held = committed_contents k.troves x in
    let refs = missing_ref (k.troves ++ troves) (refs_of troves) in
    let sources = missing_content k.troves contents (files_of troves) in
    let same : missing_content k.troves contents (files_of c.troves.result.now) ≡ sources = λ i. missing_content k.troves contents (files_of (c.troves.ensures.value i)) in
    checks_stop g.met.D.TreeDisk.laws {test = λ (tree : Tree). collision (committed_contents k.troves tree) contents} {goal = λ (tree : Tree). later_refusal k (committed_contents k.troves tree) contents troves}
    (checks_start g.met.D.TreeDisk.laws c.args.disk.now) c.in_err-check_collisions.ensures.checks c.from_residual-in_err-check_collisions.ensures.1
    (λ tells refusal is. later_is k held contents troves c.requires.1.1.0 ∙ then_second refs _ c.in_ok-check_refs.ensures
    ∙ then_second sources _ (sym same ∙ c.in_ok-check_contents.ensures contents x (c.requires.1.1.1.1.1 tells) (c.requires.1.1.1.1.0 tells)) ∙ then_first (collision held contents) _ refusal is)
    (λ tells path damage. damage)

pub returns-in_err-check_count-clause-checks : goal.returns-in_err-check_count-clause-checks
returns-in_err-check_count-clause-checks g c =
    let k = c.args.committed.now in
    let troves = c.args.added.now.troves in
    let contents = g.listed in
    let x = g.D.TreeDisk.disk.reads c.args.disk.now in
    let held = committed_contents k.troves x in
    let refs = missing_ref (k.troves ++ troves) (refs_of troves) in
    let sources = missing_content k.troves contents (files_of troves) in
    let same : missing_content k.troves contents (files_of c.troves.result.now) ≡ sources = λ i. missing_content k.troves contents (files_of (c.troves.ensures.value i)) in
    let checks = c.in_ok-check_collisions.ensures.checks in
    checks_fault g.met.D.TreeDisk.laws {o = too_many k.commits} _ (record { later = checks.later; same = checks.same; ends = λ tells. refl })
    (λ tells. c.in_err-check_count.ensures) c.from_residual-in_err-check_count.ensures.1
    (λ tells refusal is. later_is k held contents troves c.requires.1.1.0 ∙ then_second refs _ c.in_ok-check_refs.ensures
    ∙ then_second sources _ (sym same ∙ c.in_ok-check_contents.ensures contents x (c.requires.1.1.1.1.1 tells) (c.requires.1.1.1.1.0 tells)) ∙ then_second (collision held contents) _ (checks.ends tells) ∙ is)

pub returns-clause-checks : goal.returns-clause-checks
returns-clause-checks g c =
    let k = c.args.committed.now in
    let troves = c.args.added.now.troves in
    let contents = g.listed in
    let x = g.D.TreeDisk.disk.reads c.args.disk.now in
    let held = committed_contents k.troves x in
    let refs = missing_ref (k.troves ++ troves) (refs_of troves) in
    let sources = missing_content k.troves contents (files_of troves) in
    let same : missing_content k.troves contents (files_of c.troves.result.now) ≡ sources = λ i. missing_content k.troves contents (files_of (c.troves.ensures.value i)) in
    let checks = c.in_ok-check_collisions.ensures.checks in record {
      later = checks.later;
      same = checks.same;
      ends = λ tells. later_is k held contents troves c.requires.1.1.0 ∙ then_second refs _ c.in_ok-check_refs.ensures
          ∙ then_second sources _ (sym same ∙ c.in_ok-check_contents.ensures contents x (c.requires.1.1.1.1.1 tells) (c.requires.1.1.1.1.0 tells)) ∙ then_second (collision held contents) _ (checks.ends tells) ∙ c.in_ok-check_count.ensures;
    }

pub check_collisions-requires : goal.check_collisions-requires
check_collisions-requires g c = λ κs lives. (lives.0, (lives.1, (c.requires.1.1.1.0, c.requires.1.1.1.1.0)))
