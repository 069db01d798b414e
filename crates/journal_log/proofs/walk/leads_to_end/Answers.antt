use Rattle.std.proofs.Common.{◌≡◌, ℕ, ◌≤◌, ◌<◌, ◌+◌, Ok, Option, length, drop, length-drop, refl, sym, ap, subst, ◌∙◌, arith}
use Rattle.std.specs.Prelude.{IfSome}
use Rattle.tree_disk.specs.Rows.{bytes_at}
use Rattle.tree_disk.proofs.StepLaws.{tests_answer, tests_value}
use Rattle.tree_disk.proofs.Deciding.{tests_next}
use Rattle.journal_log.specs.Walk.{are_items}
use Rattle.journal_log.proofs.FileWalking.{all_skipped, item_lacks, item_leads}
use Rattle.journal_log.proofs.walk.leads_to_end.Goals as goal

pub returns-in_default-clause-tests : goal.returns-in_default-clause-tests
returns-in_default-clause-tests g c =
    let file = bytes_at (g.D.TreeDisk.disk.reads c.args.disk.now) c.args.path.now in
    let run = tests_next g.met.D.TreeDisk.laws c.items.invariant.so_far c.in_ok-len.ensures.tests in
    tests_answer run (λ tells. (
    let le : c.items.at ≤ length file = omega (arith, c.items.invariant.within, c.requires.size tells) in
    let some : 0 < length (drop c.items.at file) = omega (arith, length-drop c.items.at file, c.items-test.true, c.requires.size tells) in
    ap Ok (c.items.invariant.leads tells ∙ item_lacks c.args.tags.now c.items.at file le some (sym (tests_value run tells) ∙ c.in_default.is))))

pub items-preserved : goal.items-preserved
items-preserved g c =
    let file = bytes_at (g.D.TreeDisk.disk.reads c.args.disk.now) c.args.path.now in
    let run = tests_next g.met.D.TreeDisk.laws c.items.invariant.so_far c.in_ok-len.ensures.tests in
    let sized = subst (λ (o : Option ℕ). IfSome o (λ len. (5 ≤ len) × (c.items.at + len ≤ c.args.size))) c.in-Some.is c.in_ok-len.ensures.within in
    record {
      so_far = tests_answer run (λ tells. refl);
      leads = λ tells. (
          let le : c.items.at ≤ length file = omega (arith, c.items.invariant.within, c.requires.size tells) in
          c.items.invariant.leads tells ∙ item_leads c.args.tags.now c.items.at c.in-Some.len file le (sym (tests_value run tells) ∙ c.in-Some.is));
      within = sized.1;
    }

pub returns-clause-tests : goal.returns-clause-tests
returns-clause-tests g c =
    let file = bytes_at (g.D.TreeDisk.disk.reads c.args.disk.now) c.args.path.now in
    tests_answer c.items.invariant.so_far (λ tells. (
    let end : c.items.at ≡ length file = omega (arith, c.items-test.false, c.items.invariant.within, c.requires.size tells) in
    ap Ok (c.items.invariant.leads tells ∙ ap (λ (n : ℕ). are_items c.args.tags.now n file) end ∙ all_skipped c.args.tags.now file)))
