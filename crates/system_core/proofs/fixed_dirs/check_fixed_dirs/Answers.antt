use Rattle.std.proofs.Common.{refl, codes}
use Rattle.rollback_stack.proofs.tree-disk.StepLaws.{tests_then}
use Rattle.system_core.specs.FixedDirs.{test_dir, fixed_dirs}
use Rattle.system_core.proofs.FixedPaths.{lib_text, var_text}
use Rattle.system_core.proofs.fixed_dirs.check_fixed_dirs.Goals as goal

pub check_dir-requires-2 : goal.check_dir-requires-2
check_dir-requires-2 g c = rw var_text refl

pub check_dir-requires-3 : goal.check_dir-requires-3
check_dir-requires-3 g c = rw (var_text, lib_text) refl

pub returns-clause-tests : goal.returns-clause-tests
returns-clause-tests g c =
    let laws = g.met.T.TreeDisk.laws in
    let first = c.in_ok-check_dir.ensures.tests in
    let second = tests_then laws {goal = λ tree. test_dir tree (codes "/var")} first c.in_ok-check_dir-2.ensures.tests (λ told. refl) in
    tests_then laws {goal = fixed_dirs} second c.check_dir-3.ensures.tests (λ told. rw (first.found told, second.found told) refl)
