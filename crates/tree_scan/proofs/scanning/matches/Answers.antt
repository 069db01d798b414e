use Rattle.std.proofs.Common.{◌∙◌, sym, ap, Ok}
use Rattle.tree_disk.proofs.StepLaws.{tests_answer, tests_value}
use Rattle.tree_scan.specs.Marks.{fingerprint_of_record, same_mark}
use Rattle.tree_scan.proofs.Seen.{mark_of_file}
use Rattle.tree_disk.proofs.Deciding.{tests_next}
use Rattle.tree_scan.proofs.scanning.matches.Goals as goal

pub returns-clause-tests : goal.returns-clause-tests
returns-clause-tests g c =
    let run = tests_next g.met.D.TreeDisk.laws c.in_ok-look.ensures.tests c.in_ok-name.ensures.tests in
    tests_answer run (λ tells.
    ap Ok (ap (λ m. same_mark m (fingerprint_of_record c.args.rec.now))
    (mark_of_file (g.D.TreeDisk.disk.reads c.args.disk.now) c.args.path.now c.in_ok-look.look c.in_ok-name.name c.in-Some.size (tests_value c.in_ok-look.ensures.tests tells) (sym c.size.ensures ∙ c.in-Some.is) (tests_value run tells)
    ∙ sym c.marked-2.ensures)
    ∙ sym c.is_of-2.ensures))
