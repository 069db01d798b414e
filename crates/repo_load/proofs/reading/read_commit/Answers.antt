use Rattle.std.proofs.Common.{◌≡◌, List, ℕ, Some, Err, sym, ◌∙◌, ap, subst}
use Rattle.std.proofs.lemmas.Option.{none-some}
use Rattle.std.specs.FinMap.{get}
use Rattle.repo_index.proofs.cny-base.OptionValues.{same_path as some_bytes}
use Rattle.journal_log.specs.tree-disk.Tree.{Name}
use Rattle.content_store.specs.Store.{file_bytes}
use Rattle.journal_log.proofs.tree-disk.StepLaws.{tests_value}
use Rattle.repo_load.specs.Files.{commit_file, IsCommitStream}
use Rattle.repo_load.specs.Seen.{seen_as}
use Rattle.repo_load.proofs.Seeing.{other_lacks, seen_file, seen_nothing}
use Rattle.repo_load.proofs.reading.read_commit.Goals as goal

pub returns-in-Nothing-clause-looks : goal.returns-in-Nothing-clause-looks
returns-in-Nothing-clause-looks g c =
    let x = g.D.TreeDisk.disk.reads c.args.disk.now in
    let tested = c.in_ok-seen.ensures.tests in record {
      later = tested.later;
      same = tested.same;
      ends = λ tells. seen_nothing (get x (commit_file c.args.number)) (sym c.in-Nothing.is ∙ tests_value tested tells ∙ ap (λ (n : Name). seen_as (get x n)) c.in_ok-path.ensures);
    }

pub returns-in-Other-clause-looks : goal.returns-in-Other-clause-looks
returns-in-Other-clause-looks g c =
    let x = g.D.TreeDisk.disk.reads c.args.disk.now in
    let tested = c.in_ok-seen.ensures.tests in record {
      later = tested.later;
      same = tested.same;
      ends = λ tells. other_lacks x c.args.number c.in_ok-path.path c.in_ok-path.ensures (sym c.in-Other.is ∙ tests_value tested tells ∙ ap (λ (n : Name). seen_as (get x n)) c.in_ok-path.ensures);
    }

pub returns-in-Ok-clause-looks : goal.returns-in-Ok-clause-looks
returns-in-Ok-clause-looks g c =
    let x = g.D.TreeDisk.disk.reads c.args.disk.now in
    let tested = c.in_ok-seen.ensures.tests in record {
      later = tested.later;
      same = tested.same;
      ends = λ tells. record {
        bytes = c.get.result.now;
        file = seen_file (get x (commit_file c.args.number)) c.in-File.bytes (sym c.in-File.is ∙ tests_value tested tells ∙ ap (λ (n : Name). seen_as (get x n)) c.in_ok-path.ensures)
            ∙ ap (λ (l : List ℕ). Some l) (sym c.get.ensures);
        stream = c.in-Ok.ensures.value;
      };
    }

pub returns-in-Err-Bad-clause-looks : goal.returns-in-Err-Bad-clause-looks
returns-in-Err-Bad-clause-looks g c =
    let x = g.D.TreeDisk.disk.reads c.args.disk.now in
    let tested = c.in_ok-seen.ensures.tests in record {
      later = tested.later;
      same = tested.same;
      ends = λ tells. (
          let file : file_bytes (get x (commit_file c.args.number)) ≡ Some c.get.result.now =
          seen_file (get x (commit_file c.args.number)) c.in-File.bytes (sym c.in-File.is ∙ tests_value tested tells ∙ ap (λ (n : Name). seen_as (get x n)) c.in_ok-path.ensures)
          ∙ ap (λ (l : List ℕ). Some l) (sym c.get.ensures) in record {
            here = c.in_ok-path.ensures;
            stands = λ nothing. none-some c.get.result.now (sym (ap file_bytes nothing) ∙ ap (λ (n : Name). file_bytes (get x n)) c.in_ok-path.ensures ∙ file);
            none = λ troves holds. c.in-Err-Bad.ensures.bad (ap Err c.in-Err-Bad.field-0-is) troves
                (subst (IsCommitStream troves) (some_bytes holds.bytes c.get.result.now (sym holds.file ∙ file)) holds.stream);
          });
    }
