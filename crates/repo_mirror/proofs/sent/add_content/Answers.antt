use Rattle.std.proofs.Common.{◌+◌, sym, ap, ◌∙◌, arith}
use Rattle.std.specs.List.{list_any}
use Rattle.std.proofs.lemmas.Bool.{cond-true, cond-false}
use Rattle.repo_index.specs.Catalogue.{is_content, is_file_of}
use Rattle.repo_mirror.specs.Lengths.{content_length}
use Rattle.repo_mirror.proofs.Lengthening.{named_more, not_missed, not_was}
use Rattle.repo_mirror.proofs.sent.add_content.Goals as goal

pub returns-then-branch-clause-length : goal.returns-then-branch-clause-length
returns-then-branch-clause-length c = λ before are.
    let absent = not_was _ _ c.if-branch.true c.in_ok-insert.ensures.added in
    let long = ap (content_length before) c.in-File.is ∙ cond-false (list_any (is_file_of c.in-File.name) before) 0 (25 + c.in-File.size) (sym (are c.in-File.name) ∙ absent) in
    omega (arith, long, c.from.ensures)

pub returns-then-branch-clause-names : goal.returns-then-branch-clause-names
returns-then-branch-clause-names c = λ before file are same.
    named_more before c.args.names.now c.insert.new.self c.in-File.name file are c.in_ok-insert.ensures.updates (λ name. ap (is_content name) (same ∙ c.in-File.is))

pub returns-clause-length : goal.returns-clause-length
returns-clause-length c = λ before are.
    let there = not_missed _ _ c.if-branch.false c.in_ok-insert.ensures.added in
    let long = ap (content_length before) c.in-File.is ∙ cond-true (list_any (is_file_of c.in-File.name) before) 0 (25 + c.in-File.size) (sym (are c.in-File.name) ∙ there) in
    omega (arith, long)

pub returns-clause-names : goal.returns-clause-names
returns-clause-names c = λ before file are same.
    named_more before c.args.names.now c.insert.new.self c.in-File.name file are c.in_ok-insert.ensures.updates (λ name. ap (is_content name) (same ∙ c.in-File.is))
