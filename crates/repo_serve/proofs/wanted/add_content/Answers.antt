use Rattle.std.proofs.Common.{◌≡◌, ◌∙◌, sym, ap, Some}
use Rattle.repo_load.specs.cny-stream.Record.{has_name_and_size}
use Rattle.repo_serve.proofs.Wanting.{sized_more, two_sizes}
use Rattle.repo_serve.proofs.wanted.add_content.Goals as goal

pub returns-in_default-2 : goal.returns-in_default-2
returns-in_default-2 c = λ before file are same.
    sized_more before file c.in-File.name c.in-File.size (λ name size. ap (has_name_and_size name size) (same ∙ c.in-File.is)) c.args.sizes.now c.insert.new.self are c.in_ok-before.ensures.updates
    (λ size stood. absurd (cc (sym c.in_default-2.is ∙ c.in_ok-before.ensures.old ∙ stood)))

pub returns-then-before-size : goal.returns-then-before-size
returns-then-before-size c = λ before file are same.
    sized_more before file c.in-File.name c.in-File.size (λ name size. ap (has_name_and_size name size) (same ∙ c.in-File.is)) c.args.sizes.now c.insert.new.self are c.in_ok-before.ensures.updates
    (λ size stood.
    let one : Some size ≡ Some c.in-Some.before = sym stood ∙ sym c.in_ok-before.ensures.old ∙ c.in-Some.is in
    let number : size ≡ c.in-Some.before = cc one in
    number ∙ c.if-before-size.true)

pub returns : goal.returns
returns c = λ before file are same.
    two_sizes before file c.in-File.name c.in-File.size (λ name size. ap (has_name_and_size name size) (same ∙ c.in-File.is)) c.args.sizes.now c.insert.new.self are c.in-Some.before
    (sym c.in_ok-before.ensures.old ∙ c.in-Some.is) c.if-before-size.false
