use Rattle.std.proofs.Common.{◌++◌, option_copied}
use Rattle.trove_spec.specs.Spec.{behind_equals}
use Rattle.trove_spec.proofs.SpecTexts.{before_lacks, meant_parts}
use Rattle.trove_spec.proofs.spec.Spec.read.Goals as goal

pub returns-in_default-clause-only : goal.returns-in_default-clause-only
returns-in_default-clause-only c meant is =
    c.in_default.ensures.none (meant.name ++ behind_equals is.place) is.flavor (record { front = before_lacks c.args.text.now meant is; whole = is.text_is })

pub returns-clause-only : goal.returns-clause-only
returns-clause-only c meant is =
    c.spec_of.ensures.only meant
    (meant_parts c.args.text.now c.in-Some.front.now c.cut_at_equals.result.0.now (option_copied c.cut_at_equals.result.1) (option_copied c.in-Some.flavor) meant c.in-Some.ensures.some c.cut_at_equals.ensures is)
