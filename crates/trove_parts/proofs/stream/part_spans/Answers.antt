use Rattle.std.proofs.Common.{◌++◌, ◌∙◌}
use Rattle.cny_version.specs.cny-base.StrField.{str}
use Rattle.trove_parts.proofs.IdFields.{behind_str, three_and}
use Rattle.cny_version.proofs.cny-base.Faults.{if_none}
use Rattle.trove_parts.proofs.stream.part_spans.Goals as goal

pub returns-in_err-version-clause-none : goal.returns-in_err-version-clause-none
returns-in_err-version-clause-none c = if_none c.from_residual-in_err-version.result _
    (λ a b d rest a_fits b_fits d_fits is.
    let cells = is ∙ three_and a b d rest in
    let first = c.in_ok-name.ensures.only a (str b ++ (str d ++ rest)) a_fits cells in
    let behind = behind_str c.args.bytes.now c.args.at c.in_ok-name.name.to a (str b ++ (str d ++ rest)) cells first.1 in
    c.in_err-version.ensures.only b (str d ++ rest) b_fits behind)

pub returns-in_err-flavor-clause-none : goal.returns-in_err-flavor-clause-none
returns-in_err-flavor-clause-none c = if_none c.from_residual-in_err-flavor.result _
    (λ a b d rest a_fits b_fits d_fits is.
    let cells = is ∙ three_and a b d rest in
    let first = c.in_ok-name.ensures.only a (str b ++ (str d ++ rest)) a_fits cells in
    let behind = behind_str c.args.bytes.now c.args.at c.in_ok-name.name.to a (str b ++ (str d ++ rest)) cells first.1 in
    let second = c.in_ok-version.ensures.only b (str d ++ rest) b_fits behind in
    let last = behind_str c.args.bytes.now c.in_ok-name.name.to c.in_ok-version.version.to b (str d ++ rest) behind second.1 in
    c.in_err-flavor.ensures.only d rest d_fits last)
