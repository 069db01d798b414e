use Rattle.std.proofs.Common.{ap, sym, ◌∙◌, arith}
use Rattle.std.proofs.lemmas.List.{take_rest}
use Rattle.change_set.specs.FirstFault.{is_oversized}
use Rattle.change_set.proofs.Faults.{none_fault}
use Rattle.change_set.proofs.items.next_of.Goals as goal
use Rattle.trove_stream.specs.cny-base.declared.refusal.Refusal.TheVariants.{Malformed}

pub returns-in-Err-clause-refused : goal.returns-in-Err-clause-refused
returns-in-Err-clause-refused c =
    let bytes = c.args.bytes.now in
    let at = c.args.at in
    let small = ap is_oversized (sym (take_rest bytes at)) ∙ c.in_default.ensures in
    ap Malformed c.in-Err.ensures.place
    ∙ sym (none_fault bytes c.args.tags.now at c.requires.within (λ i. omega (arith, c.type_inv.bytes i)) small (λ tag value more expected fits spelled. c.in-Err.ensures.only tag value more expected fits spelled))
