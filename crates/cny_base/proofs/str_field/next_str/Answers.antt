use Rattle.std.proofs.Common.{arith, sym, ap, ◌∙◌}
use Rattle.std.proofs.lemmas.List.{take_rest}
use Rattle.cny_base.specs.StrField.{str_len}
use Rattle.cny_base.proofs.StrFields.{found_str}
use Rattle.cny_base.proofs.str_field.next_str.Goals as goal

-- src/str_field.rt:48:1
pub returns-clause-found : goal.returns-clause-found
returns-clause-found c = found_str c.args.bytes.now c.args.at c.in_ok-len.len (λ i. omega (arith, c.type_inv.bytes i)) c.requires (ap str_len (sym (take_rest c.args.bytes.now c.args.at)) ∙ sym c.in_ok-len.ensures)
