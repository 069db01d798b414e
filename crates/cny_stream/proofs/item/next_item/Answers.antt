use Rattle.std.proofs.Common.{ℕ, List, arith, sym, ap, ◌∙◌}
use Rattle.std.specs.Prelude.{slice_get}
use Rattle.std.specs.Option.{option_copied}
use Rattle.std.proofs.lemmas.List.{take_rest}
use Rattle.cny_stream.specs.Item.{value_len}
use Rattle.cny_stream.proofs.Items.{found_item}
use Rattle.cny_stream.proofs.item.next_item.Goals as goal

pub returns-clause-found : goal.returns-clause-found
returns-clause-found c =
    let bytes = c.args.bytes.now in
    let at = c.args.at in
    let rest = sym (take_rest bytes at) in
    found_item bytes at c.in-Some.tag.now c.in-Some-value_len.len (λ i. omega (arith, c.type_inv.bytes i)) c.requires
    (ap (λ (l : List ℕ). slice_get l 0) rest ∙ sym c.first.ensures.value ∙ ap option_copied c.in-Some.is)
    (ap value_len rest ∙ sym c.value_len.ensures ∙ c.in-Some-value_len.is)
