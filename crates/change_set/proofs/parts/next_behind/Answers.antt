use Rattle.std.proofs.Common.{List, ℕ, IsTrue, length, drop, sym, ap, ◌∙◌, subst}
use Rattle.cny_stream.specs.Item.{is_expected}
use Rattle.change_set.specs.FirstFault.{fault_of}
use Rattle.change_set.proofs.Taking.{stops_behind, none_small}
use Rattle.change_set.proofs.parts.next_behind.Goals as goal

pub returns-in-Err-clause-refused : goal.returns-in-Err-clause-refused
returns-in-Err-clause-refused c =
    let bytes = c.args.bytes.now in
    let parts = c.args.parts.now in
    let at = c.args.at in
    let tags = c.tags_behind.ensures in
    let none = none_small parts (drop at bytes) (λ tag value more expected fits small spelled.
    c.in-Err.ensures.none tag value more (subst (λ (l : List ℕ). IsTrue (is_expected l tag)) (sym tags) expected) fits small spelled) in
    stops_behind bytes parts at c.in-Err.refusal c.requires none
    (c.in-Err.ensures.refused ∙ ap (λ (l : List ℕ). fault_of l (length bytes) (drop at bytes)) tags)
