-- Values that their order takes for equal.
use Rattle.std.proofs.Common.{◌≡◌, ℕ, List, IsTrue, sym, ap, ◌∙◌}
use Rattle.std.specs.Cmp.Lexicographic.{slice_cmp}
use Rattle.std.specs.Ordering.{nat_cmp, is_eq}
use Rattle.std.specs.declared.cmp.Ordering.TheVariants.{Equal}
use Rattle.std.proofs.lemmas.Map.Text.{is_eq-slice_cmp}
use Rattle.std.proofs.lemmas.Slice.Eq.{bytes_eq-Decides}
use Rattle.trove_parts.specs.declared.id.TroveId.{TroveId}
use Rattle.trove_parts.specs.Order.{id_eq, id_cmp, id_ties}

pub equal_lists : (a b : List ℕ) → slice_cmp nat_cmp a b ≡ Equal → a ≡ b
equal_lists a b is = (bytes_eq-Decides a b).0 (sym (is_eq-slice_cmp a b) ∙ ap is_eq is)

pub equal_ids : (a b : TroveId) → id_cmp a b ≡ Equal → IsTrue (id_eq a b)
equal_ids a b is = id_ties a b ∙ ap is_eq is
