-- When flavors are equal.
use Rattle.std.specs.Prelude.{Bool}
use Rattle.std.specs.Cmp.{IsEquivalence}
use Rattle.std.specs.Cmp.Lexicographic.{nat_list_eq_equiv}
use Rattle.std.specs.Str.{bytes_eq}
use Rattle.std.proofs.lemmas.Cmp.{on_equiv}
use Rattle.cny_dep.specs.declared.parts.Parts.{Parts}
use Rattle.cny_dep.specs.Canonical.{flavor_text}

-- whether the canonical texts are equal
abbrev pub same_text : Parts → Parts → Bool
same_text a b = bytes_eq (flavor_text a) (flavor_text b)

pub same_text_equiv : IsEquivalence same_text
same_text_equiv = on_equiv flavor_text nat_list_eq_equiv
