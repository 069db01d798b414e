-- Shared lemmas: again.
use Rattle.std.specs.Prelude.{Bool, false, not, refl, true, ◌≡◌}

pub not_true : (x : Bool) → not x ≡ true → x ≡ false
not_true true is = absurd (cc is)
not_true false is = refl
