-- What becomes of the first element of an old list, beside keys that are gone and elements that are set.
use Rattle.std.specs.Prelude.{◌≡◌, List, ◌∷◌, All}
use Rattle.std.specs.declared.cmp.Ordering.{Ordering}
use Rattle.std.specs.declared.cmp.Ordering.TheVariants.{Less}
use Rattle.change_rel.specs.declared.amending.Fate.{Fate}
use Rattle.change_rel.specs.declared.amending.Fate.TheVariants.{Kept, Gone, Replaced, Behind, Unfit}
use Rattle.trove_stream.specs.Amends.{Fits, IsBelow}

-- beside the keys alone, whatever is set
abbrev pub IsFateByKeys : {A K : Type 0} → (A → K) → (K → K → Ordering) → A → List K → Fate → Type 0
IsFateByKeys key order x gone Kept = All (λ g. order (key x) g ≡ Less) gone
IsFateByKeys {A} {K} key order x gone Gone = (rest : List K) × (gone ≡ key x ∷ rest)
IsFateByKeys key order x gone Replaced = ⊥
IsFateByKeys key order x gone Behind = ⊥
IsFateByKeys {A} {K} key order x gone Unfit = (set old : List A) → IsBelow key order (key x) old → Fits key gone set (x ∷ old) → ⊥

abbrev pub IsFate : {A K : Type 0} → (A → K) → (K → K → Ordering) → A → List K → List A → Fate → Type 0
IsFate key order x gone set Kept = All (λ g. order (key x) g ≡ Less) gone × IsBelow key order (key x) set
IsFate {A} {K} key order x gone set Gone = ((rest : List K) × (gone ≡ key x ∷ rest)) × IsBelow key order (key x) set
IsFate {A} {K} key order x gone set Replaced = (y : A) × (rest : List A) × (set ≡ y ∷ rest) × (key x ≡ key y) × (x ≡ y → ⊥)
IsFate {A} {K} key order x gone set Behind = (y : A) × (rest : List A) × (set ≡ y ∷ rest) × (order (key y) (key x) ≡ Less)
IsFate {A} {K} key order x gone set Unfit = (old : List A) → IsBelow key order (key x) old → Fits key gone set (x ∷ old) → ⊥
