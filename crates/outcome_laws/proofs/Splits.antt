-- Two ways to take one list apart at an element.
use Rattle.std.proofs.Common.{◌≡◌, List, [], ◌∷◌, ◌++◌, refl, sym, ap}

-- at one place, or at two of which the one comes first
pub data Cuts {A : Type 0} (front other : List A) (x y : A) (rest behind : List A) : Type 0 where
  same : front ≡ other → x ≡ y → rest ≡ behind → Cuts front other x y rest behind
  earlier : (more : List A) → other ≡ front ++ x ∷ more → rest ≡ more ++ y ∷ behind → Cuts front other x y rest behind
  later : (more : List A) → front ≡ other ++ y ∷ more → behind ≡ more ++ x ∷ rest → Cuts front other x y rest behind

pub cuts : {A : Type 0} (front other : List A) (x y : A) (rest behind : List A) → front ++ x ∷ rest ≡ other ++ y ∷ behind → Cuts front other x y rest behind
cuts [] [] x y rest behind is = same refl (cc is) (cc is)
cuts {A} [] (z ∷ other) x y rest behind is = earlier other (let first : x ≡ z = cc is in ap (λ (v : A). v ∷ other) (sym first)) (cc is)
cuts {A} (z ∷ front) [] x y rest behind is = later front (let first : z ≡ y = cc is in ap (λ (v : A). v ∷ front) first) (let more : front ++ x ∷ rest ≡ behind = cc is in sym more)
cuts {A} (z ∷ front) (w ∷ other) x y rest behind is = by (cuts front other x y rest behind (cc is))
  where
    first : z ≡ w
    first = cc is

    by : Cuts front other x y rest behind → Cuts (z ∷ front) (w ∷ other) x y rest behind
    by (same fronts ones rests) = same (λ i. first i ∷ fronts i) ones rests
    by (earlier l at rests) = earlier l (λ i. sym first i ∷ at i) rests
    by (later l at rests) = later l (λ i. first i ∷ at i) rests
