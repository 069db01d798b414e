-- Items one behind the other are those of one list.
use Rattle.std.proofs.Common.{◌≡◌, ℕ, List, [], ◌∷◌, ◌++◌, All, refl, sym, ◌∙◌, append_assoc, append-nil}
use Rattle.std.specs.List.{flat_map}
use Rattle.std.proofs.lemmas.List.Elements.{All-head, All-tail}

module _ {A : Type 0} (item : A → List ℕ) (IsValid : A → Type 0) (once : (x y : A) (r s : List ℕ) → IsValid x → IsValid y → item x ++ r ≡ item y ++ s → (x ≡ y) × (r ≡ s)) where
  -- the bytes begin with no item
  abbrev pub IsNoItem : List ℕ → Type 0
  IsNoItem bytes = (x : A) (r : List ℕ) → IsValid x → bytes ≡ item x ++ r → ⊥

  -- what is left of all elements behind a front, and how it is spelled
  pub record IsRest (front all rest : List A) (tail end : List ℕ) : Type 0 where
    pub split : all ≡ front ++ rest
    pub valid : All IsValid rest
    pub spelled : tail ≡ flat_map item rest ++ end

  pub more : (x : A) (xs : List A) (rest : List ℕ) → flat_map item (x ∷ xs) ++ rest ≡ item x ++ (flat_map item xs ++ rest)
  more x xs rest = append_assoc (item x) (flat_map item xs) rest

  pub rest_of : (front all : List A) (tail end : List ℕ) → All IsValid front → All IsValid all → IsNoItem end
      → flat_map item front ++ tail ≡ flat_map item all ++ end → (rest : List A) × IsRest front all rest tail end
  rest_of [] all tail end fv av none e = (all, record { split = refl; valid = av; spelled = e })
  rest_of (x ∷ front) [] tail end fv av none e =
      absurd (none x (flat_map item front ++ tail) (All-head IsValid x front fv) (sym e ∙ more x front tail))
  rest_of (x ∷ front) (y ∷ all) tail end fv av none e =
      let one = once x y (flat_map item front ++ tail) (flat_map item all ++ end) (All-head IsValid x front fv) (All-head IsValid y all av)
      (sym (more x front tail) ∙ e ∙ more y all end) in
      let others = rest_of front all tail end (All-tail IsValid x front fv) (All-tail IsValid y all av) none one.1 in
      let split = others.1.split in
      let head = sym one.0 in
      (others.0, record { split = λ i. head i ∷ split i; valid = others.1.valid; spelled = others.1.spelled })

  pub last_rest : (front all rest : List A) (tail end : List ℕ) → IsRest front all rest tail end → IsNoItem tail → (all ≡ front) × (tail ≡ end)
  last_rest front all [] tail end is none = (is.split ∙ append-nil front, is.spelled)
  last_rest front all (x ∷ rest) tail end is none =
      absurd (none x (flat_map item rest ++ end) (All-head IsValid x rest is.valid) (is.spelled ∙ more x rest end))

  -- where no item follows, those so far are all
  pub last_of : (front all : List A) (tail end : List ℕ) → All IsValid front → All IsValid all → IsNoItem end → IsNoItem tail
      → flat_map item front ++ tail ≡ flat_map item all ++ end → (all ≡ front) × (tail ≡ end)
  last_of front all tail end fv av none no_more e =
      let rest = rest_of front all tail end fv av none e in last_rest front all rest.0 tail end rest.1 no_more
