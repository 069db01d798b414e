-- The troves of a package, of a component and of a group.
use Rattle.std.proofs.Common.{◌≡◌, ℕ, zero, suc, ◌<◌, false, IsTrue, List, [], ◌∷◌, ◌++◌, map, Some, Result, Err, refl, sym, ap, ◌∙◌, subst, append_assoc, slice_get, get_or, length, arith}
use Rattle.std.specs.Prelude.{All, Contains, IsErrAnd}
use Rattle.std.specs.BTreeSet.{insert_key}
use Rattle.std.specs.Ordering.{match_ordering}
use Rattle.std.specs.declared.cmp.Ordering.{Ordering}
use Rattle.std.specs.declared.cmp.Ordering.TheVariants.{Less, Equal, Greater}
use Rattle.std.proofs.lemmas.Bool.{true≢false}
use Rattle.std.proofs.lemmas.List.{map-append}
use Rattle.std.proofs.lemmas.Result.{err_from_is_err_and}
use Rattle.std.proofs.lemmas.List.Elements.{All-nil, All-cons, All-head, All-tail, All-push, All-contains, All-contains_itself}
use Rattle.change_set.specs.cny-base.Name.{is_name, kind_of_name}
use Rattle.change_set.specs.cny-base.declared.name.NameKind.{NameKind}
use Rattle.change_set.specs.cny-base.declared.text.TextFault.{TextFault}
use Rattle.change_set.specs.cny-base.declared.text.TextFault.TheVariants.{Bad}
use Rattle.change_set.specs.trove-parts.declared.id.TroveId.{TroveId}
use Rattle.change_set.specs.trove-stream.declared.parts.TroveParts.{TroveParts}
use Rattle.change_set.specs.trove-stream.Trove.{IsTrove}
use Rattle.manifest_troves.specs.declared.lines.TroveLines.{TroveLines}
use Rattle.manifest_troves.specs.Troves.{entry_component, name_of_line, with_names, with_name, HasBadName, component_names, component_trove, package_of, package_troves, troves_by, troves_of}
use Rattle.manifest_troves.proofs.Names.{by_bytes, tied}

-- ---- names in a set

insert_all : (P : List ℕ → Type 0) (keys : List (List ℕ)) (k : List ℕ) → All P (insert_key by_bytes keys k) → P k × All P keys
insert_all P [] k all = (All-head P k [] all, All-nil P)
insert_all P (x ∷ xs) k all = at (by_bytes k x) refl (λ given. insert_all P xs k given) all
  where
    at : (o : Ordering) → by_bytes k x ≡ o → (All P (insert_key by_bytes xs k) → P k × All P xs) → All P (match_ordering o (k ∷ x ∷ xs) (x ∷ xs) (x ∷ insert_key by_bytes xs k)) → P k × All P (x ∷ xs)
    at Less e later given = (All-head P k (x ∷ xs) given, All-tail P k (x ∷ xs) given)
    at Equal e later given = (subst P (sym (tied k x e)) (All-head P x xs given), given)
    at Greater e later given =
        let rest = later (All-tail P x (insert_key by_bytes xs k) given) in
        (rest.0, All-cons P x xs (All-head P x (insert_key by_bytes xs k) given) rest.1)

names_all : (P : List ℕ → Type 0) (known names : List (List ℕ)) → All P (with_names known names) → All P known × All P names
names_all P known [] all = (all, All-nil P)
names_all P known (n ∷ names) all =
    let later = names_all P (insert_key by_bytes known n) names all in
    let here = insert_all P known n later.0 in
    (here.1, All-cons P n names here.0 later.1)

-- ---- troves of such names

abbrev IsGoodName : List ℕ → Type 0
IsGoodName name = IsTrue (is_name name)

good_names : (l : TroveLines) (names : List (List ℕ)) → All IsTrove (map (component_trove l) names) → All IsGoodName names
good_names l [] all = All-nil IsGoodName
good_names l (n ∷ names) all =
    let first : IsTrove (component_trove l n) = All-head IsTrove (component_trove l n) (map (component_trove l) names) all in
    All-cons IsGoodName n names first.lists.id.name (good_names l names (All-tail IsTrove (component_trove l n) (map (component_trove l) names) all))

-- where one is no name, not all are troves
pub bad_name_bars : (l : TroveLines) → HasBadName (map (entry_component l.id.name) l.files) → All IsTrove (package_troves l (component_names l)) → ⊥
bad_name_bars l bad all =
    let components : All IsTrove (map (component_trove l) (component_names l)) = All-tail IsTrove (package_of l.id (component_names l)) (map (component_trove l) (component_names l)) all in
    let entries : List (List ℕ) = map (entry_component l.id.name) l.files in
    let required : List (List ℕ) = map name_of_line l.requires_ in
    let third = names_all IsGoodName (with_names (with_names [] entries) required) (map name_of_line l.provides) (good_names l (component_names l) components) in
    let second = names_all IsGoodName (with_names [] entries) required third.0 in
    let first = names_all IsGoodName [] entries second.0 in
    true≢false (sym (All-contains IsGoodName entries bad.0 first.1 bad.1) ∙ bad.2)

-- ---- a fault that is handed on

pub handed_bad : {A B : Type 0} (r : Result A TextFault) (e f : TextFault) → r ≡ Err e → e ≡ f → r ≡ Err Bad → ◌≡◌ {A = Result B TextFault} (Err f) (Err Bad)
handed_bad {A} {B} r e f given same is =
    let both : ◌≡◌ {A = Result A TextFault} (Err e) (Err Bad) = sym given ∙ is in
    let bad : e ≡ Bad = cc in
    ap (λ (x : TextFault). Err x) (sym same ∙ bad)

-- ---- the troves of each kind

-- the troves of lines are those of the kind of their name
pub troves_of_kind : (l : TroveLines) (kind : NameKind) → kind_of_name l.id.name ≡ kind → troves_of l ≡ troves_by kind l
unfolding troves_of
troves_of_kind l kind e = ap (λ (k : NameKind). troves_by k l) e

-- lines that make this trove alone
module _ (l : TroveLines) (trove : TroveParts) (alone : troves_of l ≡ trove ∷ []) where
  pub alone_ok : (made : TroveParts) (troves : List TroveParts) → made ≡ trove → troves ≡ made ∷ [] → troves ≡ troves_of l
  alone_ok made troves is one = one ∙ ap (λ (t : TroveParts). t ∷ []) is ∙ sym alone

  pub alone_are : (made : TroveParts) → made ≡ trove → IsTrove made → All IsTrove (troves_of l)
  alone_are made is good = subst (All IsTrove) (ap (λ (t : TroveParts). t ∷ []) is ∙ sym alone) (All-cons IsTrove made [] good (All-nil IsTrove))

  -- where making the trove ends with a fault, which is handed on
  pub alone_bad : {A B : Type 0} (f : TextFault) (r : Result A TextFault) → (◌≡◌ {A = Result B TextFault} (Err f) (Err Bad) → IsTrove trove → ⊥) → IsErrAnd r (λ e. e ≡ f) → r ≡ Err Bad → All IsTrove (troves_of l) → ⊥
  alone_bad f r bad handed is are =
      let p = err_from_is_err_and r handed in
      bad (handed_bad r p.0 f p.1 p.2 is) (All-head IsTrove trove [] (subst (All IsTrove) alone are))

-- ---- an element among those that are mapped

pub mapped_at : {A B : Type 0} (P : B → Type 0) (f : A → B) (xs : List A) (i : ℕ) (x : A) → slice_get xs i ≡ Some x → All P (map f xs) → P (f x)
mapped_at P f [] i x at all = absurd (cc)
mapped_at P f (y ∷ ys) zero x at all = let same : y ≡ x = cc in subst (λ z. P (f z)) same (All-head P (f y) (map f ys) all)
mapped_at P f (y ∷ ys) (suc i) x at all = mapped_at P f ys i x at (All-tail P (f y) (map f ys) all)

pub mapped_in : {A B : Type 0} (P : B → Type 0) (f : A → B) (xs : List A) (i : ℕ) (d : A) → i < length xs → All P (map f xs) → P (f (get_or xs i d))
mapped_in P f [] i d lt all = absurd (omega (arith, lt))
mapped_in P f (y ∷ ys) zero d lt all = All-head P (f y) (map f ys) all
mapped_in P f (y ∷ ys) (suc i) d lt all = mapped_in P f ys i d (omega (arith, lt)) (All-tail P (f y) (map f ys) all)

pub bad_at : {A : Type 0} (f : A → List ℕ) (xs : List A) (i : ℕ) (x : A) → i < length xs → x ≡ get_or xs i x → is_name (f x) ≡ false → HasBadName (map f xs)
bad_at {A} f xs i x lt is bad =
    (f x, subst (λ (y : A). Contains (map f xs) (f y)) (sym is) (mapped_in (Contains (map f xs)) f xs i x lt (All-contains_itself (map f xs))), bad)

-- ---- one trove more

pub push_behind : {A B : Type 0} (f : A → B) (front : List B) (xs : List A) (x : A) (made : List B) (y : B) → made ≡ front ++ map f xs → y ≡ f x → made ++ y ∷ [] ≡ front ++ map f (xs ++ x ∷ [])
push_behind {A} {B} f front xs x made y so_far is =
    ap (λ (l : List B). l ++ y ∷ []) so_far ∙ append_assoc front (map f xs) (y ∷ [])
    ∙ ap (λ (l : List B). front ++ l) (ap (λ (z : B). map f xs ++ z ∷ []) is ∙ sym (map-append f xs (x ∷ [])))

pub all_behind : {A B : Type 0} (P : B → Type 0) (f : A → B) (xs : List A) (x : A) (y : B) → All P (map f xs) → P y → y ≡ f x → All P (map f (xs ++ x ∷ []))
all_behind P f xs x y all last is = subst (All P) (sym (map-append f xs (x ∷ []))) (All-push P (map f xs) (f x) all (subst P is last))

-- ---- the whole package

pub package_made : (l : TroveLines) (names : List (List ℕ)) (made components : List TroveParts) (refs : List TroveId) (whole : TroveParts)
    → whole ≡ record { id = l.id; files = []; refs = refs; requires_ = []; provides = [] } → refs ≡ map (with_name l.id) names → components ≡ map (component_trove l) names
    → made ≡ whole ∷ components → made ≡ package_troves l names
package_made l names made components refs whole whole_is refs_are components_are is =
    is ∙ ap (λ (t : TroveParts). t ∷ components) (whole_is ∙ ap (λ (r : List TroveId). record { id = l.id; files = []; refs = r; requires_ = []; provides = [] }) refs_are)
    ∙ ap (λ (ts : List TroveParts). package_of l.id names ∷ ts) components_are

pub package_barred : (l : TroveLines) (names : List (List ℕ)) (refs : List TroveId) → refs ≡ map (with_name l.id) names
    → (IsTrove (record { id = l.id; files = []; refs = refs; requires_ = []; provides = [] }) → ⊥) → All IsTrove (package_troves l names) → ⊥
package_barred l names refs are bad all =
    bad (subst (λ (r : List TroveId). IsTrove (record { id = l.id; files = []; refs = r; requires_ = []; provides = [] })) (sym are)
    (All-head IsTrove (package_of l.id names) (map (component_trove l) names) all))

pub components_barred : (l : TroveLines) (names : List (List ℕ)) (components : List TroveParts) → components ≡ map (component_trove l) names → (All IsTrove components → ⊥) → All IsTrove (package_troves l names) → ⊥
components_barred l names components are bad all =
    bad (subst (All IsTrove) (sym are) (All-tail IsTrove (package_of l.id names) (map (component_trove l) names) all))
