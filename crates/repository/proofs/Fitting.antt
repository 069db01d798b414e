-- Contents that are read one after another, and their sizes.
use Rattle.std.proofs.Common.{◌≡◌, ℕ, ◌+◌, ◌<◌, ⊎_elim, List, [], ◌∷◌, ◌++◌, length, get_or, take, map, All, Contains, sym, ap, ◌∙◌, subst}
use Rattle.std.proofs.lemmas.List.{take_more}
use Rattle.std.proofs.lemmas.List.Elements.{All-push, Contains-push_cases}
use Rattle.change_set.specs.declared.change.Carried.{Carried}
use Rattle.repo_load.specs.tree-disk.Tree.{Tree}
use Rattle.repository.specs.Between.{carried_name, AreStoredIn}
use Rattle.repository.specs.BetweenSteps.{IsHashed, IsStoredAs}
use Rattle.change_rel.proofs.cny-base.Lists.{map_push}

-- ---- one content more

pub stored_push : (tree : Tree) (contents new : List Carried) (c : Carried) → new ≡ contents ++ c ∷ [] → AreStoredIn tree contents → IsStoredAs tree c → AreStoredIn tree new
stored_push tree contents new c is all own = subst (AreStoredIn tree) (sym is) (All-push (IsStoredAs tree) contents c all own)

pub hashed_push : (contents new : List Carried) (c : Carried) → new ≡ contents ++ c ∷ [] → All IsHashed contents → IsHashed c → All IsHashed new
hashed_push contents new c is all own = subst (λ (l : List Carried). All IsHashed l) (sym is) (All-push IsHashed contents c all own)

pub names_push : (contents new : List Carried) (c : Carried) (names : List (List ℕ)) (i : ℕ) → i < length names → new ≡ contents ++ c ∷ [] → map carried_name contents ≡ take i names → c.name ≡ get_or names i []
    → map carried_name new ≡ take (i + 1) names
names_push contents new c names i within is so_far own =
    ap (map carried_name) is ∙ map_push carried_name contents c
    ∙ ap (λ (l : List (List ℕ)). l ++ c.name ∷ []) so_far ∙ ap (λ (name : List ℕ). take i names ++ name ∷ []) own
    ∙ sym (take_more names i [] within)

-- ---- sizes

-- what holds of the elements so far holds of those of one more
pub each_more : {A : Type 0} (P : A → Type 0) (xs : List A) (i : ℕ) (x : A) → i < length xs → x ≡ get_or xs i x → ((y : A) → Contains (take i xs) y → P y) → P x → (y : A) → Contains (take (i + 1) xs) y → P y
each_more {A} P xs i x within is so_far here y h =
    let front : take (i + 1) xs ≡ take i xs ++ x ∷ [] = take_more xs i x within ∙ ap (λ (u : A). take i xs ++ u ∷ []) (sym is) in
    ⊎_elim (λ there. so_far y there) (λ e. subst P e here) (Contains-push_cases (take i xs) x y (subst (λ (l : List A). Contains l y) front h))
