-- Lists that are mapped item by item.
use Rattle.std.proofs.Common.{◌≡◌, ℕ, zero, suc, ◌<◌, List, [], ◌∷◌, ◌++◌, length, map, get_or, All, refl, sym, ◌∙◌, ap, arith}
use Rattle.std.proofs.lemmas.List.{map_push}
use Rattle.std.proofs.lemmas.List.Elements.{All-nil, All-cons, All-head, All-tail}

-- the item at a place is made of one that has what all have
pub mapped_item : {A B : Type 0} (P : A → Type 0) (f : A → B) (xs : List A) (ys : List B) (k : ℕ) (d : B) → ys ≡ map f xs → All P xs → k < length ys → (x : A) × (get_or ys k d ≡ f x) × P x
mapped_item P f xs [] k d e all lt = absurd (omega arith)
mapped_item P f [] (y ∷ ys) k d e all lt = absurd (cc e)
mapped_item P f (x ∷ xs) (y ∷ ys) zero d e all lt = (x, cc e, All-head P x xs all)
mapped_item P f (x ∷ xs) (y ∷ ys) (suc k) d e all lt = mapped_item P f xs ys k d (cc e) (All-tail P x xs all) (omega arith)

pub all_so : {A : Type 0} (xs : List A) → All (λ (x : A). Unit {0}) xs
all_so [] = All-nil (λ x. Unit {0})
all_so (x ∷ xs) = All-cons (λ x. Unit {0}) x xs tt (all_so xs)

-- one more
pub mapped_push : {A B : Type 0} (f : A → B) (ys : List B) (xs more : List A) (y : B) (x : A) → ys ≡ map f xs → y ≡ f x → more ≡ xs ++ x ∷ [] → ys ++ y ∷ [] ≡ map f more
mapped_push f ys xs more y x so_far is pushed = (λ i. so_far i ++ is i ∷ []) ∙ sym (map_push f xs x) ∙ ap (map f) (sym pushed)

pub map_once : {A B : Type 0} (f : A → B) → ((x y : A) → f x ≡ f y → x ≡ y) → (xs ys : List A) → map f xs ≡ map f ys → xs ≡ ys
map_once f once [] [] e = refl
map_once f once [] (y ∷ ys) e = absurd (cc e)
map_once f once (x ∷ xs) [] e = absurd (cc e)
map_once f once (x ∷ xs) (y ∷ ys) e =
    let head : x ≡ y = once x y (cc e) in
    let tail : xs ≡ ys = map_once f once xs ys (cc e) in
    λ i. head i ∷ tail i

pub implied_both : {A : Type 0} (P Q R : A → Type 0) (xs : List A) → ((x : A) → P x → Q x → R x) → All P xs → All Q xs → All R xs
implied_both P Q R [] f all both = All-nil R
implied_both P Q R (x ∷ xs) f all both = All-cons R x xs (f x (All-head P x xs all) (All-head Q x xs both)) (implied_both P Q R xs f (All-tail P x xs all) (All-tail Q x xs both))

pub map_itself : {A : Type 0} (xs : List A) → map (λ (x : A). x) xs ≡ xs
map_itself [] = refl
map_itself (x ∷ xs) = ap (λ l. x ∷ l) (map_itself xs)
