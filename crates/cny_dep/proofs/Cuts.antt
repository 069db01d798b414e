-- A list that is cut at the first place of a byte.
use Rattle.std.proofs.Common.{◌≡◌, ℕ, ◌<◌, Bool, true, false, zero, suc, List, [], ◌∷◌, ◌++◌, length, get_or, refl, sym, ap, ◌∙◌, arith, not, ◌==◌, Option, Some, None}
use Rattle.std.specs.Cmp.{first_so, second_so}
use Rattle.std.specs.List.{list_all}
use Rattle.std.proofs.lemmas.Bool.{false≢true}
use Rattle.std.proofs.lemmas.List.{append-nil, append_cancel_right}
use Rattle.cny_dep.specs.declared.class.Class.{Class}
use Rattle.cny_dep.specs.declared.class.Class.TheVariants.{Abi, File, Trove, Soname, UserInfo, GroupInfo, Python, Perl}
use Rattle.cny_dep.specs.Dep.{class_text}
use Rattle.cny_dep.specs.Listing.{group_text}
use Rattle.cny_dep.specs.Part.{is_part_byte}

-- the byte isn't in the list
abbrev pub Lacks : ℕ → List ℕ → Type 0
Lacks c xs = (i : ℕ) → i < length xs → get_or xs i 0 ≡ c → ⊥

-- a byte that fails a test which all bytes pass
pub lacks_by : (p : ℕ → Bool) (c : ℕ) → p c ≡ false → (xs : List ℕ) → list_all p xs ≡ true → Lacks c xs
lacks_by p c fails [] all i within e = absurd (omega arith)
lacks_by p c fails (x ∷ xs) all zero within e = absurd (false≢true (sym fails ∙ ap p (sym e) ∙ first_so (p x) (list_all p xs) all))
lacks_by p c fails (x ∷ xs) all (suc i) within e = lacks_by p c fails xs (second_so (p x) (list_all p xs) all) i (omega arith) e

first_other : (c x : ℕ) (xs : List ℕ) → Lacks c (x ∷ xs) → x ≡ c → ⊥
first_other c x xs lacks e = lacks 0 (omega arith) e

rest_lacks : (c x : ℕ) (xs : List ℕ) → Lacks c (x ∷ xs) → Lacks c xs
rest_lacks c x xs lacks i within e = lacks (suc i) (omega arith) e

-- one list, cut twice at the first such byte
pub same_cut : (c : ℕ) (xs ys us vs : List ℕ) → Lacks c xs → Lacks c ys → xs ++ c ∷ us ≡ ys ++ c ∷ vs → (xs ≡ ys) × (us ≡ vs)
same_cut c [] [] us vs lx ly e = (refl, cc)
same_cut c [] (y ∷ ys) us vs lx ly e = absurd (first_other c y ys ly (cc))
same_cut c (x ∷ xs) [] us vs lx ly e = absurd (first_other c x xs lx (cc))
same_cut c (x ∷ xs) (y ∷ ys) us vs lx ly e =
    let heads : x ≡ y = cc in
    let tails : xs ++ c ∷ us ≡ ys ++ c ∷ vs = cc in
    let more = same_cut c xs ys us vs (rest_lacks c x xs lx) (rest_lacks c y ys ly) tails in
    (ap (λ (n : ℕ). n ∷ xs) heads ∙ ap (λ l. y ∷ l) more.0, more.1)

pub no_cut : (c : ℕ) (xs ys vs : List ℕ) → Lacks c xs → xs ≡ ys ++ c ∷ vs → ⊥
no_cut c [] [] vs lx e = absurd (cc)
no_cut c [] (y ∷ ys) vs lx e = absurd (cc)
no_cut c (x ∷ xs) [] vs lx e = first_other c x xs lx (cc)
no_cut c (x ∷ xs) (y ∷ ys) vs lx e = no_cut c xs ys vs (rest_lacks c x xs lx) (cc)

-- ---- the class in front

abbrev no_colon : ℕ → Bool
no_colon b = not (b == 58)

no_colon_in : (class : Class) → list_all no_colon (class_text class) ≡ true
no_colon_in Abi = refl
no_colon_in File = refl
no_colon_in Trove = refl
no_colon_in Soname = refl
no_colon_in UserInfo = refl
no_colon_in GroupInfo = refl
no_colon_in Python = refl
no_colon_in Perl = refl

pub class_lacks : (class : Class) → Lacks 58 (class_text class)
class_lacks class = lacks_by no_colon 58 refl (class_text class) (no_colon_in class)

-- the class of a word, by its first two letters
abbrev class_by : List ℕ → Class
class_by [] = Abi
class_by (a ∷ []) = Abi
class_by (a ∷ b ∷ bs) =
    elim (a == 97) [
      | true ↦ Abi
      | false ↦ elim (a == 102) [
        | true ↦ File
        | false ↦ elim (a == 116) [
          | true ↦ Trove
          | false ↦ elim (a == 115) [
            | true ↦ Soname
            | false ↦ elim (a == 117) [ true ↦ UserInfo | false ↦ elim (a == 103) [ true ↦ GroupInfo | false ↦ elim (b == 121) [ true ↦ Python | false ↦ Perl ] ] ]
          ]
        ]
      ]
    ]

by_text : (class : Class) → class_by (class_text class) ≡ class
by_text Abi = refl
by_text File = refl
by_text Trove = refl
by_text Soname = refl
by_text UserInfo = refl
by_text GroupInfo = refl
by_text Python = refl
by_text Perl = refl

pub same_class : (a b : Class) → class_text a ≡ class_text b → a ≡ b
same_class a b e = sym (by_text a) ∙ ap class_by e ∙ by_text b

-- ---- the name in front of the parentheses

pub name_lacks : (name : List ℕ) → list_all is_part_byte name ≡ true → Lacks 40 name
name_lacks name all = lacks_by is_part_byte 40 refl name all

pub same_group : (m n : List ℕ) (x y : Option (List ℕ)) → Lacks 40 m → Lacks 40 n → m ++ group_text x ≡ n ++ group_text y → (m ≡ n) × (x ≡ y)
same_group m n None None lm ln e = (sym (append-nil m) ∙ e ∙ append-nil n, refl)
same_group m n None (Some g) lm ln e = absurd (no_cut 40 m n (g ++ 41 ∷ []) lm (sym (append-nil m) ∙ e))
same_group m n (Some f) None lm ln e = absurd (no_cut 40 n m (f ++ 41 ∷ []) ln (sym (append-nil n) ∙ sym e))
same_group m n (Some f) (Some g) lm ln e =
    let parts = same_cut 40 m n (f ++ 41 ∷ []) (g ++ 41 ∷ []) lm ln e in
    (parts.0, ap Some (append_cancel_right f g (41 ∷ []) parts.1))
