-- The lines of a model file, one more at a time.
use Rattle.std.proofs.Common.{◌≡◌, ℕ, Bool, true, false, cond, List, [], ◌∷◌, ◌++◌, map, filter, append-nil, refl, sym, ap, ◌∙◌, subst}
use Rattle.std.specs.List.{AllZip}
use Rattle.std.proofs.lemmas.List.Elements.{filter-append}
use Rattle.repo_index.proofs.cny-base.Lists.{map_push}
use Rattle.trove_spec.specs.Config.{cleaned}
use Rattle.trove_spec.proofs.ConfigLines.{paired-push}
use Rattle.sys_model.specs.declared.directive.ModelLine.{ModelLine}
use Rattle.sys_model.specs.Model.{is_read, lines_read, IsDirective}

-- ---- lines that say something

lines_more : (lines : List (List ℕ)) (line : List ℕ) → lines_read (lines ++ line ∷ []) ≡ lines_read lines ++ cond (is_read (cleaned line)) (cleaned line ∷ []) []
lines_more lines line = ap (filter is_read) (map_push cleaned lines line) ∙ filter-append is_read (map cleaned lines) (cleaned line ∷ [])

pub one_skipped : (lines : List (List ℕ)) (line : List ℕ) → is_read (cleaned line) ≡ false → lines_read (lines ++ line ∷ []) ≡ lines_read lines
one_skipped lines line is = lines_more lines line ∙ ap (λ (b : Bool). lines_read lines ++ cond b (cleaned line ∷ []) []) is ∙ append-nil (lines_read lines)

pub one_read : (lines : List (List ℕ)) (line : List ℕ) → is_read (cleaned line) ≡ true → lines_read (lines ++ line ∷ []) ≡ lines_read lines ++ cleaned line ∷ []
one_read lines line is = lines_more lines line ∙ ap (λ (b : Bool). lines_read lines ++ cond b (cleaned line ∷ []) []) is

-- ---- what they say

-- they say this
abbrev pub AreSaid : List (List ℕ) → List ModelLine → Type 0
AreSaid lines said = AllZip IsDirective (lines_read lines) said

-- they say nothing else
abbrev pub IsOnly : List (List ℕ) → List ModelLine → Type 0
IsOnly lines said = (other : List ModelLine) → AreSaid lines other → said ≡ other

pub only_none : IsOnly [] []
only_none = at
  where
    at : (other : List ModelLine) → AllZip IsDirective [] other → [] ≡ other
    at [] are = refl
    at (x ∷ other) are = absurd are

pub said_more : (lines : List (List ℕ)) (line : List ℕ) (said : List ModelLine) (one : ModelLine) → is_read (cleaned line) ≡ true → AreSaid lines said → IsDirective (cleaned line) one
    → AreSaid (lines ++ line ∷ []) (said ++ one ∷ [])
said_more lines line said one read are is =
    subst (λ (l : List (List ℕ)). AllZip IsDirective l (said ++ one ∷ [])) (sym (one_read lines line read)) (paired-push IsDirective (lines_read lines) said (cleaned line) one are is)

-- a list that is paired with one that has an item more
record Split (texts : List (List ℕ)) (text : List ℕ) (said : List ModelLine) : Type 0 where
  front : List ModelLine
  last : ModelLine
  is : said ≡ front ++ last ∷ []
  all : AllZip IsDirective texts front
  one : IsDirective text last

split : (texts : List (List ℕ)) (text : List ℕ) (said : List ModelLine) → AllZip IsDirective (texts ++ text ∷ []) said → Split texts text said
split [] text [] are = absurd are
split [] text (s ∷ []) are = record { front = []; last = s; is = refl; all = tt; one = are.0 }
split [] text (s ∷ t ∷ said) are = absurd are.1
split (u ∷ texts) text [] are = absurd are
split (u ∷ texts) text (s ∷ said) are =
    let rest = split texts text said are.1 in
    record { front = s ∷ rest.front; last = rest.last; is = ap (λ (l : List ModelLine). s ∷ l) rest.is; all = (are.0, rest.all); one = rest.one }

pub only_more : (lines : List (List ℕ)) (line : List ℕ) (said : List ModelLine) (one : ModelLine) → is_read (cleaned line) ≡ true → IsOnly lines said
    → ((s : ModelLine) → IsDirective (cleaned line) s → one ≡ s) → IsOnly (lines ++ line ∷ []) (said ++ one ∷ [])
only_more lines line said one read only last = λ other are. (
    let parts = split (lines_read lines) (cleaned line) other (subst (λ (l : List (List ℕ)). AllZip IsDirective l other) (one_read lines line read) are) in
    ap (λ (l : List ModelLine). l ++ one ∷ []) (only parts.front parts.all)
    ∙ ap (λ (s : ModelLine). parts.front ++ s ∷ []) (last parts.last parts.one)
    ∙ sym parts.is
    )

pub said_same : (lines : List (List ℕ)) (line : List ℕ) (said : List ModelLine) → is_read (cleaned line) ≡ false → AreSaid lines said → AreSaid (lines ++ line ∷ []) said
said_same lines line said is are = subst (λ (l : List (List ℕ)). AllZip IsDirective l said) (sym (one_skipped lines line is)) are

pub only_same : (lines : List (List ℕ)) (line : List ℕ) (said : List ModelLine) → is_read (cleaned line) ≡ false → IsOnly lines said → IsOnly (lines ++ line ∷ []) said
only_same lines line said is only = λ other are. only other (subst (λ (l : List (List ℕ)). AllZip IsDirective l other) (one_skipped lines line is) are)
