-- Fronts of paths, and the paths that a log can name.
use Rattle.std.proofs.Common.{◌≡◌, ℕ, ◌+◌, Bool, true, false, not, ◌&&◌, ◌||◌, nat_eq, IsTrue, List, [], ◌∷◌, ◌++◌, length, take, drop, Option, Some, None, MatchOption, ◌⊎◌, inl, inr, IfNone, IfSome, Bor, refl, sym, ◌∙◌, ap, arith, append_assoc, append-nil}
use Rattle.std.specs.Prelude.{◌==◌, codes, slice_get}
use Rattle.std.specs.Ordering.{nat_cmp, ordering_then, is_eq}
use Rattle.std.specs.Cmp.Lexicographic.{slice_cmp, pointwise}
use Rattle.std.specs.Str.{bytes_eq}
use Rattle.std.proofs.Math.Seq.{drop-append_seam}
use Rattle.std.proofs.lemmas.Bool.Decides.{nat_tests}
use Rattle.std.proofs.lemmas.Map.Text.{is_eq-slice_cmp}
use Rattle.tree_disk.specs.cny-base.Below.{begins_with, is_below}
use Rattle.tree_disk.proofs.cny-base.Below.{begins, begun, same_cmp as equal_numbers, equal_test as same_number}
use Rattle.tree_disk.specs.cny-base.Path.{root, join}
use Rattle.tree_disk.specs.Tree.{Name, same_name}
use Rattle.tree_disk.specs.Laws.{same_means}
use Rattle.tree_disk.proofs.Laws.{same_itself}
use Rattle.tree_disk.specs.Clear.{is_within}
use Rattle.journal_log.specs.Own.{gate, log, work, staged, is_own_file, is_own}
use Rattle.journal_log.specs.WriteSet.{CanBeNamed}
use Rattle.journal_log.specs.Joined.{front_of}
use Rattle.tree_disk.proofs.cny-base.ByteLists.{begins_by, longer_front}

-- ---- a front of some bytes

abbrev pub IsStripped : List ℕ → List ℕ → Option (Bor (List ℕ)) → Type 0
IsStripped front bytes r = MatchOption r (pointwise nat_eq (take (length front) bytes) front ≡ false)
    (λ x. (pointwise nat_eq (take (length front) bytes) front ≡ true) × (x.now ≡ drop (length front) bytes) × (length x.now + length front ≡ length bytes))

pub stripped : (front bytes : List ℕ) (r : Option (Bor (List ℕ))) → IsStripped front bytes r → IfSome r (λ rest. bytes ≡ front ++ rest.now)
stripped front bytes None cases = tt
stripped front bytes (Some x) cases =
    let more = begun front bytes (sym (begins_by front bytes) ∙ cases.0) in
    more.1 ∙ ap (λ (l : List ℕ). front ++ l) (sym (cases.1 ∙ ap (drop (length front)) more.1 ∙ drop-append_seam front more.0))

pub not_stripped : (front bytes : List ℕ) (r : Option (Bor (List ℕ))) → IsStripped front bytes r → IfNone r (begins_with front bytes ≡ false)
not_stripped front bytes None cases = sym (begins_by front bytes) ∙ cases
not_stripped front bytes (Some x) cases = tt

-- a common front changes nothing
pub behind_front : (front a b : List ℕ) → begins_with (front ++ a) (front ++ b) ≡ begins_with a b
behind_front [] a b = refl
behind_front (x ∷ front) a b = ap (λ t. t && begins_with (front ++ a) (front ++ b)) (same_number x) ∙ behind_front front a b

same_behind : (front a b : List ℕ) → same_name (front ++ a) (front ++ b) ≡ same_name a b
same_behind [] a b = refl
same_behind (x ∷ front) a b = ap (λ o. is_eq (ordering_then o (slice_cmp nat_cmp (front ++ a) (front ++ b)))) (equal_numbers x) ∙ same_behind front a b

pub within_behind : (front a b : List ℕ) → is_within (front ++ a) (front ++ b) ≡ is_within a b
within_behind front a b =
    ap (λ t. t || begins_with ((front ++ a) ++ 47 ∷ []) (front ++ b)) (same_behind front b a)
    ∙ ap (λ t. same_name b a || t) (ap (λ (l : List ℕ). begins_with l (front ++ b)) (append_assoc front a (47 ∷ [])) ∙ behind_front front (a ++ 47 ∷ []) b)

-- ---- a directory and the slash behind it

pub no_front : (dir path : List ℕ) → begins_with dir path ≡ false → begins_with (front_of dir) path ≡ false
no_front [] path none = longer_front [] (47 ∷ []) path none
no_front (b ∷ []) path none = none
no_front (b ∷ c ∷ dir) path none = longer_front (b ∷ c ∷ dir) (47 ∷ []) path none

front_long : (dir : List ℕ) → (length dir ≡ 1 → ⊥) → front_of dir ≡ dir ++ 47 ∷ []
front_long [] other = refl
front_long (b ∷ []) other = absurd (other refl)
front_long (b ∷ c ∷ dir) other = refl

pub no_slash : (dir rest path : List ℕ) → (length dir ≡ 1 → ⊥) → path ≡ dir ++ rest → begins_with (47 ∷ []) rest ≡ false → begins_with (front_of dir) path ≡ false
no_slash dir rest path other is none =
    ap (λ (l : List ℕ). begins_with l path) (front_long dir other) ∙ ap (begins_with (dir ++ 47 ∷ [])) is ∙ behind_front dir (47 ∷ []) rest ∙ none

joined : (dir last : List ℕ) → join dir last ≡ front_of dir ++ last
joined [] last = refl
joined (b ∷ []) last = refl
joined (b ∷ c ∷ dir) last = sym (append_assoc (b ∷ c ∷ dir) (47 ∷ []) last)

-- ---- what lies at a name or below it

-- nothing follows, or a slash
abbrev pub ends_or_slash : List ℕ → Bool
ends_or_slash [] = true
ends_or_slash (b ∷ bytes) = nat_eq b 47

slash_first : (b : ℕ) (x : Bool) → ((47 == b) && true) ≡ nat_eq b 47
slash_first b x = grind (arith, nat_tests)

pub within_rest : (name rest : List ℕ) → is_within name (name ++ rest) ≡ ends_or_slash rest
within_rest name rest =
    ap (λ (l : List ℕ). is_within l (name ++ rest)) (sym (append-nil name)) ∙ within_behind name [] rest ∙ bare rest
  where
    bare : (l : List ℕ) → is_within [] l ≡ ends_or_slash l
    bare [] = refl
    bare (b ∷ l) = slash_first b true

either_false : (x y : Bool) → (x ≡ true → ⊥) → y ≡ false → (x || y) ≡ false
either_false true y un e = absurd (un refl)
either_false false y un e = e

pub not_within : (name path : List ℕ) → begins_with name path ≡ false → is_within name path ≡ false
not_within name path none =
    either_false (same_name path name) (is_below name path)
    (λ same. let e : begins_with name path ≡ true = ap (begins_with name) (same_means path name same ∙ sym (append-nil name)) ∙ begins name [] in absurd (cc (none, e)))
    (longer_front name (47 ∷ []) path none)

-- ---- the journal's own files

pub own_none : (base path : List ℕ) → begins_with (front_of base) path ≡ false → is_own_file base path ≡ false
own_none base path none =
    either_false (is_within (gate base) path) (is_within (log base) path || (is_within (work base) path || is_within (staged base) path)) (not_in (codes "gate"))
    (either_false (is_within (log base) path) (is_within (work base) path || is_within (staged base) path) (not_in (codes "log"))
    (either_false (is_within (work base) path) (is_within (staged base) path) (not_in (codes "w"))
    (none_in (codes "p"))))
  where
    none_in : (last : List ℕ) → is_within (join base last) path ≡ false
    none_in last = not_within (join base last) path (ap (λ (l : List ℕ). begins_with l path) (joined base last) ∙ longer_front (front_of base) last path none)

    not_in : (last : List ℕ) → is_within (join base last) path ≡ true → ⊥
    not_in last h = cc (none_in last, h)

pub own_rest : (base rest path : List ℕ) → path ≡ front_of base ++ rest → is_own_file base path
    ≡ (is_within (codes "gate") rest || (is_within (codes "log") rest || (is_within (codes "w") rest || is_within (codes "p") rest)))
own_rest base rest path is =
    ap (λ t. t || (is_within (log base) path || (is_within (work base) path || is_within (staged base) path))) (in_rest (codes "gate"))
    ∙ ap (λ t. is_within (codes "gate") rest || (t || (is_within (work base) path || is_within (staged base) path))) (in_rest (codes "log"))
    ∙ ap (λ t. is_within (codes "gate") rest || (is_within (codes "log") rest || (t || is_within (staged base) path))) (in_rest (codes "w"))
    ∙ ap (λ t. is_within (codes "gate") rest || (is_within (codes "log") rest || (is_within (codes "w") rest || t))) (in_rest (codes "p"))
  where
    in_rest : (last : List ℕ) → is_within (join base last) path ≡ is_within last rest
    in_rest last = ap (λ (l : List ℕ). is_within l path) (joined base last) ∙ ap (is_within (front_of base ++ last)) is ∙ within_behind (front_of base) last rest

pub some_own : (g l w s : Bool) → (g ≡ true) ⊎ ((g ≡ false × l ≡ true) ⊎ (g ≡ false × l ≡ false × w ≡ true)) → true ≡ (g || (l || (w || s)))
some_own true l w s h = refl
some_own false true w s h = refl
some_own false false true s h = refl
some_own false false false s (inl e) = cc
some_own false false false s (inr (inl e)) = absurd (cc e.1)
some_own false false false s (inr (inr e)) = absurd (cc e.2)

pub last_own : (g l w s : Bool) → g ≡ false → l ≡ false → w ≡ false → s ≡ (g || (l || (w || s)))
last_own g l w s e f h = cc

-- ---- the paths that a log can name

abbrev pub IsAnswer : Bool → Name → Name → Type 0
IsAnswer b base path = (IsTrue b → CanBeNamed base path) × (CanBeNamed base path → IsTrue b)

same_bytes : (path q : Name) → bytes_eq path q ≡ same_name path q
same_bytes path q = sym (is_eq-slice_cmp path q)

pub refused_name : (base path : Name) (r s : Bool) → r ≡ bytes_eq path root → s ≡ bytes_eq path base → (r ≡ true) ⊎ (r ≡ false × s ≡ true) → IsAnswer false base path
refused_name base path r s r_is s_is (inl e) =
    (λ h. absurd (cc h), λ named. absurd (named.not_root (same_means path root (sym (same_bytes path root) ∙ sym r_is ∙ e))))
refused_name base path r s r_is s_is (inr e) =
    (λ h. absurd (cc h), λ named. absurd (own (same_name path base) (is_own_file base path) (sym (same_bytes path base) ∙ sym s_is ∙ e.1) named.not_own))
  where
    own : (x y : Bool) → x ≡ true → (x || y) ≡ false → ⊥
    own true y e f = cc
    own false y e f = cc

pub named_answer : (base path : Name) (r s o : Bool) → r ≡ bytes_eq path root → s ≡ bytes_eq path base → o ≡ is_own_file base path → r ≡ false → s ≡ false → IsAnswer (not o) base path
named_answer base path r s o r_is s_is o_is r_not s_not = (to, from)
  where
    own_is : is_own base path ≡ o
    own_is = ap (λ t. t || is_own_file base path) (sym (same_bytes path base) ∙ sym s_is ∙ s_not) ∙ sym o_is

    unset : (v : Bool) → not v ≡ true → v ≡ false
    unset true h = cc
    unset false h = refl

    to : IsTrue (not o) → CanBeNamed base path
    to h = record {
      not_root = λ e. cc (r_not, r_is ∙ same_bytes path root ∙ ap (λ (q : Name). same_name q root) e ∙ same_itself root);
      not_own = own_is ∙ unset o h;
    }

    from : CanBeNamed base path → IsTrue (not o)
    from named = ap not (sym own_is ∙ named.not_own)

pub then_none : {X : Type 0} (r : Option X) (P Q : Type 0) → (P → Q) → IfNone r P → IfNone r Q
then_none None P Q f p = f p
then_none (Some x) P Q f p = tt

byte_first : (rest : List ℕ) (o : Option ℕ) → o ≡ slice_get rest 0 → MatchOption o (ends_or_slash rest ≡ true) (λ b. ends_or_slash rest ≡ nat_eq b 47)
byte_first [] None e = refl
byte_first [] (Some b) e = absurd cc
byte_first (a ∷ rest) None e = absurd cc
byte_first (a ∷ rest) (Some b) e = let same : b ≡ a = cc in ap (λ (n : ℕ). nat_eq n 47) (sym same)

pub whole_within : (name rest path : List ℕ) → path ≡ name ++ rest → None ≡ slice_get rest 0 → true ≡ is_within name path
whole_within name rest path is first = sym (ap (is_within name) is ∙ within_rest name rest ∙ byte_first rest None first)

pub part_within : (name rest path : List ℕ) (b : ℕ) → path ≡ name ++ rest → Some b ≡ slice_get rest 0 → nat_eq b 47 ≡ is_within name path
part_within name rest path b is first = sym (ap (is_within name) is ∙ within_rest name rest ∙ byte_first rest (Some b) first)
