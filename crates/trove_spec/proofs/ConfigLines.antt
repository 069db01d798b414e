-- The lines of a configuration file, one after the other.
use Rattle.std.proofs.Common.{◌≡◌, ℕ, ◌+◌, ◌<◌, ◌≤◌, suc, zero, Bool, true, false, cond, List, [], ◌∷◌, ◌++◌, length, take, drop, map, filter, get_or, take_while, refl, sym, ap, subst, ◌∙◌, true≢false, append_assoc, length-append, arith}
use Rattle.std.specs.List.{AllZip}
use Rattle.std.proofs.lemmas.Grind.{fold-append}
use Rattle.std.proofs.lemmas.List.Elements.{filter-append}
use Rattle.std.proofs.lemmas.List.Sums.{take_while-cons}
use Rattle.std.specs.Cmp.Lexicographic.{pointwise}
use Rattle.std.specs.Prelude.{Err, IsErrOf, nat_eq, ◌&&◌}
use Rattle.repo_index.specs.cny-base.declared.text.TextFault.{TextFault}
use Rattle.repo_index.specs.cny-base.declared.text.TextFault.TheVariants.{Bad}
use Rattle.cny_dep.specs.declared.parts.Parts.{Parts}
use Rattle.cny_dep.specs.Spelling.{IsRelaxedText, IsReadAs}
use Rattle.trove_spec.specs.declared.config.Config.{Config}
use Rattle.trove_spec.specs.declared.config.Setting.TheVariants.{Skipped, LabelPath, SystemFlavor}
use Rattle.trove_spec.specs.declared.config.Setting.{Setting}
use Rattle.trove_spec.specs.Config.{cleaned, IsSetting, no_config, with_setting, IsConfigOf, IsFirstBad, IsRelaxedSetting, has_key, ends_word}
use Rattle.cny_version.proofs.cny-base.ByteLists.{begins_by}

-- ---- lists paired by a relation

module _ {A B : Type 0} (R : A → B → Type 0) where
  pub paired-push : (xs : List A) (ys : List B) (x : A) (y : B) → AllZip R xs ys → R x y → AllZip R (xs ++ x ∷ []) (ys ++ y ∷ [])
  paired-push [] [] x y all one = (one, tt)
  paired-push [] (b ∷ ys) x y all one = absurd all
  paired-push (a ∷ xs) [] x y all one = absurd all
  paired-push (a ∷ xs) (b ∷ ys) x y all one = (all.0, paired-push xs ys x y all.1 one)

  pub paired-length : (xs : List A) (ys : List B) → AllZip R xs ys → length xs ≡ length ys
  paired-length [] [] all = refl
  paired-length [] (b ∷ ys) all = absurd all
  paired-length (a ∷ xs) [] all = absurd all
  paired-length (a ∷ xs) (b ∷ ys) all = ap suc (paired-length xs ys all.1)

-- ---- parts of lists under a function

pub take-map : {A B : Type 0} (f : A → B) (n : ℕ) (xs : List A) → take n (map f xs) ≡ map f (take n xs)
take-map f zero xs = refl
take-map f (suc n) [] = refl
take-map {B} f (suc n) (x ∷ xs) = ap (λ (l : List B). f x ∷ l) (take-map f n xs)

-- one that passes more than the first of a list have
pub filter-longer : {A : Type 0} (p : A → Bool) (before after : List A) (x : A) → p x ≡ true → length (filter p before) < length (filter p (before ++ x ∷ after))
filter-longer {A} p before after x passes =
    let whole = filter-append p before (x ∷ after) in
    let here = ap (λ (c : Bool). length (cond c (x ∷ filter p after) (filter p after))) passes in
    omega (arith, ap length whole, length-append (filter p before) (filter p (x ∷ after)), here)

-- ---- lines before a section

pub goes_on : {A : Type 0} (p : A → Bool) (before after : List A) (x : A) → p x ≡ true → before ++ take_while p (x ∷ after) ≡ (before ++ x ∷ []) ++ take_while p after
goes_on {A} p before after x passes =
    ap (λ (l : List A). before ++ l) (take_while-cons p x after ∙ ap (λ (c : Bool). cond c (x ∷ take_while p after) []) passes) ∙ sym (append_assoc before (x ∷ []) (take_while p after))

-- ---- settings

pub config_more : (lines : List (List ℕ)) (line : List ℕ) (config : Config) (setting : Setting) → IsConfigOf lines config → IsSetting (cleaned line) setting
    → IsConfigOf (lines ++ line ∷ []) (with_setting config setting)
config_more lines line config setting is one = record {
  settings = is.settings ++ setting ∷ [];
  are = paired-push (λ (l : List ℕ) (s : Setting). IsSetting (cleaned l) s) lines is.settings line setting is.are one;
  config_is = ap (λ (c : Config). with_setting c setting) is.config_is ∙ sym (fold-append with_setting no_config is.settings (setting ∷ []));
}

pub first_bad : (lines : List (List ℕ)) (before : ℕ) (config : Config) → IsConfigOf (take before lines) config → before < length lines
    → ((setting : Setting) → IsSetting (cleaned (get_or lines before [])) setting → ⊥) → IsFirstBad lines before
first_bad lines before config is within bad = record { settings = is.settings; are = is.are; within = within; bad = bad }

-- ---- one of a list, and what is before and behind it

pub get_or-map : {A B : Type 0} (f : A → B) (xs : List A) (i : ℕ) (d : A) (e : B) → i < length xs → get_or (map f xs) i e ≡ f (get_or xs i d)
get_or-map f [] i d e within = absurd (omega arith)
get_or-map f (x ∷ xs) zero d e within = refl
get_or-map f (x ∷ xs) (suc i) d e within = get_or-map f xs i d e (omega arith)

pub split_at : {A B : Type 0} (f : A → B) (xs : List A) (i : ℕ) (d : A) → i < length xs → map f xs ≡ map f (take i xs) ++ f (get_or xs i d) ∷ map f (drop (i + 1) xs)
split_at f [] i d within = absurd (omega arith)
split_at f (x ∷ xs) zero d within = refl
split_at {B} f (x ∷ xs) (suc i) d within =
    let later : suc (i + 1) ≡ suc i + 1 = omega arith in
    ap (λ (l : List B). f x ∷ l) (split_at f xs i d (omega arith))
    ∙ ap (λ (n : ℕ). f x ∷ (map f (take i xs) ++ f (get_or xs i d) ∷ map f (drop n (x ∷ xs)))) later

module _ {A B : Type 0} (R : A → B → Type 0) (p : A → Bool) where
  -- more of them pass than there are of the other list
  pub too_many : (before after : List A) (x : A) (some all : List B) (limit : ℕ) → p x ≡ true → AllZip R (filter p before) some → limit ≤ length some
      → AllZip R (filter p (before ++ x ∷ after)) all → length all ≤ limit → ⊥
  too_many before after x some all limit passes front many whole few =
      absurd (omega (arith, filter-longer p before after x passes, paired-length R (filter p before) some front, paired-length R (filter p (before ++ x ∷ after)) all whole))

  first_of : (x : A) (rest : List A) (ys : List B) (c : Bool) → c ≡ true → AllZip R (cond c (x ∷ rest) rest) ys → (y : B) × R x y
  first_of x rest ys false passes all = absurd (true≢false (sym passes))
  first_of x rest [] true passes all = absurd all
  first_of x rest (y ∷ ys) true passes all = (y, all.0)

  behind_first : (a x : A) (rest : List A) → ((ys : List B) → AllZip R rest ys → (y : B) × R x y) → (ys : List B) (c : Bool) → AllZip R (cond c (a ∷ rest) rest) ys → (y : B) × R x y
  behind_first a x rest later ys false all = later ys all
  behind_first a x rest later [] true all = absurd all
  behind_first a x rest later (y ∷ ys) true all = later ys all.1

  -- one that passes has one of the other list
  pub paired_at : (before after : List A) (x : A) (ys : List B) → p x ≡ true → AllZip R (filter p (before ++ x ∷ after)) ys → (y : B) × R x y
  paired_at [] after x ys passes all = first_of x (filter p after) ys (p x) passes all
  paired_at (a ∷ before) after x ys passes all =
      behind_first a x (filter p (before ++ x ∷ after)) (λ zs. paired_at before after x zs passes) ys (p a) all

-- ---- readers

pub same_fault : {T : Type 0} (a b : TextFault) → IsErrOf {T = T} (Err a) b → a ≡ b
same_fault a b h = cc

pub flavor_bad : (text : List ℕ) (fault : TextFault) (setting : Setting) → fault ≡ Bad → ((parts : Parts) → IsRelaxedText text parts → IsReadAs (Err fault) parts) → IsRelaxedSetting text setting → ⊥
flavor_bad text fault Skipped e only is = is
flavor_bad text fault (LabelPath labels) e only is = is
flavor_bad text fault (SystemFlavor flavor) e only is = subst (λ (t : TextFault). IsReadAs (Err t) flavor) e (only flavor is)

-- ---- keys

pub key_there : (key line : List ℕ) → pointwise nat_eq (take (length key) line) key ≡ true → has_key key line ≡ ends_word (drop (length key) line)
key_there key line is = ap (λ (b : Bool). b && ends_word (drop (length key) line)) (sym (begins_by key line) ∙ is)

pub key_missing : (key line : List ℕ) → pointwise nat_eq (take (length key) line) key ≡ false → has_key key line ≡ false
key_missing key line is = ap (λ (b : Bool). b && ends_word (drop (length key) line)) (sym (begins_by key line) ∙ is)
