-- A line sets one thing, and lines give one configuration.
use Rattle.std.proofs.Common.{◌≡◌, ℕ, List, [], ◌∷◌, ◌++◌, Ok, refl, sym, ap, ◌∙◌}
use Rattle.std.specs.Prelude.{IsTrue}
use Rattle.std.specs.List.{AllZip, fold}
use Rattle.std.proofs.lemmas.Grind.{fold-append}
use Rattle.cny_dep.specs.declared.parts.Parts.{Parts}
use Rattle.cny_dep.specs.Spelling.{IsRelaxedText, IsReadAs}
use Rattle.cny_version.specs.Label.{LabelParts, label_text, is_label}
use Rattle.trove_spec.specs.declared.config.Config.{Config}
use Rattle.trove_spec.specs.declared.config.Setting.{Setting}
use Rattle.trove_spec.specs.declared.config.Setting.TheVariants.{Skipped, LabelPath, SystemFlavor}
use Rattle.trove_spec.specs.Config.{cleaned, words, IsTextOf, IsPathSetting, IsRelaxedSetting, IsSetting, AreSettings, no_config, with_setting, IsConfigOf}

-- ---- what a line sets

pub one_flavor : (text : List ℕ) (flavor : Parts) (setting : Setting) → ((parts : Parts) → IsRelaxedText text parts → IsReadAs (Ok flavor) parts) → IsRelaxedSetting text setting
    → SystemFlavor flavor ≡ setting
one_flavor text flavor Skipped only is = absurd is
one_flavor text flavor (LabelPath labels) only is = absurd is
one_flavor text flavor (SystemFlavor other) only is = ap (λ (f : Parts). SystemFlavor f) (only other is)

-- no two labels have one text
abbrev pub OneLabel : Type 0
OneLabel = (l m : LabelParts) → IsTrue (is_label l) → IsTrue (is_label m) → label_text l ≡ label_text m → l ≡ m

one_labels : OneLabel → (texts : List (List ℕ)) (a b : List LabelParts) → AllZip IsTextOf texts a → AllZip IsTextOf texts b → a ≡ b
one_labels one [] [] [] first second = refl
one_labels one [] [] (m ∷ b) first second = absurd second
one_labels one [] (l ∷ a) b first second = absurd first
one_labels one (w ∷ texts) [] b first second = absurd first
one_labels one (w ∷ texts) (l ∷ a) [] first second = absurd second
one_labels one (w ∷ texts) (l ∷ a) (m ∷ b) first second =
    let head = one l m first.0.0 second.0.0 (sym first.0.1 ∙ second.0.1) in
    let tail = one_labels one texts a b first.1 second.1 in
    λ i. head i ∷ tail i

pub one_path : OneLabel → (value : List ℕ) (labels : List LabelParts) (setting : Setting) → AllZip IsTextOf (words value) labels → IsPathSetting value setting → LabelPath labels ≡ setting
one_path one value labels Skipped are is = absurd is
one_path one value labels (LabelPath others) are is = ap (λ (l : List LabelParts). LabelPath l) (one_labels one (words value) labels others are is.1)
one_path one value labels (SystemFlavor flavor) are is = absurd is

-- ---- a line more

-- a list that is paired with one that has an item more
record Split {A B : Type 0} (R : A → B → Type 0) (xs : List A) (x : A) (ys : List B) : Type 0 where
  front : List B
  last : B
  is : ys ≡ front ++ last ∷ []
  all : AllZip R xs front
  one : R x last

split : {A B : Type 0} (R : A → B → Type 0) (xs : List A) (x : A) (ys : List B) → AllZip R (xs ++ x ∷ []) ys → Split R xs x ys
split R [] x [] all = absurd all
split R [] x (y ∷ []) all = record { front = []; last = y; is = refl; all = tt; one = all.0 }
split R [] x (y ∷ z ∷ ys) all = absurd all.1
split R (a ∷ xs) x [] all = absurd all
split {A} {B} R (a ∷ xs) x (y ∷ ys) all =
    let rest = split R xs x ys all.1 in
    record { front = y ∷ rest.front; last = rest.last; is = ap (λ (l : List B). y ∷ l) rest.is; all = (all.0, rest.all); one = rest.one }

-- this configuration alone is that of the lines
abbrev pub IsOnly : List (List ℕ) → Config → Type 0
IsOnly lines config = (other : Config) → IsConfigOf lines other → config ≡ other

no_settings : (settings : List Setting) → AreSettings [] settings → no_config ≡ fold with_setting no_config settings
no_settings [] are = refl
no_settings (s ∷ settings) are = absurd are

pub only_none : IsOnly [] no_config
only_none = λ other is. no_settings is.settings is.are ∙ sym is.config_is

pub only_more : (lines : List (List ℕ)) (line : List ℕ) (config : Config) (setting : Setting) → IsOnly lines config → ((s : Setting) → IsSetting (cleaned line) s → setting ≡ s)
    → IsOnly (lines ++ line ∷ []) (with_setting config setting)
only_more lines line config setting only one = λ other is. (
    let parts = split (λ (l : List ℕ) (s : Setting). IsSetting (cleaned l) s) lines line is.settings is.are in
    let before : Config = fold with_setting no_config parts.front in
    ap (λ (c : Config). with_setting c setting) (only before (record { settings = parts.front; are = parts.all; config_is = refl }))
    ∙ ap (λ (s : Setting). with_setting before s) (one parts.last parts.one)
    ∙ sym (fold-append with_setting no_config parts.front (parts.last ∷ []))
    ∙ ap (fold with_setting no_config) (sym parts.is)
    ∙ sym is.config_is
    )
