-- The configuration file, line by line.
use Rattle.std.specs.Prelude.{◌≡◌, ℕ, ◌+◌, ◌<◌, ◌≤◌, Bool, true, false, ◌&&◌, ◌||◌, not, ◌==◌, if◌then◌else◌, IsTrue, List, [], ◌∷◌, length, drop, take, map, filter, codes, slice_index_or}
use Rattle.std.specs.List.{take_while, fold, slice_split, AllZip}
use Rattle.std.specs.Str.{is_utf8}
use Rattle.repo_index.specs.cny-base.Below.{begins_with}
use Rattle.repo_index.specs.cny-base.declared.refusal.Fault.{Fault}
use Rattle.repo_index.specs.cny-base.declared.refusal.Fault.TheVariants.{Refused, Memory}
use Rattle.repo_index.specs.cny-base.declared.refusal.Refusal.TheVariants as refusal
use Rattle.cny_dep.specs.Canonical.{no_parts}
use Rattle.cny_dep.specs.Spelling.{IsRelaxedText}
use Rattle.cny_version.specs.Label.{LabelParts, label_text, is_label}
use Rattle.trove_spec.specs.declared.config.Config.{Config}
use Rattle.trove_spec.specs.declared.config.Setting.{Setting}
use Rattle.trove_spec.specs.declared.config.Setting.TheVariants.{Skipped, LabelPath, SystemFlavor}

-- ---- lines

-- a space or a tab
abbrev pub is_blank : ℕ → Bool
is_blank b = b == 32 || b == 9

-- without the blanks at the front
abbrev pub without_front : List ℕ → List ℕ
without_front [] = []
without_front (b ∷ bytes) = if is_blank b then without_front bytes else b ∷ bytes

-- one byte more before a text without blanks at its end
abbrev pub kept_before : ℕ → List ℕ → List ℕ
kept_before b [] = if is_blank b then [] else b ∷ []
kept_before b (c ∷ rest) = b ∷ c ∷ rest

-- without the blanks at the end
abbrev pub without_back : List ℕ → List ℕ
without_back [] = []
without_back (b ∷ bytes) = kept_before b (without_back bytes)

-- without a CR at the end
abbrev pub without_cr : List ℕ → List ℕ
without_cr [] = []
without_cr (b ∷ []) = if b == 13 then [] else b ∷ []
without_cr (b ∷ c ∷ rest) = b ∷ without_cr (c ∷ rest)

abbrev pub cleaned : List ℕ → List ℕ
cleaned line = without_front (without_back (without_cr line))

abbrev pub begins_with_bracket : List ℕ → Bool
begins_with_bracket [] = false
begins_with_bracket (b ∷ bytes) = b == 91

abbrev pub is_before_section : List ℕ → Bool
is_before_section line = not (begins_with_bracket (cleaned line))

-- the pieces between the LFs, up to the first that begins with `[`
abbrev pub lines_of : List ℕ → List (List ℕ)
lines_of bytes = take_while is_before_section (slice_split (λ b. b == 10) bytes)

-- ---- what a line sets

-- nothing, or a blank at the front
abbrev pub ends_word : List ℕ → Bool
ends_word [] = true
ends_word (b ∷ bytes) = is_blank b

-- the first word of the line is this one
abbrev pub has_key : List ℕ → List ℕ → Bool
has_key key line = begins_with key line && ends_word (drop (length key) line)

abbrev pub label_path : List ℕ
label_path = codes "installLabelPath"

abbrev pub flavor_key : List ℕ
flavor_key = codes "flavor"

abbrev pub as_space : ℕ → ℕ
as_space b = if b == 9 then 32 else b

-- what stands behind a key, with tabs read as spaces
abbrev pub value_of : List ℕ → List ℕ → List ℕ
value_of key line = map as_space (without_front (drop (length key) line))

abbrev pub is_word_there : List ℕ → Bool
is_word_there word = not (length word == 0)

-- the words between spaces
abbrev pub words : List ℕ → List (List ℕ)
words text = filter is_word_there (slice_split (λ b. b == 32) text)

-- the text of a whole label
abbrev pub IsTextOf : List ℕ → LabelParts → Type 0
IsTextOf word label = IsTrue (is_label label) × (word ≡ label_text label)

-- a text of 0 to 64 labels with spaces between
abbrev pub IsPathSetting : List ℕ → Setting → Type 0
IsPathSetting value Skipped = ⊥
IsPathSetting value (LabelPath labels) = IsTrue (is_utf8 value) × AllZip IsTextOf (words value) labels × (length labels ≤ 64)
IsPathSetting value (SystemFlavor flavor) = ⊥

-- the relaxed text of a flavor
abbrev pub IsRelaxedSetting : List ℕ → Setting → Type 0
IsRelaxedSetting value Skipped = ⊥
IsRelaxedSetting value (LabelPath labels) = ⊥
IsRelaxedSetting value (SystemFlavor flavor) = IsRelaxedText value flavor

abbrev pub IsFlavorSetting : List ℕ → Setting → Type 0
IsFlavorSetting value setting = IsTrue (is_utf8 value) × IsRelaxedSetting value setting

abbrev pub IsSkipped : Setting → Type 0
IsSkipped Skipped = Unit {0}
IsSkipped (LabelPath labels) = ⊥
IsSkipped (SystemFlavor flavor) = ⊥

-- A line whose first word is no key sets nothing.
abbrev pub IsSettingBy : Bool → Bool → List ℕ → Setting → Type 0
IsSettingBy true is_flavor line setting = IsPathSetting (value_of label_path line) setting
IsSettingBy false true line setting = IsFlavorSetting (value_of flavor_key line) setting
IsSettingBy false false line setting = IsSkipped setting

abbrev pub IsSetting : List ℕ → Setting → Type 0
IsSetting line setting = IsSettingBy (has_key label_path line) (has_key flavor_key line) line setting

-- ---- the configuration

-- no labels, and the empty flavor
abbrev pub no_config : Config
no_config = record { labels = []; flavor = no_parts }

-- the last line of a key counts
abbrev pub with_setting : Config → Setting → Config
with_setting config Skipped = config
with_setting config (LabelPath labels) = record { labels = labels; flavor = config.flavor }
with_setting config (SystemFlavor flavor) = record { labels = config.labels; flavor = flavor }

abbrev pub AreSettings : List (List ℕ) → List Setting → Type 0
AreSettings lines settings = AllZip (λ line setting. IsSetting (cleaned line) setting) lines settings

-- each of the lines sets something or nothing, and this is what they set
pub record IsConfigOf (lines : List (List ℕ)) (config : Config) : Type 0 where
  pub settings : List Setting
  pub are : AreSettings lines settings
  pub config_is : config ≡ fold with_setting no_config settings

-- behind so many lines there is one that is none of these
pub record IsFirstBad (lines : List (List ℕ)) (before : ℕ) : Type 0 where
  pub settings : List Setting
  pub are : AreSettings (take before lines) settings
  pub within : before < length lines
  pub bad : (setting : Setting) → IsSetting (cleaned (slice_index_or lines before [])) setting → ⊥

-- the number of the first bad line, counted from 1; or memory ran out
abbrev pub IsBadConfigOrMemory : List (List ℕ) → Fault → Type 0
IsBadConfigOrMemory lines (Refused refused) = (before : ℕ) × (refused ≡ refusal.BadConfig (before + 1)) × IsFirstBad lines before
IsBadConfigOrMemory lines Memory = Unit {0}
