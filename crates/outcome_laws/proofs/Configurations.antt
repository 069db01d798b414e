-- A root has one configuration, or one refusal of it.
use Rattle.std.proofs.Common.{◌≡◌, ◌<◌, ◌+◌, ⊎_elim, ℕ, Bool, true, false, List, [], ◌∷◌, length, take, get_or, All, Result, Ok, Err, refl, sym, ap, ◌∙◌, subst, arith}
use Rattle.std.proofs.lemmas.Bool.{cases_lt}
use Rattle.std.proofs.lemmas.List.{get_or-take, length-take}
use Rattle.std.proofs.lemmas.List.Elements.{All-nil, All-cons}
use Rattle.std.specs.List.{fold}
use Rattle.conary_cli.specs.cli-call.cny-base.declared.refusal.Refusal.{Refusal}
use Rattle.conary_cli.specs.cli-call.cny-base.declared.refusal.Refusal.TheVariants as refusal
use Rattle.conary_cli.specs.cli-call.tree-disk.Tree.{Tree}
use Rattle.cny_dep.specs.declared.parts.Parts.{Parts}
use Rattle.cny_dep.specs.Spelling.{IsRelaxedText}
use Rattle.cny_dep.proofs.Plain.{relaxed_read}
use Rattle.trove_spec.specs.declared.config.Config.{Config}
use Rattle.trove_spec.specs.declared.config.Setting.{Setting}
use Rattle.trove_spec.specs.declared.config.Setting.TheVariants.{Skipped, LabelPath, SystemFlavor}
use Rattle.trove_spec.specs.Config.{cleaned, has_key, label_path, flavor_key, value_of, IsPathSetting, IsRelaxedSetting, IsSettingBy, IsSetting, AreSettings, no_config, with_setting, IsConfigOf, IsFirstBad, lines_of}
use Rattle.trove_spec.specs.RootConfig.{config_file, IsBadConfig, HasConfigIn, HasConfig}
use Rattle.trove_spec.proofs.OneConfig.{OneLabel, one_path}
use Rattle.outcome_laws.specs.OneOutcome.{AtMostOne}

-- ---- what a line sets

flavor_once : (text : List ℕ) (a b : Parts) → IsRelaxedText text a → IsRelaxedText text b → a ≡ b
flavor_once text a b h g = cc (sym (relaxed_read text a h) ∙ relaxed_read text b g)

relaxed_once : (text : List ℕ) → AtMostOne (IsRelaxedSetting text)
relaxed_once text Skipped b h g = absurd h
relaxed_once text (LabelPath labels) b h g = absurd h
relaxed_once text (SystemFlavor flavor) Skipped h g = absurd g
relaxed_once text (SystemFlavor flavor) (LabelPath labels) h g = absurd g
relaxed_once text (SystemFlavor flavor) (SystemFlavor other) h g = ap (λ (f : Parts). SystemFlavor f) (flavor_once text flavor other h g)

module _ (one : OneLabel) where
  path_once : (value : List ℕ) → AtMostOne (IsPathSetting value)
  path_once value Skipped b h g = absurd h
  path_once value (LabelPath labels) b h g = one_path one value labels b h.1 g
  path_once value (SystemFlavor flavor) b h g = absurd h

  setting_by : (is_path is_flavor : Bool) (line : List ℕ) → AtMostOne (IsSettingBy is_path is_flavor line)
  setting_by true is_flavor line a b h g = path_once (value_of label_path line) a b h g
  setting_by false true line a b h g = relaxed_once (value_of flavor_key line) a b h.1 g.1
  setting_by false false line Skipped Skipped h g = refl
  setting_by false false line Skipped (LabelPath labels) h g = absurd g
  setting_by false false line Skipped (SystemFlavor flavor) h g = absurd g
  setting_by false false line (LabelPath labels) b h g = absurd h
  setting_by false false line (SystemFlavor flavor) b h g = absurd h

  settings_once : (lines : List (List ℕ)) → AtMostOne (AreSettings lines)
  settings_once [] [] [] h g = refl
  settings_once [] [] (t ∷ b) h g = absurd g
  settings_once [] (s ∷ a) b h g = absurd h
  settings_once (line ∷ lines) [] b h g = absurd h
  settings_once (line ∷ lines) (s ∷ a) [] h g = absurd g
  settings_once (line ∷ lines) (s ∷ a) (t ∷ b) h g =
      let first = setting_by (has_key label_path (cleaned line)) (has_key flavor_key (cleaned line)) (cleaned line) s t h.0 g.0 in
      let rest = settings_once lines a b h.1 g.1 in
      λ i. first i ∷ rest i

  -- ---- the configuration

  config_once : (lines : List (List ℕ)) → AtMostOne (IsConfigOf lines)
  config_once lines a b h g = h.config_is ∙ ap (fold with_setting no_config) (settings_once lines h.settings g.settings h.are g.are) ∙ sym g.config_is

  -- each line has a setting
  paired : (lines : List (List ℕ)) (settings : List Setting) → AreSettings lines settings → All (λ (line : List ℕ). (s : Setting) × IsSetting (cleaned line) s) lines
  paired [] settings are = All-nil (λ (line : List ℕ). (s : Setting) × IsSetting (cleaned line) s)
  paired (line ∷ lines) [] are = absurd are
  paired (line ∷ lines) (s ∷ settings) are = All-cons (λ (line : List ℕ). (s : Setting) × IsSetting (cleaned line) s) line lines (s, are.0) (paired lines settings are.1)

  -- a line that sets something, or nothing, isn't bad
  sets_something : (lines : List (List ℕ)) (settings : List Setting) (k : ℕ) → AreSettings lines settings → k < length lines → (s : Setting) × IsSetting (cleaned (get_or lines k [])) s
  sets_something lines settings k are within = paired lines settings are k [] within

  never_bad : (lines : List (List ℕ)) (config : Config) (k : ℕ) → IsConfigOf lines config → IsFirstBad lines k → ⊥
  never_bad lines config k h bad = let some = sets_something lines h.settings k h.are bad.within in bad.bad some.0 some.1

  never_earlier : (lines : List (List ℕ)) (k n : ℕ) → IsFirstBad lines k → IsFirstBad lines n → k < n → ⊥
  never_earlier lines k n bad later less =
      let some = sets_something (take n lines) later.settings k later.are (omega (arith, length-take n lines, less, bad.within)) in
      bad.bad some.0 (subst (λ (line : List ℕ). IsSetting (cleaned line) some.0) (get_or-take n lines k [] less) some.1)

  bad_once : (lines : List (List ℕ)) → AtMostOne (IsBadConfig lines)
  bad_once lines a b h g = h.is ∙ ap (λ (n : ℕ). refusal.BadConfig (n + 1)) same ∙ sym g.is
    where
      same : h.before ≡ g.before
      same = ⊎_elim
          (λ less. absurd (never_earlier lines h.before g.before h.first g.first less))
          (λ most. ⊎_elim (λ less. absurd (never_earlier lines g.before h.before g.first h.first less)) (λ also. omega (arith, most, also)) (cases_lt g.before h.before))
          (cases_lt h.before g.before)

  by_file : (file : Result (List ℕ) Refusal) → AtMostOne (HasConfigIn file)
  by_file (Ok bytes) (Ok a) (Ok b) h g = let same = config_once (lines_of bytes) a b h g in λ i. Ok (same i)
  by_file (Ok bytes) (Ok a) (Err q) h g = absurd (never_bad (lines_of bytes) a g.before h g.first)
  by_file (Ok bytes) (Err p) (Ok b) h g = absurd (never_bad (lines_of bytes) b h.before g h.first)
  by_file (Ok bytes) (Err p) (Err q) h g = let same = bad_once (lines_of bytes) p q h g in λ i. Err (same i)
  by_file (Err large) (Ok a) b h g = absurd h
  by_file (Err large) (Err p) (Ok b) h g = absurd g
  by_file (Err large) (Err p) (Err q) h g = let same : p ≡ q = h ∙ sym g in λ i. Err (same i)

  pub configured_once : (tree : Tree) → AtMostOne (HasConfig tree)
  configured_once tree = by_file (config_file tree)
