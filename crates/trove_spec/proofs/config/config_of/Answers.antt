use Rattle.std.proofs.Common.{◌≡◌, ℕ, ◌+◌, ◌<◌, ◌≤◌, List, [], ◌∷◌, ◌++◌, length, take, map, get_or, Bor, Err, refl, sym, ap, subst, ◌∙◌, arith}
use Rattle.std.proofs.lemmas.List.{take_more, take_all}
use Rattle.trove_spec.specs.declared.config.Config.{Config}
use Rattle.trove_spec.specs.Config.{cleaned, IsSetting, IsConfigOf, IsBadConfigOrMemory}
use Rattle.trove_spec.proofs.ConfigLines.{take-map, get_or-map, config_more, first_bad}
use Rattle.trove_spec.proofs.OneConfig.{IsOnly, only_none, only_more}
use Rattle.trove_spec.proofs.Borrowed.{none, now_of}
use Rattle.cny_version.proofs.cny-base.Lists.{length-map, map_push as map-push}
use Rattle.trove_spec.proofs.config.config_of.Goals as goal

pub returns-in-Err-Bad-clause-fault : goal.returns-in-Err-Bad-clause-fault
returns-in-Err-Bad-clause-fault c =
    let lines = c.args.lines.now in
    let i = c.loop-place.place in
    let within : i < length lines = omega arith in
    let all = map now_of lines in
    let line : get_or all i [] ≡ (get_or lines i none).now = get_or-map now_of lines i none [] within in
    let there : i < length all = omega (arith, length-map now_of lines) in
    subst (IsBadConfigOrMemory all) (sym c.bad_line.ensures) (
      i,
      refl,
      first_bad all i c.loop-place.config (subst (λ (l : List (List ℕ)). IsConfigOf l c.loop-place.config) (sym (take-map now_of i lines)) c.loop-place.invariant.are) there
          (λ setting is. c.in-Err-Bad.ensures.bad (ap Err c.in-Err-Bad.field-0-is) setting (subst (λ (l : List ℕ). IsSetting l setting) (ap cleaned line ∙ sym c.trimmed.ensures) is)),
    )

pub loop-place-preserved : goal.loop-place-preserved
loop-place-preserved c =
    let lines = c.args.lines.now in
    let i = c.loop-place.place in
    let within : i < length lines = omega arith in
    let line = get_or lines i none in
    let before = map now_of (take i lines) in
    let longer : map now_of (take (i + 1) lines) ≡ before ++ line.now ∷ [] = ap (map now_of) (take_more lines i none within) ∙ map-push now_of (take i lines) line in
    let one : IsSetting (cleaned line.now) c.in-Ok.setting = subst (λ (l : List ℕ). IsSetting l c.in-Ok.setting) c.trimmed.ensures c.in-Ok.ensures.found in
    record {
      are = subst (λ (l : List (List ℕ)). IsConfigOf l c.put.new.config) (sym longer)
          (subst (λ (config : Config). IsConfigOf (before ++ line.now ∷ []) config) (sym c.put.ensures) (config_more before line.now c.loop-place.config c.in-Ok.setting c.loop-place.invariant.are one));
      only = subst (λ (l : List (List ℕ)). IsOnly l c.put.new.config) (sym longer)
          (subst (λ (config : Config). IsOnly (before ++ line.now ∷ []) config) (sym c.put.ensures)
          (only_more before line.now c.loop-place.config c.in-Ok.setting c.loop-place.invariant.only
          (λ s is. c.in-Ok.ensures.only s (subst (λ (l : List ℕ). IsSetting l s) (sym c.trimmed.ensures) is))));
    }

pub loop-place-init : goal.loop-place-init
loop-place-init c = record {
  are = record { settings = []; are = tt; config_is = c.in_ok-config.ensures };
  only = subst (IsOnly []) (sym c.in_ok-config.ensures) only_none;
}

pub returns-clause-only : goal.returns-clause-only
returns-clause-only c =
    let lines = c.args.lines.now in
    let ended : length lines ≤ c.loop-place.place = omega arith in
    subst (λ (l : List (Bor (List ℕ))). IsOnly (map now_of l) c.loop-place.config) (take_all c.loop-place.place lines ended) c.loop-place.invariant.only
