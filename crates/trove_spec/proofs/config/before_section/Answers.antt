use Rattle.std.proofs.Common.{◌≡◌, ℕ, ◌+◌, ◌<◌, true, not, List, [], ◌∷◌, ◌++◌, length, take, drop, map, get_or, take_while, sym, ap, ◌∙◌, arith}
use Rattle.std.proofs.lemmas.List.{take_more, at_drop_more}
use Rattle.trove_spec.specs.Config.{is_before_section}
use Rattle.trove_spec.proofs.ConfigLines.{goes_on}
use Rattle.trove_spec.proofs.Borrowed.{none, now_of}
use Rattle.cny_version.proofs.cny-base.Lists.{map_push as map-push}
use Rattle.trove_spec.proofs.config.before_section.Goals as goal

pub loop-place-preserved : goal.loop-place-preserved
loop-place-preserved c =
    let pieces = c.args.pieces.now in
    let i = c.loop-place.place in
    let within : i < length pieces = omega arith in
    let piece = (get_or pieces i none).now in
    let before = map now_of (take i pieces) in
    let after = map now_of (drop (i + 1) pieces) in
    let passes : is_before_section piece ≡ true =
    sym c.begins_section.ensures ∙ ap not c.if-begins_section.false in
    let longer : map now_of (take (i + 1) pieces) ≡ before ++ piece ∷ [] = ap (map now_of) (take_more pieces i none within) ∙ map-push now_of (take i pieces) (get_or pieces i none) in
    ap (λ (l : List (List ℕ)). l ++ take_while is_before_section after) longer
    ∙ sym (goes_on is_before_section before after piece passes)
    ∙ ap (λ (l : List (List ℕ)). before ++ take_while is_before_section l) (sym (at_drop_more (map now_of) pieces i none within))
    ∙ c.loop-place.invariant
