use Rattle.std.proofs.Common.{◌≡◌, ℕ, List, map, Bor, ap, subst, ◌∙◌}
use Rattle.std.specs.Prelude.{IfOk}
use Rattle.std.specs.List.{take_while}
use Rattle.trove_spec.specs.declared.config.Config.{Config}
use Rattle.trove_spec.specs.Config.{lines_of, is_before_section, IsConfigOf}
use Rattle.trove_spec.proofs.config.Config.read.Goals as goal

pub returns-clause-only : goal.returns-clause-only
returns-clause-only c =
    let lines : map (λ (line : Bor (List ℕ)). line.now) c.before_section.result.now ≡ lines_of c.args.bytes.now =
    c.before_section.ensures.lines
    ∙ ap (λ (l : List (Bor (List ℕ))). take_while is_before_section (map (λ (line : Bor (List ℕ)). line.now) l)) c.as_slice.ensures.value
    ∙ ap (take_while is_before_section) c.in_ok-pieces.ensures.pieces in
    subst (λ (l : List (List ℕ)). IfOk c.config_of.result (λ config. (other : Config) → IsConfigOf l other → config ≡ other)) lines c.config_of.ensures.only
