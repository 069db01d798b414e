use Rattle.std.proofs.Common.{◌≡◌, ◌++◌, List, ℕ, take, drop, map, take_while, Bor}
use Rattle.trove_spec.specs.Config.{is_before_section}
use Rattle.trove_spec.proofs.config.before_section.Given as goal

abbrev pub invariant-loop-place : goal.invariant-loop-place
invariant-loop-place l =
    map (λ (line : Bor (List ℕ)). line.now) (take l.place l.pieces) ++ take_while is_before_section (map (λ (line : Bor (List ℕ)). line.now) (drop l.place l.pieces))
    ≡ take_while is_before_section (map (λ (line : Bor (List ℕ)). line.now) l.pieces)
