use Rattle.std.proofs.Common.{List, ℕ, take, map, Bor}
use Rattle.trove_spec.specs.Config.{IsConfigOf}
use Rattle.trove_spec.proofs.OneConfig.{IsOnly}
use Rattle.trove_spec.proofs.config.config_of.Given as goal

abbrev pub invariant-loop-place : goal.invariant-loop-place
invariant-loop-place l = record {
  are : IsConfigOf (map (λ (line : Bor (List ℕ)). line.now) (take l.place l.lines)) l.config;
  only : IsOnly (map (λ (line : Bor (List ℕ)). line.now) (take l.place l.lines)) l.config;
}
