use Rattle.std.proofs.Common.{◌≡◌, length}
use denote.Text.{Utf8}
use denote.Shadow.{shadow}
use Rattle.cny_base.specs.Path.{are_parts}
use Rattle.cny_base.proofs.path_grammar.are_parts.Given as goal

abbrev pub invariant-parts : goal.invariant-parts
invariant-parts l = shadow (Utf8 l.rest) × (are_parts l.text ≡ are_parts l.rest)

abbrev pub decreases-parts : goal.decreases-parts
decreases-parts l = length l.rest
