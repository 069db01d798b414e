-- The lines of the demo: two rounds, each of which commits the packages and the group and updates the root to it; then the second one is
-- taken back, and what stands is verified.
use Rattle.std.specs.Prelude.{ℕ, zero, suc, ◌+◌, ◌-◌, ◌*◌, nat_lt, ◌==◌, List, [], ◌∷◌, codes, if◌then◌else◌}
use Rattle.cny_batch.specs.declared.line.Line.{Line}
use Rattle.cny_batch.specs.Manifests.{group_manifest, package_manifest}

-- a command of one word, without an input or with one
abbrev pub plain_line : List ℕ → Line
plain_line word = record { words = word ∷ []; input = [] }

abbrev pub cook_line : List ℕ → Line
cook_line manifest = record { words = codes "cook" ∷ []; input = manifest }

-- the root is updated to the newest group
abbrev pub update_line : Line
update_line = record { words = codes "update" ∷ codes "group-demo=demo.example.com@ex:devel" ∷ []; input = [] }

-- the line of a round at a place
abbrev pub round_line : ℕ → ℕ → ℕ → Line
round_line packages round place =
    if nat_lt place packages then cook_line (package_manifest (place + 1) round)
    else if place == packages then cook_line (group_manifest packages round)
    else update_line

-- the line at a place, counted from 0
unfoldable pub line_at : ℕ → ℕ → Line
line_at packages place =
    if nat_lt place (packages + 2) then round_line packages 1 place
    else if nat_lt (place - (packages + 2)) (packages + 2) then round_line packages 2 (place - (packages + 2))
    else if place - (packages + 2) == packages + 2 then plain_line (codes "rollback")
    else plain_line (codes "verify")

abbrev pub line_count : ℕ → ℕ
line_count packages = 2 * packages + 6

-- so many lines from a place on
abbrev pub lines_from : ℕ → ℕ → ℕ → List Line
lines_from packages place zero = []
lines_from packages place (suc more) = line_at packages place ∷ lines_from packages (place + 1) more

-- THE LINES of the demo of so many packages.
abbrev pub demo_lines : ℕ → List Line
demo_lines packages = lines_from packages 0 (line_count packages)
