-- The next revision.
use Rattle.std.specs.Prelude.{ℕ, List, slice_index, Option, Some, None}
use Rattle.std.specs.Option.{option_and_then}
use Rattle.cny_version.specs.declared.revision.Revision.{Revision}
use Rattle.cny_version.specs.Made.{filled_up, next_count}

-- The count in question: the build count where one is wanted, else the source count.
abbrev pub count_in_question : Option (List ℕ) → Revision → Option (List ℕ)
count_in_question None r = Some r.source
count_in_question (Some wanted) r = r.build

-- that of the latest revision, where there is one
abbrev pub latest_count : Revision → Option Revision → Option (List ℕ)
latest_count wanted latest = option_and_then (count_in_question wanted.build) latest

-- the wanted revision with this count in question
abbrev pub with_count : Revision → Option (List ℕ) → List ℕ → Revision
with_count wanted None count = record { upstream = wanted.upstream; source = count; build = None }
with_count wanted (Some build) count = record { upstream = wanted.upstream; source = wanted.source; build = Some count }

-- The revision after the latest one: of the wanted one it keeps the upstream and, where a build count is wanted, the source count.
abbrev pub next_revision : Revision → ℕ → Option Revision → Revision
next_revision wanted depth latest = with_count wanted wanted.build (next_count depth (latest_count wanted latest))

-- the number that is to be raised
abbrev pub number_to_raise : ℕ → Option (List ℕ) → ℕ
number_to_raise depth None = 0
number_to_raise depth (Some latest) = slice_index (filled_up depth latest) depth
