-- Which paths are a pattern's.
use Rattle.std.specs.Prelude.{◌≡◌, ◌≢◌, ℕ, ◌<◌, Bool, ◌&&◌, List, ◌∷◌, ◌++◌, get_or, length, take, drop, Option, Some, None}
use Rattle.std.specs.List.{list_any}
use Rattle.std.specs.Str.{bytes_eq}
use Rattle.manifest_troves.specs.Policy.{ends_with}
use Rattle.cny_pack.specs.declared.pattern.Pattern.{Pattern}

abbrev pub HasNoStar : List ℕ → Type 0
HasNoStar bytes = (i : ℕ) → i < length bytes → get_or bytes i 0 ≢ 42

abbrev pub HasStar : List ℕ → Type 0
HasStar bytes = (before : List ℕ) × (after : List ℕ) × (bytes ≡ before ++ 42 ∷ after)

-- A text without a `*` is all of its pattern; else the pattern has what is before its only `*`, and what is behind it.
abbrev pub IsPatternOf : List ℕ → List ℕ → Option (List ℕ) → Type 0
IsPatternOf text before None = (before ≡ text) × HasNoStar text
IsPatternOf text before (Some after) = (text ≡ before ++ 42 ∷ after) × HasNoStar before × HasNoStar after

abbrev pub HasTwoStars : List ℕ → Type 0
HasTwoStars text = (before : List ℕ) × (between : List ℕ) × (after : List ℕ) × (text ≡ before ++ 42 ∷ (between ++ 42 ∷ after))

-- the text begins and ends so, with no byte in both
abbrev pub is_between : List ℕ → List ℕ → List ℕ → Bool
is_between before after text = bytes_eq (take (length before) text) before && ends_with after (drop (length before) text)

abbrev pub is_match_by : List ℕ → Option (List ℕ) → List ℕ → Bool
is_match_by before None path = bytes_eq before path
is_match_by before (Some after) path = is_between before after path

-- a pattern without a `*` is a path's; one with it is that of each path that has something, or nothing, in its place
abbrev pub is_match : Pattern → List ℕ → Bool
is_match pattern path = is_match_by pattern.before pattern.after path

abbrev pub is_any : List Pattern → List ℕ → Bool
is_any patterns path = list_any (λ pattern. is_match pattern path) patterns
