-- Refusals as texts, without `conary: ` and without a line feed.
use Rattle.std.specs.Prelude.{ℕ, List, ◌++◌, codes}
use Rattle.std.specs.Fmt.{decimal}
use Rattle.hex.specs.Hex.{encode_lower}
use Rattle.update_job.specs.cny-base.declared.refusal.Refusal.{Refusal}
use Rattle.update_job.specs.cny-base.declared.refusal.Refusal.TheVariants as refusal
use Rattle.update_job.specs.cny-base.declared.refusal.What.{What}
use Rattle.update_job.specs.cny-base.declared.refusal.What.TheVariants as what

-- the quantity in words
abbrev pub what_text : What → List ℕ
what_text what.Input = codes "input"
what_text what.Content = codes "content"
what_text what.Local = codes "local"
what_text what.Database = codes "database"
what_text what.Config = codes "config"
what_text what.Commits = codes "commits"
what_text what.Count = codes "count"
what_text what.Version = codes "version"
what_text what.ChangeSet = codes "change set"
what_text what.Jobs = codes "jobs"
what_text what.Message = codes "message"
what_text what.Model = codes "model"

-- what was refused: the words that name it, then what it concerns
abbrev pub refusal_text : Refusal → List ℕ
refusal_text (refusal.Malformed at) = codes "malformed at " ++ decimal at
refusal_text (refusal.TooLarge w size) = codes "too large: " ++ what_text w ++ codes " " ++ decimal size
refusal_text (refusal.Exists trove) = codes "exists " ++ trove
refusal_text (refusal.MissingTrove spec) = codes "missing trove " ++ spec
refusal_text (refusal.MissingBase trove) = codes "missing base " ++ trove
refusal_text (refusal.MissingContent name) = codes "missing content " ++ encode_lower name
refusal_text (refusal.Collision name at) = codes "collision " ++ encode_lower name ++ codes " at " ++ decimal at
refusal_text (refusal.MissingRef name) = codes "missing ref " ++ name
refusal_text (refusal.NotInstalled name) = codes "not installed " ++ name
refusal_text (refusal.Unmet name dep) = codes "unmet " ++ name ++ codes " " ++ dep
refusal_text (refusal.Owned path first second) = codes "owned " ++ path ++ codes " " ++ first ++ codes " " ++ second
refusal_text (refusal.Unowned path) = codes "unowned " ++ path
refusal_text (refusal.Edited path) = codes "edited " ++ path
refusal_text (refusal.Parent path) = codes "parent " ++ path
refusal_text refusal.StackEmpty = codes "stack empty"
refusal_text (refusal.Reserved path) = codes "reserved " ++ path
refusal_text refusal.NoLabel = codes "no label"
refusal_text (refusal.SameLabel label) = codes "same label " ++ label
refusal_text (refusal.BadConfig n) = codes "bad config line " ++ decimal n
refusal_text (refusal.NoJob n) = codes "no job r." ++ decimal n
refusal_text refusal.NoModel = codes "no model"
refusal_text (refusal.BadModel n) = codes "bad model line " ++ decimal n
