-- What is known of troves that are to be sent, while they are gathered.
use Rattle.std.specs.Prelude.{◌≡◌, ℕ, List}
use Rattle.std.specs.BTreeSet.{BTreeSet, contains}
use Rattle.std.specs.Cmp.Lexicographic.{slice_cmp}
use Rattle.std.specs.List.{list_any}
use Rattle.std.specs.Ordering.{nat_cmp}
use Rattle.change_set.specs.trove-parts.declared.files.FileAt.{FileAt}
use Rattle.change_set.specs.trove-stream.FilesOf.{files_of}
use Rattle.repo_index.specs.Catalogue.{is_file_of}
use Rattle.repo_mirror.specs.Lengths.{set_length}
use Rattle.repo_mirror.specs.declared.sent.Sent.{Sent}

-- the names of the contents that these files have
abbrev pub AreNamesOf : List FileAt → BTreeSet (List ℕ) → Type 0
AreNamesOf files names = (name : List ℕ) → contains (slice_cmp nat_cmp) names name ≡ list_any (is_file_of name) files

-- the names of the contents of the troves, and the length of the stream
pub record IsSummed (sent : Sent) : Type 0 where
  pub names : AreNamesOf (files_of sent.troves.items) sent.names
  pub size : sent.size ≡ set_length sent.troves.items
