-- Relative troves and their rules.
use Rattle.std.specs.Prelude.{◌≡◌, ◌≢◌, ℕ, List}
use Rattle.cny_dep.specs.Dep.{Dependency}
use Rattle.trove_parts.specs.declared.id.TroveId.{TroveId}
use Rattle.trove_parts.specs.Id.{IsTroveId}
use Rattle.trove_parts.specs.declared.files.FileAt.{FileAt}
use Rattle.trove_parts.specs.Files.{AreFiles, path_of}
use Rattle.trove_parts.specs.Paths.{ArePaths}
use Rattle.trove_parts.specs.Refs.{AreRefs}
use Rattle.trove_parts.specs.Deps.{AreDeps}
use Rattle.trove_stream.specs.declared.rel.RelParts.{RelParts}
use Rattle.trove_stream.specs.Disjoint.{AreDisjoint}

-- a path is that of a file
abbrev pub IsPathOf : List ℕ → FileAt → Type 0
IsPathOf path file = path ≡ path_of file

abbrev pub IsSameId : TroveId → TroveId → Type 0
IsSameId one other = one ≡ other

abbrev pub IsSameDep : Dependency → Dependency → Type 0
IsSameDep one other = one ≡ other

-- each part is valid by itself: two ids, and eight strictly rising lists
pub record AreParts (rel : RelParts) : Type 0 where
  pub old : IsTroveId rel.old
  pub fresh : IsTroveId rel.fresh
  pub paths_gone : ArePaths rel.paths_gone
  pub files_set : AreFiles rel.files_set
  pub refs_gone : AreRefs rel.refs_gone
  pub refs_added : AreRefs rel.refs_added
  pub requires_gone : AreDeps rel.requires_gone
  pub requires_added : AreDeps rel.requires_added
  pub provides_gone : AreDeps rel.provides_gone
  pub provides_added : AreDeps rel.provides_added

-- The parts go together: one name and two ids, no path both gone and set, no element both gone and added.
pub record GoTogether (rel : RelParts) : Type 0 where
  pub one_name : rel.old.name ≡ rel.fresh.name
  pub two_ids : rel.old ≢ rel.fresh
  pub paths : AreDisjoint IsPathOf rel.paths_gone rel.files_set
  pub refs : AreDisjoint IsSameId rel.refs_gone rel.refs_added
  pub required : AreDisjoint IsSameDep rel.requires_gone rel.requires_added
  pub provided : AreDisjoint IsSameDep rel.provides_gone rel.provides_added

-- the parts of a relative trove
pub record IsRel (rel : RelParts) : Type 0 where
  pub parts : AreParts rel
  pub together : GoTogether rel
