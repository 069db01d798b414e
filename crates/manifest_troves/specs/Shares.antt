-- What falls to each component of a package, as its lines are taken.
use Rattle.std.specs.Prelude.{ℕ, Bool, List, [], ◌∷◌, ◌++◌, Option, Some, None, if◌then◌else◌}
use Rattle.std.specs.BTreeMap.{BTreeMap, get}
use Rattle.std.specs.Cmp.Lexicographic.{slice_cmp}
use Rattle.std.specs.List.{fold}
use Rattle.std.specs.Ordering.{nat_cmp}
use Rattle.std.specs.Option.{unwrap_or}
use Rattle.cny_dep.specs.Dep.{Dependency}
use Rattle.change_set.specs.trove-parts.declared.id.TroveId.{TroveId}
use Rattle.change_set.specs.trove-parts.declared.files.FileAt.{FileAt}
use Rattle.change_set.specs.trove-stream.declared.parts.TroveParts.{TroveParts}
use Rattle.manifest_troves.specs.declared.lines.DepLine.{DepLine}
use Rattle.manifest_troves.specs.declared.lines.DepKind.{DepKind}
use Rattle.manifest_troves.specs.declared.lines.DepKind.TheVariants.{Requires, Provides}
use Rattle.manifest_troves.specs.declared.lines.Added.{Added}
use Rattle.manifest_troves.specs.declared.lines.Added.TheVariants as added
use Rattle.manifest_troves.specs.Troves.{with_name, falls_to, is_of}

-- entries, and what is required and provided
pub record Shared : Type 0 where
  pub files : List FileAt
  pub requires_ : List Dependency
  pub provides : List Dependency

abbrev pub no_share : Shared
no_share = record { files = []; requires_ = []; provides = [] }

abbrev pub plus_file : Shared → FileAt → Shared
plus_file s file = record { files = s.files ++ file ∷ []; requires_ = s.requires_; provides = s.provides }

abbrev pub plus_dep : DepKind → Shared → Dependency → Shared
plus_dep Requires s dep = record { files = s.files; requires_ = s.requires_ ++ dep ∷ []; provides = s.provides }
plus_dep Provides s dep = record { files = s.files; requires_ = s.requires_; provides = s.provides ++ dep ∷ [] }

abbrev pub plus : Shared → Added → Shared
plus s (added.File file) = plus_file s file
plus s (added.Dep kind dep) = plus_dep kind s dep

-- what is kept by this name
abbrev pub share_at : BTreeMap (List ℕ) Shared → List ℕ → Option Shared
share_at shares name = get (slice_cmp nat_cmp) shares name

-- one more in the share, where it is the one; a share that isn't there is made
abbrev pub plus_if : {A : Type 0} → (Shared → A → Shared) → Bool → A → Option Shared → Option Shared
plus_if plus is x share = if is then Some (plus (unwrap_or share no_share) x) else share

-- ---- the share of one name, after the lines are taken

abbrev pub with_files : List ℕ → List ℕ → Option Shared → List FileAt → Option Shared
with_files whole name share files = fold (λ share file. plus_if plus_file (falls_to whole name file) file share) share files

abbrev pub with_deps : DepKind → List ℕ → Option Shared → List DepLine → Option Shared
with_deps kind name share lines = fold (λ share line. plus_if (plus_dep kind) (is_of name line) line.dep share) share lines

abbrev pub share_of : List ℕ → List FileAt → List DepLine → List DepLine → List ℕ → Option Shared
share_of whole files requires_ provides name = with_deps Provides name (with_deps Requires name (with_files whole name None files) requires_) provides

-- ---- a component of a share

abbrev pub trove_of : TroveId → Shared → TroveParts
trove_of id s = record { id = id; files = s.files; refs = []; requires_ = s.requires_; provides = s.provides }

-- the component of this name with this share
abbrev pub named_trove : TroveId → List ℕ × Shared → TroveParts
named_trove id entry = trove_of (with_name id entry.0) entry.1
