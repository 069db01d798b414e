-- Why a manifest isn't written.
use Rattle.std.specs.Prelude.{◌≡◌, ◌≢◌, ℕ, ◌≤◌, true, false, Bool, IsTrue, List, ◌∷◌, ◌++◌, map, All, Contains, Option, Some, None, codes}
use Rattle.std.specs.Borrow.{Bor}
use Rattle.std.specs.Cmp.Lexicographic.{slice_cmp}
use Rattle.std.specs.List.{list_any}
use Rattle.std.specs.List.Sorted.{IsStrictlySortedBy}
use Rattle.std.specs.Ordering.{nat_cmp}
use Rattle.std.specs.declared.cmp.Ordering.TheVariants.{Less}
use Rattle.tree_disk.specs.cny-base.Path.{root}
use Rattle.tree_disk.specs.Looks.{sees_link}
use Rattle.tree_disk.specs.Rows.{look_of}
use Rattle.tree_disk.specs.Tree.{Name, Tree, same_name}
use Rattle.tree_disk.specs.declared.disk.Look.{Look}
use Rattle.cny_dep.specs.declared.parts.Parts.{Parts}
use Rattle.cny_version.specs.Version.{WholeVersion}
use Rattle.manifest_troves.specs.cny-base.Name.{is_name, kind_of_name}
use Rattle.manifest_troves.specs.cny-stream.Owner.{OwnerNames}
use Rattle.manifest_troves.specs.trove-parts.declared.id.TroveId.{TroveId}
use Rattle.manifest_troves.specs.declared.lines.DepLine.{DepLine}
use Rattle.cny_manifest.specs.Body.{is_group_kind}
use Rattle.cny_manifest.specs.Grammar.{IsVersionField, IsFlavorField, IsLine}
use Rattle.cny_manifest.specs.Spelling.{Entry, IsEntry, IsOwnLine, name_line, version_line}
use Rattle.cny_pack.specs.Entries.{IsEntryOfSight}
use Rattle.cny_pack.specs.Head.{Says, SaysDep, HasLine}
use Rattle.cny_pack.specs.Judged.{IsJudged}
use Rattle.cny_pack.specs.Plan.{unfit_of}
use Rattle.cny_pack.specs.Walk.{stands}
use Rattle.cny_pack.specs.declared.head.DepWords.{DepWords}
use Rattle.cny_pack.specs.declared.head.Words.{Words}
use Rattle.cny_pack.specs.declared.pattern.Pattern.{Pattern}
use Rattle.cny_pack.specs.declared.plan.Rules.{Rules}
use Rattle.cny_pack.specs.declared.plan.Sight.{Sight}
use Rattle.cny_pack.specs.declared.stop.BadWord.{BadWord}
use Rattle.cny_pack.specs.declared.stop.BadWord.TheVariants as bad
use Rattle.cny_pack.specs.declared.stop.PackStop.{PackStop}
use Rattle.cny_pack.specs.declared.stop.PackStop.TheVariants as pack
use Rattle.cny_pack.specs.declared.stop.Unfit.{Unfit}
use Rattle.cny_pack.specs.declared.stop.Unfit.TheVariants as unfit

-- ---- which words a manifest may have

-- a name, no group's, and its line is one
pub record CanName (name : List ℕ) : Type 0 where
  pub named : IsTrue (is_name name)
  pub no_group : is_group_kind (kind_of_name name) ≡ false
  pub fits : IsLine (name_line name)

-- a text of a version, and its line is one
pub record CanVersion (text : List ℕ) : Type 0 where
  pub version : WholeVersion
  pub is : IsVersionField text version
  pub fits : IsLine (version_line text)

-- a text of a flavor that isn't empty, and its line is one
pub record CanFlavor (text : List ℕ) : Type 0 where
  pub parts : Parts
  pub is : IsFlavorField text parts
  pub fits : IsLine (codes "flavor " ++ text)

-- such a text, or none
abbrev pub CanFlavorPart : Option (Bor (List ℕ)) → Type 0
CanFlavorPart None = Unit {0}
CanFlavorPart (Some text) = CanFlavor text.now

-- a component of the manifest's own, and a text of a dependency
pub record CanOwn (whole : List ℕ) (words : DepWords) : Type 0 where
  pub line : DepLine
  pub says : SaysDep words line
  pub own : IsOwnLine whole line

-- the same, and its line is one
pub record CanDep (word whole : List ℕ) (words : DepWords) : Type 0 where
  pub line : DepLine
  pub says : SaysDep words line
  pub own : IsOwnLine whole line
  pub fits : HasLine word line

-- one of them can't be so
abbrev pub HasBadDep : List ℕ → List ℕ → List DepWords → Type 0
HasBadDep word whole given = (words : DepWords) × Contains given words × (CanDep word whole words → ⊥)

-- the name, the version and the flavor
pub record CanId (words : Words) : Type 0 where
  pub name : CanName words.name.now
  pub version : CanVersion words.version.now
  pub flavor : CanFlavorPart words.flavor

abbrev pub CanRequire : Words → DepWords → Type 0
CanRequire words one = CanDep (codes "requires") words.name.now one

abbrev pub CanProvide : Words → DepWords → Type 0
CanProvide words one = CanDep (codes "provides") words.name.now one

-- all that the words say can stand in a manifest
pub record AreGood (words : Words) : Type 0 where
  pub id : CanId words
  pub requires_ : All (CanRequire words) words.requires_.now
  pub provides : All (CanProvide words) words.provides.now

-- The word can't, and those before it in this order can.
abbrev pub IsFirstBad : Words → BadWord → Type 0
IsFirstBad words bad.Name = CanName words.name.now → ⊥
IsFirstBad words bad.Version = CanName words.name.now × (CanVersion words.version.now → ⊥)
IsFirstBad words bad.Flavor = CanName words.name.now × CanVersion words.version.now × (CanFlavorPart words.flavor → ⊥)
IsFirstBad words bad.Requires = CanId words × HasBadDep (codes "requires") words.name.now words.requires_.now
IsFirstBad words bad.Provides = CanId words × All (CanRequire words) words.requires_.now × HasBadDep (codes "provides") words.name.now words.provides.now

-- ---- what of a tree gets an entry

abbrev pub sight_path : Sight → Name
sight_path sight = sight.path

abbrev pub is_there : Name → List Sight → Bool
is_there p sights = list_any (λ sight. same_name p sight.path) sights

-- it stands there, isn't `/`, and can be in a manifest
pub record IsSightIn (t : Tree) (sight : Sight) : Type 0 where
  pub seen : sight.look ≡ look_of t sight.path
  pub here : stands t sight.path ≡ true
  pub not_root : sight.path ≢ root
  pub fits : unfit_of sight.path (look_of t sight.path) ≡ None

-- All that stands but `/`, in the order of paths: what can't be in a manifest isn't there where it is to be left out, and else there is
-- nothing such.
pub record AreSightsOf (skip : Bool) (t : Tree) (sights : List Sight) : Type 0 where
  pub each : All (IsSightIn t) sights
  pub rising : IsStrictlySortedBy (slice_cmp nat_cmp) (map sight_path sights)
  pub all : (p : Name) → stands t p ≡ true → p ≢ root → (IsTrue skip → unfit_of p (look_of t p) ≡ None) → is_there p sights ≡ true

-- At the least path at which something stands that can't be in a manifest stands this.
pub record IsFirstUnfit (t : Tree) (path : Name) (why : Unfit) : Type 0 where
  pub here : stands t path ≡ true
  pub not_root : path ≢ root
  pub why_is : unfit_of path (look_of t path) ≡ Some why
  pub first : (q : Name) → stands t q ≡ true → q ≢ root → slice_cmp nat_cmp q path ≡ Less → unfit_of q (look_of t q) ≡ None

-- ---- what is found while entries are written

-- Nobody may tell an owner of a directory or a file; or a file has another size than when it was looked at, which it never has on a disk
-- that tells its tree.
abbrev pub CannotEnter : (Name → Type 0) → Bool → Name → Look → Unfit → Type 0
CannotEnter lacks tells path look unfit.NoOwner = (sees_link look ≡ false) × lacks path
CannotEnter lacks tells path look unfit.Changed = IsTrue tells → ⊥
CannotEnter lacks tells path look _ = ⊥

-- there is an entry of it
abbrev pub HasEntry : (Name → OwnerNames → Type 0) → List Pattern → Bool → Tree → Sight → Type 0
HasEntry owns config tells t sight = (entry : Entry) × IsEntryOfSight owns config tells t sight entry × IsEntry true entry

-- what is at this path gets no entry, for this reason, and all before it got one
pub record IsFirstWithout (owns : Name → OwnerNames → Type 0) (lacks : Name → Type 0) (config : List Pattern) (tells : Bool) (t : Tree) (sights : List Sight) (path : Name) (why : Unfit) : Type 0 where
  pub done : List Sight
  pub sight : Sight
  pub rest : List Sight
  pub whole : done ++ sight ∷ rest ≡ sights
  pub path_is : path ≡ sight.path
  pub cannot : CannotEnter lacks tells sight.path sight.look why
  pub before : All (HasEntry owns config tells t) done

-- ---- the causes

module _ (owns : Name → OwnerNames → Type 0) (lacks : Name → Type 0) (rules : Rules) (tells : Bool) (t : Tree) where
  -- What the words say, and what of the tree gets an entry. They, and the path, are judged in this order.
  pub record IsMeant (words : Words) (id : TroveId) (requires_ provides : List DepLine) (sights : List Sight) : Type 0 where
    pub good : AreGood words
    pub says : Says words id requires_ provides
    pub are : IsTrue tells → AreSightsOf rules.skip t sights

  -- Something can't be in a manifest and isn't to be left out: on a disk that tells its tree what stands at the least such path.
  pub record IsRefused (words : Words) (path : Name) (why : Unfit) : Type 0 where
    pub good : AreGood words
    pub kept : rules.skip ≡ false
    pub look : Look
    pub why_is : unfit_of path look ≡ Some why
    pub first : IsTrue tells → IsFirstUnfit t path why

  -- The troves would break the rules of troves.
  pub record BreakRules (words : Words) : Type 0 where
    pub id : TroveId
    pub requires_ : List DepLine
    pub provides : List DepLine
    pub sights : List Sight
    pub meant : IsMeant words id requires_ provides sights
    pub broken : IsJudged id requires_ provides sights → ⊥

  -- All was judged, and writing came to a path of which no entry can be written.
  pub record IsCaught (words : Words) (path : Name) (why : Unfit) : Type 0 where
    pub id : TroveId
    pub requires_ : List DepLine
    pub provides : List DepLine
    pub sights : List Sight
    pub meant : IsMeant words id requires_ provides sights
    pub judged : IsJudged id requires_ provides sights
    pub first : IsFirstWithout owns lacks rules.config.now tells t sights path why

  abbrev pub IsUnfitAt : Words → Name → Unfit → Type 0
  IsUnfitAt words path unfit.Changed = IsCaught words path unfit.Changed
  IsUnfitAt words path unfit.NoOwner = IsCaught words path unfit.NoOwner
  IsUnfitAt words path why = IsRefused words path why

  -- The cause of each stop. A fault of the disk and one of the sink are counted; want of memory may come at any time.
  abbrev pub IsCause : Words → (disk sink : Type 0) → PackStop → Type 0
  IsCause words disk sink (pack.Word word) = IsFirstBad words word
  IsCause words disk sink (pack.Unfit path why) = IsUnfitAt words path why
  IsCause words disk sink pack.NoTroves = BreakRules words
  IsCause words disk sink pack.DiskFailed = disk
  IsCause words disk sink pack.SinkFailed = sink
  IsCause words disk sink pack.Memory = Unit {0}

-- ---- before anything is written

-- this holds where a word, what stands at a path when it is looked at, or the troves are refused
abbrev pub IfJudged : Type 0 → PackStop → Type 0
IfJudged P (pack.Word word) = P
IfJudged P (pack.Unfit path (unfit.TooLarge size)) = P
IfJudged P (pack.Unfit path unfit.Reserved) = P
IfJudged P pack.NoTroves = P
IfJudged P _ = Unit {0}

-- neither count of faults fell
pub record KeepsCounts (disk disk' sink sink' : ℕ) : Type 0 where
  pub disk_later : disk ≤ disk'
  pub sink_later : sink ≤ sink'
