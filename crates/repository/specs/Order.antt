-- The first test of a commit that stops it, where files of committed contents may be damaged.
use Rattle.std.specs.Prelude.{◌≡◌, ◌⊎◌, if◌then◌else◌, List, [], ◌∷◌, ◌++◌, Option, Some, None, Result, Ok, Err, ℕ}
use Rattle.std.specs.Option.{option_or}
use Rattle.repo_load.specs.cny-base.declared.refusal.Refusal.{Refusal}
use Rattle.repo_load.specs.cny-base.declared.stop.Stop.{Stop}
use Rattle.repo_load.specs.cny-base.declared.stop.Stop.TheVariants.{Refused, Memory, Failed, Damaged, FarFailed, FarDamaged}
use Rattle.repo_load.specs.trove-stream.declared.parts.TroveParts.{TroveParts}
use Rattle.repo_load.specs.tree-disk.Tree.{Tree}
use Rattle.change_set.specs.declared.change.Carried.{Carried}
use Rattle.change_set.specs.declared.change.ChangeSet.{ChangeSet}
use Rattle.repo_load.specs.content-store.Store.{content_path}
use Rattle.repo_index.specs.Catalogue.{CatalogueParts, has_content}
use Rattle.repo_load.specs.Files.{contents_dir}
use Rattle.repository.specs.Outcome.{committed_contents}
use Rattle.repository.specs.Parts.{IsFirstRefused}
use Rattle.repository.specs.Tests.{collides, missing_content, missing_ref, refs_of, too_many, FailsLater}
use Rattle.change_rel.specs.trove-stream.FilesOf.{files_of}

-- a refusal, as why a call stops
abbrev pub refusing : Option Refusal → Option Stop
refusing None = None
refusing (Some refusal) = Some (Refused refusal)

-- Of a content whose name troves record: its file is damaged where no recorded bytes stand there, and else what is carried may
-- differ from them.
abbrev pub kept_stop : Option (List ℕ) → Carried → Option Stop
kept_stop None content = Some (Damaged (content_path contents_dir content.name))
kept_stop (Some bytes) content = refusing (collides (Some bytes) content)

-- why a carried content stops a commit
abbrev pub source_stop : List TroveParts → Tree → Carried → Option Stop
source_stop troves tree content = if has_content content.name troves then kept_stop (committed_contents troves tree content.name) content else None

-- the first one that does
abbrev pub sources_stop : List TroveParts → Tree → List Carried → Option Stop
sources_stop troves tree [] = None
sources_stop troves tree (content ∷ contents) = option_or (source_stop troves tree content) (sources_stop troves tree contents)

-- The first of these tests that stops a commit of some troves: of references, of contents that are missing, of committed
-- contents that are damaged or differ, and of the number of commits. With no troves nothing is tested.
abbrev pub later_stop : CatalogueParts → Tree → List Carried → List TroveParts → Option Stop
later_stop c tree contents [] = None
later_stop c tree contents (trove ∷ troves) =
    option_or (refusing (missing_ref (c.troves ++ trove ∷ troves) (refs_of (trove ∷ troves))))
    (option_or (refusing (missing_content c.troves contents (files_of (trove ∷ troves))))
    (option_or (sources_stop c.troves tree contents) (refusing (too_many c.commits))))

-- the answer of tests: none of them stops; or this one does; or a fault, or want of memory
abbrev pub StopsAs : {X : Type 0} → Option Stop → Result X Stop → Type 0
StopsAs stop (Ok x) = stop ≡ None
StopsAs stop (Err (Refused refusal)) = stop ≡ Some (Refused refusal)
StopsAs stop (Err (Damaged path)) = stop ≡ Some (Damaged path)
StopsAs stop (Err Failed) = Unit {0}
StopsAs stop (Err Memory) = Unit {0}
StopsAs stop (Err FarFailed) = Unit {0}
StopsAs stop (Err (FarDamaged path)) = Unit {0}

-- what the first of the later tests that fails stops with
abbrev pub IsLaterStop : CatalogueParts → Tree → ChangeSet → Stop → Type 0
IsLaterStop c tree change stop = FailsLater (later_stop c tree change.contents) c change stop

-- A refusal, or a damaged file, is that of the first test that fails: of the parts, or of the later ones.
abbrev pub IsFirstStop : CatalogueParts → Tree → ChangeSet → Stop → Type 0
IsFirstStop c tree change (Refused refusal) = IsFirstRefused c.troves change.parts refusal ⊎ IsLaterStop c tree change (Refused refusal)
IsFirstStop c tree change (Damaged path) = IsLaterStop c tree change (Damaged path)
IsFirstStop c tree change Failed = Unit {0}
IsFirstStop c tree change Memory = Unit {0}
IsFirstStop c tree change FarFailed = Unit {0}
IsFirstStop c tree change (FarDamaged path) = Unit {0}
