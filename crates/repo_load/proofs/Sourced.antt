-- Why a search in a repository's contents stops.
use Rattle.std.proofs.Common.{ℕ, List, Option, Result, Err, sym, subst}
use Rattle.repo_index.specs.cny-base.declared.stop.Stop.{Stop}
use Rattle.repo_index.specs.cny-base.declared.stop.Stop.TheVariants.{Refused, Memory, Failed, Damaged, FarFailed, FarDamaged}
use Rattle.journal_log.specs.tree-disk.Disk.{DiskModel}
use Rattle.content_store.specs.Contents.{StopsFor}
use Rattle.content_store.specs.declared.contents.FarStop.{FarStop}
use Rattle.repo_load.specs.declared.repo_contents.RepoContents.{RepoContents}
use Rattle.repo_load.specs.Contents.{FindsContent, IsDamagedContent}
use Rattle.repo_load.proofs.ContentsLaws.{damaged_lacks}
use Rattle.repo_load.specs.Looks.{Looks}
use Rattle.repo_load.specs.RepoContents.{repo_contents, IsFarStop}

-- a call that stopped
abbrev stopped : Stop → Result (Option (List ℕ)) Stop
stopped e = Err e

-- the damage is that of the content of this name, which then has no answer
pub search_stops : {D : Type 0} {disk : DiskModel D} (old new : RepoContents D) (name : List ℕ) (stop : Stop) (far : FarStop)
    → Looks disk (FindsContent old.catalogue.now.troves name) (IsDamagedContent old.catalogue.now.troves name) old.disk.now new.disk.now (stopped stop)
    → IsFarStop stop far → StopsFor (repo_contents disk) old new name far
search_stops {disk = disk} old new name Failed far looks is = subst (StopsFor (repo_contents disk) old new name) (sym is) looks.ends
search_stops {disk = disk} old new name (Damaged path) far looks is = subst (StopsFor (repo_contents disk) old new name) (sym is) (λ tells. record {
  damaged = record { name = name; damaged = looks.ends tells };
  lacking = λ found answer. damaged_lacks old.catalogue.now.troves name (disk.reads old.disk.now) path (looks.ends tells) found (answer.stands tells);
})
search_stops {disk = disk} old new name Memory far looks is = subst (StopsFor (repo_contents disk) old new name) (sym is) tt
search_stops old new name (Refused refusal) far looks is = absurd is
search_stops old new name FarFailed far looks is = absurd is
search_stops old new name (FarDamaged path) far looks is = absurd is
