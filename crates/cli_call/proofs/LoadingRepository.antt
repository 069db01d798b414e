-- The repository, recovered and loaded.
use Rattle.std.proofs.Common.{◌≡◌, Bool, true, false, Result, Ok, Err, IfOk, IfErr, [], refl, sym, subst, inr, arith}
use Rattle.std.proofs.lemmas.List.Elements.{All-nil}
use Rattle.std.specs.Prelude.{IsTrue}
use Rattle.cny_laws.specs.system-core.cny-base.declared.stop.Stop.{Stop}
use Rattle.cny_laws.specs.system-core.cny-base.declared.stop.Stop.TheVariants as stop
use Rattle.cny_laws.specs.system-core.tree-disk.Tree.{Tree}
use Rattle.cny_laws.specs.system-core.tree-disk.Disk.{DiskModel, IsDisk, HasRead}
use Rattle.cny_laws.proofs.system-core.tree-disk.Moments.{rose_before}
use Rattle.repo_index.specs.Catalogue.{CatalogueParts, no_commits}
use Rattle.repo_load.specs.Damage.{IsDamagedCommit}
use Rattle.repo_load.specs.Files.{HoldsCatalogue}
use Rattle.repo_load.specs.Loading.{HoldsSomeCatalogue, IsCatalogue}
use Rattle.repo_load.specs.Looks.{Looks}
use Rattle.repo_load.specs.State.{AreCommits, HasRefs}
use Rattle.cny_laws.specs.Opening.{IsOpen, Opens, OpeningStops, no_test}
use Rattle.cny_laws.specs.system-core.tree-journal.Recovered.{RecoversAt, IsKept}
use Rattle.cli_call.proofs.StoreLaws.{nothing_done}
use Rattle.cny_laws.specs.Stores.{repository_store}
use Rattle.cli_call.proofs.OpeningDisks.{is_open, opens_loaded, recovered_on}

module _ {V P : Type 0} (IsRead : Tree → V → Type 0) {disk : DiskModel P} (laws : IsDisk disk) (old mid new : P) (recovers : RecoversAt disk repository_store.base old mid (Ok tt)) where
  value_open : (r : Result V Stop) → Looks disk IsRead IsDamagedCommit mid new r → IsTrue disk.tells → IfOk r (IsOpen repository_store disk no_test IsRead old new)
  value_open (Ok c) looks told =
      let read = looks.same told in
      is_open repository_store laws old old new c (nothing_done laws old) refl (recovered_on repository_store laws old mid new read (recovers.recovered told)) (kept_on read)
      (subst (λ (t : Tree). IsRead t c) (sym read.same.reads) (looks.ends told))
    where
      kept_on : HasRead disk mid new (Unit {0}) → IsKept repository_store.base (disk.reads old) (disk.reads new)
      kept_on read = subst (λ (t : Tree). IsKept repository_store.base (disk.reads old) t) (sym read.same.reads) (recovers.kept told)
  value_open (Err e) looks told = tt

  stops_loading : (r : Result V Stop) → Looks disk IsRead IsDamagedCommit mid new r → IfErr r (OpeningStops repository_store disk no_test old new)
  stops_loading (Ok c) looks = tt
  stops_loading (Err stop.Failed) looks = rose_before (disk.faults old) (disk.faults mid) (disk.faults new) recovers.later looks.ends
  stops_loading (Err stop.Memory) looks = tt
  stops_loading (Err (stop.Damaged path)) looks = λ told.
      let read = looks.same told in
      inr (record {
        flag_clear = (recovered_on repository_store laws old mid new read (recovers.recovered told)).flag_clear;
        damaged = subst (λ (t : Tree). IsDamagedCommit t path) (sym read.same.reads) (looks.ends told);
      })
  stops_loading (Err (stop.Refused r)) looks = absurd looks.ends
  stops_loading (Err stop.FarFailed) looks = absurd looks.ends
  stops_loading (Err (stop.FarDamaged path)) looks = absurd looks.ends

pub loaded_opens : {V P : Type 0} (IsRead : Tree → V → Type 0) {disk : DiskModel P} → IsDisk disk → (old mid new : P) (s : Result (Unit {0}) Stop) (u : Unit {0}) (r : Result V Stop) → s ≡ Ok u → RecoversAt disk repository_store.base old mid s → Looks disk IsRead IsDamagedCommit mid new r
    → Opens repository_store disk no_test IsRead old new r
loaded_opens IsRead {disk = disk} laws old mid new s u r is recovers looks =
    let done = subst (RecoversAt disk repository_store.base old mid) is recovers in
    opens_loaded repository_store laws old mid new r done looks.later looks.same (λ told. refl) (value_open IsRead laws old mid new done r looks) (stops_loading IsRead laws old mid new done r looks)

-- it wasn't opened, whatever would have been read
pub stopped_as : {V W P : Type 0} {IsRead : Tree → V → Type 0} (IsOther : Tree → W → Type 0) {disk : DiskModel P} (old new : P) (e : Stop) → Opens repository_store disk no_test IsRead old new (Err e) → Opens repository_store disk no_test IsOther old new (Err e)
stopped_as IsOther old new e opens = record {
  later = opens.later;
  images = opens.images;
  seen = opens.seen;
  opened = λ told. tt;
  kept = opens.kept;
  missing = opens.missing;
  untouched = opens.untouched;
  clear = opens.clear;
  stops = opens.stops;
}

-- a repository of which there is a catalogue, opened as if that had been read
pub record OpensSome {P : Type 0} (disk : DiskModel P) (old new : P) : Type 0 where
  pub catalogue : CatalogueParts
  pub opens : Opens repository_store disk no_test HoldsCatalogue old new (Ok catalogue)
  pub rules : IsCatalogue catalogue

pub none_rules : AreCommits []
none_rules = record { few = omega arith; following = tt; refs = All-nil (HasRefs []) }

abbrev OpensTested : {P : Type 0} → DiskModel P → P → P → Type 0
OpensTested disk old new = Opens repository_store disk no_test (λ tree (done : Unit {0}). HoldsSomeCatalogue tree) old new (Ok tt)

-- read as this catalogue, which the repository holds where it is told
opens_as : {P : Type 0} (disk : DiskModel P) (old new : P) (c : CatalogueParts) → (IsTrue disk.tells → HoldsCatalogue (disk.reads new) c) → IsCatalogue c → OpensTested disk old new → OpensSome disk old new
opens_as disk old new c holds rules opens = record {
  catalogue = c;
  opens = record {
    later = opens.later;
    images = opens.images;
    seen = opens.seen;
    opened = λ told. let is = opens.opened told in record { settled = is.settled; fixed = is.fixed; recovers = is.recovers; stores = is.stores; value_is = holds told };
    kept = opens.kept;
    missing = opens.missing;
    untouched = opens.untouched;
    clear = opens.clear;
    stops = tt;
  };
  rules = rules;
}

pub tested_opens : {P : Type 0} (disk : DiskModel P) (old new : P) → OpensTested disk old new → OpensSome disk old new
tested_opens disk old new opens = by disk.tells refl
  where
    by : (b : Bool) → disk.tells ≡ b → OpensSome disk old new
    by true is =
        let held = (opens.opened is).value_is in
        opens_as disk old new held.0 (λ other. held.1) (record { commits = held.1.commits; rules = held.1.rules; is = held.1.is }) opens
    by false is = opens_as disk old new no_commits (λ told. absurd (cc (is, told))) (record { commits = []; rules = none_rules; is = refl }) opens
