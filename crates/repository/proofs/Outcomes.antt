-- How a commit ends.
use Rattle.std.proofs.Common.{◌≡◌, ◌≢◌, inl, inr, ⊎_elim, ℕ, ◌+◌, Bool, IsTrue, List, [], ◌∷◌, ◌++◌, length, All, Option, Result, Ok, Err, IsErrAnd, refl, sym, ◌∙◌, ap, subst, arith, length-append}
use Rattle.std.specs.FinMap.{get}
use Rattle.repo_load.specs.cny-base.declared.stop.Stop.{Stop}
use Rattle.repo_load.specs.cny-base.declared.stop.Stop.TheVariants.{Refused, Memory, Failed, Damaged, FarFailed, FarDamaged}
use Rattle.repo_load.specs.trove-parts.declared.id.TroveId.{TroveId}
use Rattle.repo_load.specs.trove-stream.declared.parts.TroveParts.{TroveParts}
use Rattle.repo_load.specs.trove-stream.Trove.{IsTrove}
use Rattle.repo_load.specs.tree-disk.Tree.{Name, Tree}
use Rattle.repo_load.specs.tree-disk.Disk.{DiskModel, HasRead, IsDisk}
use Rattle.repo_load.specs.tree-disk.Confined.{AgreesExcept, IsUnsynced, IsUnsyncedOr, LeavesOnly}
use Rattle.repo_load.proofs.tree-disk.ConfinedLaws.{confined_read, leaves_then, leaves_weaker}
use Rattle.repo_load.specs.journal-log.Own.{gate}
use Rattle.tree_journal.specs.Recovery.{at_rest, is_committed, is_flag}
use Rattle.change_set.specs.declared.change.Carried.{Carried}
use Rattle.change_set.specs.declared.change.ChangeSet.{ChangeSet}
use Rattle.change_set.specs.declared.change.Part.{Part}
use Rattle.change_set.specs.ChangeSet.{HasContents}
use Rattle.repo_index.specs.Catalogue.{CatalogueParts}
use Rattle.repo_load.specs.Counts.{Counts, IsPreparedName}
use Rattle.repo_load.specs.Files.{repository_base, HoldsCatalogue, StoresRepository}
use Rattle.repo_load.specs.State.{catalogue_of, RepositoryState}
use Rattle.repo_load.specs.Steps.{catalogue_with, MayFollow}
use Rattle.repo_load.proofs.Following.{troves_push}
use Rattle.repo_load.proofs.HeldCatalogues.{rules_after}
use Rattle.repo_load.specs.Loading.{IsCatalogue}
use Rattle.repo_load.proofs.CountedNames.{counted_state, prepared_state}
use Rattle.repository.specs.Outcome.{committed_contents, AreSound, AtEveryMoment, CanBeRead, EndsSo, MayCommit, IsCommitDone, IsSyncedFor, MayBeAdded, CommitStopsSo, TestsChange}
use Rattle.tree_journal.specs.Preparing.{StopsBefore}
use Rattle.repository.specs.Preparing.{IsUntold, IsWrittenFrom, RecoversSo, WritesCommit}
use Rattle.repository.specs.Steps.{after_commit, catalogue_after, ids_of, IsCommitStep, RecoversToEitherRepository}
use Rattle.repository.specs.Tests.{Passes}
use Rattle.repository.proofs.Held.{held_is}
use Rattle.repository.proofs.Readable.{carried_read, nothing_read}
use Rattle.repository.proofs.States.{written_catalogue, written_state}
use Rattle.repository.proofs.Stepping.{may_follow}
use Rattle.repository.proofs.Applied.{stores_itself}

-- the catalogue of a repository that a tree stores
abbrev pub OneCatalogue : Type 0
OneCatalogue = (x : Tree) (r : RepositoryState) (c : CatalogueParts) → StoresRepository x r → HoldsCatalogue x c → c ≡ catalogue_of r.commits

-- the tests that passed over the tree, over the repository that it stores
passes_state : (x : Tree) (r : RepositoryState) (c : CatalogueParts) (change : ChangeSet) (troves : List TroveParts) → StoresRepository x r → c ≡ catalogue_of r.commits → Passes c (committed_contents c.troves x) change troves
    → Passes (catalogue_of r.commits) r.contents change troves
passes_state x r c change troves h is passes =
    subst (λ (held : List ℕ → Option (List ℕ)). Passes (catalogue_of r.commits) held change troves) (held_is x r h)
    (subst (λ (k : CatalogueParts). Passes k (committed_contents k.troves x) change troves) is passes)

-- ---- moments

module _ (one : OneCatalogue) (x : Tree) (r : RepositoryState) (c : CatalogueParts) (change : ChangeSet) (troves : List TroveParts) (h : StoresRepository x r) (holds : HoldsCatalogue x c)
    (has : HasContents change) (full : troves ≢ []) (passes : Passes c (committed_contents c.troves x) change troves) where
  is_catalogue : c ≡ catalogue_of r.commits
  is_catalogue = one x r c h holds

  over_state : Passes (catalogue_of r.commits) r.contents change troves
  over_state = passes_state x r c change troves h is_catalogue passes

  pub stored_after : (y : Tree) → IsWrittenFrom c change.contents troves x y → StoresRepository y (after_commit troves change.contents r)
  stored_after y written = written_state r change troves x y h has full over_state (subst (λ (k : CatalogueParts). IsWrittenFrom k change.contents troves x y) is_catalogue written)

  -- what differs at names that don't count stores the same, and what is written the repository after
  pub recovers_so : (names : Name → Type 0) → ((q : Name) → Counts r q → names q → ⊥) → (image : Tree) → RecoversSo names c change.contents troves x image → RecoversToEitherRepository r (after_commit troves change.contents r) image
  recovers_so names free image so = ⊎_elim
      (λ before. inl (record { tree = so.tree; recovers = so.recovers; stores = counted_state x so.tree r h (λ q counts. before q (free q counts)) }))
      (λ written. inr (record { tree = so.tree; recovers = so.recovers; stores = stored_after so.tree written }))
      so.is

  pub steps : IsCommitStep r change (after_commit troves change.contents r)
  steps = record { troves = troves; passes = over_state; is = refl }

  pub not_prepared : (q : Name) → Counts r q → IsPreparedName c q → ⊥
  not_prepared q counts prepared = prepared_state r q h.repository (subst (λ (k : CatalogueParts). IsPreparedName k q) is_catalogue prepared) counts

-- ---- a disk that was only read

module _ {D : Type 0} {disk : DiskModel D} (laws : IsDisk disk) where
  still_before : (c : CatalogueParts) (r next : RepositoryState) (d : D) → MayCommit disk c d → StoresRepository (disk.reads d) r → IsSyncedFor disk d r → (image : Tree) → AgreesExcept (IsUnsynced disk d) image (disk.reads d) → RecoversToEitherRepository r next image
  still_before c r next d rests h settled image agrees = inl (record {
    tree = image;
    recovers = at_rest (ap is_flag (agrees (gate repository_base) (λ un. absurd (cc (un, rests.flag_synced)))) ∙ rests.flag_clear) (stores_itself image);
    stores = counted_state (disk.reads d) image r h (λ q counts. agrees q (λ un. absurd (cc (un, settled q counts))));
  })

  -- nothing was changed, whichever other repository is named
  pub kept_moments : {Answer : Type 0} (c : CatalogueParts) (r next : RepositoryState) (old new : D) → MayCommit disk c old → HasRead disk old new Answer → StoresRepository (disk.reads old) r → IsSyncedFor disk old r
      → LeavesOnly disk old new (RecoversToEitherRepository r next) × RecoversToEitherRepository r next (disk.reads new)
  kept_moments c r next old new rests read h settled = (
    leaves_weaker (λ image differs. still_before c r next old rests h settled image (λ q out. differs.agrees q (λ where_. out (⊎_elim (λ was. was) (λ none. absurd none) where_))))
        (confined_read laws (λ q. ⊥) read).images,
    still_before c r next old rests h settled (disk.reads new) (λ q out. ap (λ (t : Tree). get t q) read.same.reads),
  )

  pub read_moments : {Answer : Type 0} {c : CatalogueParts} {old new : D} (change : ChangeSet) (r : RepositoryState) → MayCommit disk c old → HasRead disk old new Answer → AtEveryMoment disk change old new r
  read_moments {c = c} {old = old} {new = new} change r rests read h settled =
      let kept = kept_moments c r r old new rests read h settled in record { next = r; is = inl refl; images = kept.0; reads = kept.1 }

  -- the writes
  pub write_moments : (one : OneCatalogue) (c : CatalogueParts) (r : RepositoryState) (change : ChangeSet) (troves : List TroveParts) (old new : D) {result : Result (Unit {0}) Stop} → IsTrue disk.tells → MayCommit disk c old → HasContents change → troves ≢ []
      → Passes c (committed_contents c.troves (disk.reads old)) change troves → WritesCommit disk c change.contents troves old new result → StoresRepository (disk.reads old) r → IsSyncedFor disk old r
      → LeavesOnly disk old new (RecoversToEitherRepository r (after_commit troves change.contents r)) × RecoversToEitherRepository r (after_commit troves change.contents r) (disk.reads new)
  write_moments one c r change troves old new tells rests has full passes writes h settled = (
    leaves_weaker (recovers_so one (disk.reads old) r c change troves h rests.holds has full passes (IsUnsyncedOr disk old (IsPreparedName c))
        (λ q counts where_. ⊎_elim (λ un. absurd (cc (un, settled q counts))) (λ prepared. not_prepared one (disk.reads old) r c change troves h rests.holds has full passes q counts prepared) where_)) (writes.any_moment tells),
    recovers_so one (disk.reads old) r c change troves h rests.holds has full passes (IsPreparedName c)
        (not_prepared one (disk.reads old) r c change troves h rests.holds has full passes) (disk.reads new) (writes.stopped tells),
  )

-- ---- how it ends

module _ {D : Type 0} {disk : DiskModel D} (laws : IsDisk disk) (change : ChangeSet) (c : CatalogueParts) where
  pub rests_read : {A : Type 0} (k : CatalogueParts) (old new : D) → HasRead disk old new A → MayCommit disk k old → MayCommit disk k new
  rests_read k old new read rests = record {
    holds = subst (λ (t : Tree). HoldsCatalogue t k) (sym read.same.reads) rests.holds;
    flag_clear = ap (is_committed repository_base) read.same.reads ∙ rests.flag_clear;
    flag_synced = read.same.unsynced (gate repository_base) ∙ rests.flag_synced;
  }

  pub settled_read : {A : Type 0} (r : RepositoryState) (old new : D) → HasRead disk old new A → IsSyncedFor disk old r → IsSyncedFor disk new r
  settled_read r old new read settled q counts = read.same.unsynced q ∙ settled q counts

  after_none : (troves : List TroveParts) (r : RepositoryState) → troves ≡ [] → after_commit troves change.contents r ≡ r
  after_none [] r none = refl
  after_none (t ∷ troves) r none = absurd (cc none)

  catalogue_none : (troves : List TroveParts) → troves ≡ [] → c ≡ catalogue_after troves c
  catalogue_none [] none = refl
  catalogue_none (t ∷ troves) none = absurd (cc none)

  -- no troves
  pub done_nothing : {old new : D} (added : CatalogueParts) (ids : List TroveId) → IsTrue disk.tells → HasContents change → MayCommit disk c old → TestsChange disk change c old new (Ok added) → added.troves ≡ [] → ids ≡ ids_of added.troves → IsCommitDone disk change c c ids old new
  done_nothing {old = old} {new = new} added ids tells has rests tests none ids_are =
      let read = tests.same tells in record {
        troves = added.troves;
        passes = tests.ends tells;
        ids_are = ids_are;
        catalogue_is = catalogue_none added.troves none;
        rests = rests_read c old new read rests;
        contents = nothing_read c.troves change added.troves c.troves (disk.reads new) none has (tests.ends tells).made.make;
        stores = λ r h. subst (StoresRepository (disk.reads new)) (sym (after_none added.troves r none)) (subst (λ (t : Tree). StoresRepository t r) (sym read.same.reads) h);
        calm = λ q un. sym (read.same.unsynced q) ∙ un;
        settled = λ r h settled. subst (IsSyncedFor disk new) (sym (after_none added.troves r none)) (settled_read r old new read settled);
      }

  -- the writing stopped
  stops_write : (old new : D) (c' : CatalogueParts) (told : Bool) (a b : ℕ) (e : Stop) → IsTrue told → StopsBefore (IsUntold told) a b e → CommitStopsSo disk change c c' old new e
  stops_write old new c' told a b (Refused refusal) tells stops = absurd (stops tells)
  stops_write old new c' told a b (Damaged path) tells stops = absurd stops
  stops_write old new c' told a b Failed tells stops = tt
  stops_write old new c' told a b Memory tells stops = tt
  stops_write old new c' told a b FarFailed tells stops = stops
  stops_write old new c' told a b (FarDamaged path) tells stops = stops

  pub ends_write : {mid new : D} (old : D) (c' : CatalogueParts) {troves : List TroveParts} (e : Stop) (r : Result (List TroveId) Stop) → IsTrue disk.tells → WritesCommit disk c change.contents troves mid new (Err e) → IsErrAnd r (λ s. s ≡ e) → EndsSo disk change c c' old new r
  ends_write old c' e (Ok ids) tells writes is = absurd is
  ends_write {mid = mid} {new = new} old c' e (Err s) tells writes is =
      subst (λ x. EndsSo disk change c c' old new (Err x)) (sym is) (stops_write old new c' disk.tells (disk.faults mid) (disk.faults new) e tells writes.ends)

  pub after_some : (troves : List TroveParts) → troves ≢ [] → catalogue_with troves c ≡ catalogue_after troves c
  after_some [] full = absurd (full refl)
  after_some (t ∷ troves) full = refl

  -- the file is written
  pub done_write : (one : OneCatalogue) {old mid new : D} (c' added : CatalogueParts) (ids : List TroveId) → IsTrue disk.tells → HasContents change → MayCommit disk c old → TestsChange disk change c old mid (Ok added) → added.troves ≢ [] → AreSound change.contents c.troves (disk.reads old) → MayFollow c added.troves
      → ids ≡ ids_of added.troves → WritesCommit disk c change.contents added.troves mid new (Ok tt) → c' ≡ catalogue_with added.troves c → IsCommitDone disk change c c' ids old new
  done_write one {old = old} {mid = mid} {new = new} c' added ids tells has rests tests full sound follows ids_are writes is =
      let read = tests.same tells in
      let written : IsWrittenFrom c change.contents added.troves (disk.reads old) (disk.reads new) = subst (λ (t : Tree). IsWrittenFrom c change.contents added.troves t (disk.reads new)) read.same.reads (writes.ends tells) in
      record {
        troves = added.troves;
        passes = tests.ends tells;
        ids_are = ids_are;
        catalogue_is = is ∙ after_some added.troves full;
        rests = record {
          holds = subst (HoldsCatalogue (disk.reads new)) (sym is) (written_catalogue c change.contents added.troves (disk.reads old) (disk.reads new) rests.holds follows written);
          flag_clear = writes.flag_clear tells;
          flag_synced = writes.synced tells (gate repository_base);
        };
        contents = subst (λ (k : CatalogueParts). CanBeRead change.contents k.troves (disk.reads new)) (sym is) (carried_read c change added.troves (disk.reads old) (disk.reads new) full has (tests.ends tells) sound written);
        stores = λ r h. stored_after one (disk.reads old) r c change added.troves h rests.holds has full (tests.ends tells) (disk.reads new) written;
        calm = λ q un. absurd (cc (un, writes.synced tells q));
        settled = λ r h settled q counts. writes.synced tells q;
      }

  -- both runs, one after the other
  pub both_moments : (one : OneCatalogue) (r : RepositoryState) {old mid new : D} {added : CatalogueParts} {result : Result (Unit {0}) Stop} → IsTrue disk.tells → HasContents change → MayCommit disk c old → TestsChange disk change c old mid (Ok added) → added.troves ≢ []
      → WritesCommit disk c change.contents added.troves mid new result → AtEveryMoment disk change old new r
  both_moments one r {old = old} {mid = mid} {new = new} {added = added} tells has rests tests full writes h settled =
      let read = tests.same tells in
      let made = after_commit added.troves change.contents r in
      let first = kept_moments laws c r made old mid rests read h settled in
      let h_mid : StoresRepository (disk.reads mid) r = subst (λ (t : Tree). StoresRepository t r) (sym read.same.reads) h in
      let passes : Passes c (committed_contents c.troves (disk.reads mid)) change added.troves = subst (λ (t : Tree). Passes c (committed_contents c.troves t) change added.troves) (sym read.same.reads) (tests.ends tells) in
      let next = write_moments laws one c r change added.troves mid new tells (rests_read c old mid read rests) has full passes writes h_mid (settled_read r old mid read settled) in
      record {
        next = made;
        is = inr (steps one (disk.reads old) r c change added.troves h rests.holds has full (tests.ends tells));
        images = leaves_then first.0 next.0;
        reads = next.1;
      }

-- ---- the rules

pub rules_join : (c : CatalogueParts) (parts : List Part) (troves : List TroveParts) → troves ≢ [] → All IsTrove troves → MayBeAdded c parts troves → MayFollow c troves
rules_join c parts troves full are joins = may_follow c parts troves full are joins.made (joins.refs full) (let few = joins.few full in omega (arith, few))

pub rules_kept : (c c' : CatalogueParts) (troves : List TroveParts) → IsCatalogue c → MayFollow c troves → c' ≡ catalogue_with troves c → IsCatalogue c'
rules_kept c c' troves is follows made =
    let commits = is.commits in
    let long : length (commits ++ troves ∷ []) ≡ length commits + 1 = length-append commits (troves ∷ []) in record {
      commits = commits ++ troves ∷ [];
      rules = rules_after commits troves is.rules (subst (λ (k : CatalogueParts). MayFollow k troves) is.is follows);
      is = made ∙ ap (catalogue_with troves) is.is ∙ (λ i. record { commits = sym long i; troves = sym (troves_push commits troves) i });
    }

-- said of equal contents and troves
pub writes_as : {D : Type 0} {disk : DiskModel D} {c : CatalogueParts} {contents given : List Carried} {troves those : List TroveParts} {old new : D} {r : Result (Unit {0}) Stop} → given ≡ contents → those ≡ troves → WritesCommit disk c given those old new r
    → WritesCommit disk c contents troves old new r
writes_as {disk = disk} {c = c} {given = given} {troves = troves} {old = old} {new = new} {r = r} one two writes =
    subst (λ (l : List Carried). WritesCommit disk c l troves old new r) one (subst (λ (l : List TroveParts). WritesCommit disk c given l old new r) two writes)
