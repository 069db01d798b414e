-- How `changeset` ends.
use Rattle.std.proofs.Common.{◌≡◌, ℕ, List, All, Option, Some, Result, Ok, Err, refl, sym, ap, ◌∙◌, inl, inr, subst, arith}
use Rattle.std.proofs.lemmas.List.Elements.{All-contains}
use Rattle.std.specs.Prelude.{IsTrue, OnOk}
use Rattle.cli_call.specs.cny-base.declared.refusal.Fault.{Fault}
use Rattle.cli_call.specs.cny-base.declared.refusal.Refusal.{Refusal}
use Rattle.cli_call.specs.cny-base.declared.stop.Stop.{Stop}
use Rattle.cli_call.specs.cny-base.declared.stop.Stop.TheVariants as stop
use Rattle.cli_call.specs.tree-disk.Tree.{Name, Tree}
use Rattle.cli_call.specs.content-store.Contents.{ContentMap}
use Rattle.cli_call.specs.content-store.Store.{stored}
use Rattle.cli_call.specs.tree-disk.Confined.{LeavesOnly}
use Rattle.cli_call.specs.tree-disk.Disk.{DiskModel, HasRead, IsDisk}
use Rattle.cli_call.specs.tree-journal.Recovery.{is_committed}
use Rattle.cli_call.specs.trove-stream.declared.parts.TroveParts.{TroveParts}
use Rattle.trove_spec.specs.declared.config.Config.{Config}
use Rattle.cli_call.specs.change-set.declared.change.Carried.{Carried}
use Rattle.cli_call.specs.change-set.declared.change.ChangeSet.{ChangeSet}
use Rattle.repo_index.specs.Catalogue.{AreCommitted, CatalogueParts}
use Rattle.repo_load.specs.Contents.{FindsContent}
use Rattle.repo_load.specs.Files.{contents_dir, HoldsCatalogue, StoresRepository}
use Rattle.repo_load.specs.State.{records_content, troves_of, RepositoryState}
use Rattle.repository.specs.Between.{carried_name, HasStored, IsSoundContent, LeadsBetween}
use Rattle.repository.specs.Damage.{IsDamagedBetween}
use Rattle.trove_spec.specs.RootConfig.{HasConfig, ReadsConfig}
use Rattle.cli_call.specs.cny-laws.declared.failure.Failure.{Failure}
use Rattle.cli_call.specs.cny-laws.declared.failure.Failure.TheVariants as failure
use Rattle.cli_call.specs.cny-laws.Call.{HasOpened, HasWholeContents, HoldsOpened, IsHeldOf}
use Rattle.cli_call.specs.Alone.{AnswersByContents}
use Rattle.cli_call.specs.cny-laws.declared.opened.Opened.{Opened}
use Rattle.cli_call.specs.Command.{disks, AreReady, Performs, StandsFor}
use Rattle.cli_call.proofs.CommandLaws.{AreRead, performs_reading}
use Rattle.cli_call.specs.cny-laws.Failures.{failure_of_fault}
use Rattle.cli_call.proofs.RootLaws.{root_laws}
use Rattle.cli_call.specs.cny-laws.State.{nothing, tree_of, Effect, State}
use Rattle.cli_call.specs.cny-laws.Stops.{repository_result}
use Rattle.cli_call.specs.cny-laws.Store.{HasDamagedFile, IsStore}
use Rattle.cli_call.specs.cny-laws.Stores.{HasUnsoundContent, repository_store}
use Rattle.trove_spec.specs.declared.given.GivenSpec.{GivenSpec}
use Rattle.trove_spec.specs.AndThen.{AndThen, EndsAs}
use Rattle.trove_spec.specs.Meant.{Expands, ExpandsFrom}
use Rattle.repo_commands.specs.Sending.{changeset, IsSent, IsSentFrom, IsSetWritten, IsSetAnswered, Sends, SendsFrom}
use Rattle.cli_call.proofs.OpenedEnds.{fault_whole, memory_opened, opened_contents, repo_fault_opened, root_moments, same_holds}
use Rattle.cli_call.proofs.ReadingEnds.{configuration, fault_ends, file_at, file_opened, root_read, troves_are, CatalogueIs}
use Rattle.cny_version.proofs.cny-base.Lists.{all_from, contains_map}
use Rattle.repository.proofs.BetweenCarrying.{records_sized, sends_records}

-- the laws that are called upon
pub record SendingLaws : Type 0 where
  pub catalogue : CatalogueIs
  pub undamaged : (x : Tree) (r : RepositoryState) (old fresh : List TroveParts) (path : Name) → StoresRepository x r → AreCommitted (troves_of r.commits) fresh → IsDamagedBetween old fresh x path → ⊥
  pub contents : (x : Tree) (r : RepositoryState) (old fresh : List TroveParts) (set : ChangeSet) → StoresRepository x r → AreCommitted (troves_of r.commits) fresh → LeadsBetween old fresh set → HasStored x set
      → All (λ (content : Carried). r.contents content.name ≡ Some content.bytes) set.contents
  pub store : IsStore repository_store

-- a content that can't be sent is damaged
pub unsound : (tree : Tree) (catalogue : CatalogueParts) (old fresh : List TroveParts) (path : Name) → HoldsCatalogue tree catalogue → AreCommitted catalogue.troves fresh → IsDamagedBetween old fresh tree path → HasUnsoundContent tree path
unsound tree catalogue old fresh path holds committed d = record {
  catalogue = catalogue;
  holds = holds;
  name = d.name;
  size = d.sent.sends.2.size;
  recorded = records_sized catalogue.troves fresh committed d.name d.sent.sends.2.size
      (record { trove = d.sent.trove; there = d.sent.there; file = d.sent.sends.0; among = d.sent.sends.1; content = d.sent.sends.2.content });
  here = d.here;
  none = λ bytes stands named sized. d.none bytes stands (record { named = named; sized = λ size records. sized size (records_sized catalogue.troves fresh committed d.name size records) });
}

-- a configuration that is refused is refused of the command
pub refused_config : (from : Option GivenSpec) (to : GivenSpec) (s : State) (refused : Refusal) → HasConfig (tree_of s.root) (Err refused) → Sends s from to (Err refused)
refused_config from to s refused has = inr (record { refusal = refused; refused = has; is = refl })

answered : (set : ChangeSet) (bytes : List ℕ) → IsSetWritten set (Ok bytes) → IsSetAnswered set (Ok (record { change = nothing; out = bytes }))
answered set bytes written = (refl, written)

module _ {T P : Type 0} {root_disk : DiskModel T} {repo_disk : DiskModel P} (root_disk_laws : IsDisk root_disk) (repo_disk_laws : IsDisk repo_disk) (laws : SendingLaws) (from : Option GivenSpec) (to : GivenSpec) (input : List ℕ)
    (root root' : T) (repo : P) (opened : Opened) (ready : AreReady root_disk repo_disk (disks root repo opened)) (config : Config) (configured : ReadsConfig root_disk root root' (Ok config)) where
  same_troves : IsTrue repo_disk.tells → (s : State) → StandsFor root_disk repo_disk (disks root repo opened) s → opened.catalogue.troves ≡ troves_of s.repository.commits
  same_troves told s stands = troves_are laws.catalogue (disks root repo opened) ready told s stands

  with_config : IsTrue root_disk.tells → (s : State) → StandsFor root_disk repo_disk (disks root repo opened) s → (outcome : Result Effect Refusal)
      → AndThen (ExpandsFrom (troves_of s.repository.commits) config from) (λ (old : List TroveParts). AndThen (Expands (troves_of s.repository.commits) config to) (λ (fresh : List TroveParts). IsSent s.repository old fresh)) outcome
      → Sends s from to outcome
  with_config told s stands outcome rest = inl (record { value = config; found = file_at configuration (disks root repo opened) (Ok config) (configured.ends told) s stands; rest = rest })

  only_read : AreRead root_disk repo_disk (disks root repo opened) (disks root' repo opened)
  only_read = root_read root_disk_laws repo_disk_laws root root' repo opened configured.later configured.same

  -- the first specification
  pub old_fails : (f : Fault) → EndsAs (ExpandsFrom opened.catalogue.troves config from) (Err f) → Performs root_disk repo_disk (changeset from to) input (disks root repo opened) (disks root' repo opened) (Err (failure_of_fault f))
  old_fails f ends = fault_ends root_disk_laws repo_disk_laws laws.store (changeset from to) input (disks root repo opened) (disks root' repo opened) ready only_read f
      (λ refused is told repo_told s stands.
      let fails : ExpandsFrom opened.catalogue.troves config from (Err refused) = subst (λ (g : Fault). EndsAs (ExpandsFrom opened.catalogue.troves config from) (Err g)) is ends in
      let refuses : ExpandsFrom (troves_of s.repository.commits) config from (Err refused) = subst (λ (l : List TroveParts). ExpandsFrom l config from (Err refused)) (same_troves repo_told s stands) fails in
      with_config told s stands (Err refused) (inr (record { refusal = refused; refused = refuses; is = refl })))

  module _ (old : List TroveParts) (expanded : ExpandsFrom opened.catalogue.troves config from (Ok old)) where
    with_old : IsTrue root_disk.tells → IsTrue repo_disk.tells → (s : State) → StandsFor root_disk repo_disk (disks root repo opened) s → (outcome : Result Effect Refusal)
        → AndThen (Expands (troves_of s.repository.commits) config to) (λ (fresh : List TroveParts). IsSent s.repository old fresh) outcome → Sends s from to outcome
    with_old told repo_told s stands outcome rest = with_config told s stands outcome (inl (record {
      value = old;
      found = subst (λ (l : List TroveParts). ExpandsFrom l config from (Ok old)) (same_troves repo_told s stands) expanded;
      rest = rest;
    }))

    -- the second one
    pub fresh_fails : (f : Fault) → EndsAs (Expands opened.catalogue.troves config to) (Err f) → Performs root_disk repo_disk (changeset from to) input (disks root repo opened) (disks root' repo opened) (Err (failure_of_fault f))
    fresh_fails f ends = fault_ends root_disk_laws repo_disk_laws laws.store (changeset from to) input (disks root repo opened) (disks root' repo opened) ready only_read f
        (λ refused is told repo_told s stands.
        let fails : Expands opened.catalogue.troves config to (Err refused) = subst (λ (g : Fault). EndsAs (Expands opened.catalogue.troves config to) (Err g)) is ends in
        let refuses : Expands (troves_of s.repository.commits) config to (Err refused) = subst (λ (l : List TroveParts). Expands l config to (Err refused)) (same_troves repo_told s stands) fails in
        with_old told repo_told s stands (Err refused) (inr (record { refusal = refused; refused = refuses; is = refl })))

    -- ---- the set

    module _ (fresh : List TroveParts) (reached : Expands opened.catalogue.troves config to (Ok fresh)) (committed : AreCommitted opened.catalogue.troves fresh) (repo' : P) where
      are_read : (r : Result (List ℕ) Stop) → SendsFrom repo_disk old fresh repo repo' r → AreRead root_disk repo_disk (disks root repo opened) (disks root' repo' opened)
      are_read r sent = record { root_later = configured.later; repo_later = sent.later; root = configured.same; repo = sent.same }

      committed_of : IsTrue repo_disk.tells → (s : State) → StandsFor root_disk repo_disk (disks root repo opened) s → AreCommitted (troves_of s.repository.commits) fresh
      committed_of told s stands = subst (λ (l : List TroveParts). AreCommitted l fresh) (same_troves told s stands) committed

      sent_so : IsTrue root_disk.tells → IsTrue repo_disk.tells → (s : State) → StandsFor root_disk repo_disk (disks root repo opened) s → (outcome : Result Effect Refusal) → IsSent s.repository old fresh outcome → Sends s from to outcome
      sent_so told repo_told s stands outcome sent = with_old told repo_told s stands outcome (inl (record {
        value = fresh;
        found = subst (λ (l : List TroveParts). Expands l config to (Ok fresh)) (same_troves repo_told s stands) reached;
        rest = sent;
      }))

      of_state : IsTrue repo_disk.tells → (s : State) → StandsFor root_disk repo_disk (disks root repo opened) s → (result : Result (List ℕ) Refusal) → IsSentFrom (repo_disk.reads repo) old fresh result
          → (outcome : Result Effect Refusal) → ((set : ChangeSet) → IsSetWritten set result → IsSetAnswered set outcome) → IsSent s.repository old fresh outcome
      of_state told s stands result from_tree outcome by_bytes = record {
        set = from_tree.set;
        between = from_tree.between;
        held = laws.contents (repo_disk.reads repo) s.repository old fresh from_tree.set stands.repo.stored (committed_of told s stands) from_tree.between from_tree.stored;
        answered = by_bytes from_tree.set from_tree.written;
      }

      damaged_file : (path : Name) → SendsFrom repo_disk old fresh repo repo' (Err (stop.Damaged path)) → IsTrue repo_disk.tells → HasDamagedFile repository_store (repo_disk.reads repo') path
      damaged_file path sent told =
          let same : repo_disk.reads repo' ≡ repo_disk.reads repo = (sent.same told).same.reads in
          let file : HasUnsoundContent (repo_disk.reads repo) path = unsound (repo_disk.reads repo) opened.catalogue old fresh path (ready.repo told).catalogue committed (sent.ends told) in record {
            flag_clear = ap (is_committed repository_store.base) same ∙ (ready.repo told).settled.flag_clear;
            damaged = inr (inr (subst (λ (t : Tree). HasUnsoundContent t path) (sym same) file));
          }

      pub sent_ends : (r : Result (List ℕ) Stop) → SendsFrom repo_disk old fresh repo repo' r → Performs root_disk repo_disk (changeset from to) input (disks root repo opened) (disks root' repo' opened) (repository_result r)
      sent_ends (Ok bytes) sent = performs_reading root_disk_laws repo_disk_laws root_laws laws.store (changeset from to) input (disks root repo opened) (disks root' repo' opened) ready (are_read (Ok bytes) sent) (Ok bytes) tt
          (λ told repo_told s stands. sent_so told repo_told s stands (Ok (record { change = nothing; out = bytes }))
          (of_state repo_told s stands (Ok bytes) (sent.ends repo_told) (Ok (record { change = nothing; out = bytes })) (λ set written. answered set bytes written)))
      sent_ends (Err (stop.Refused refused)) sent = performs_reading root_disk_laws repo_disk_laws root_laws laws.store (changeset from to) input (disks root repo opened) (disks root' repo' opened) ready (are_read (Err (stop.Refused refused)) sent) (Err (failure.Refused refused)) tt
          (λ told repo_told s stands. sent_so told repo_told s stands (Err refused) (of_state repo_told s stands (Err refused) (sent.ends repo_told) (Err refused) (λ set written. written)))
      sent_ends (Err (stop.Damaged path)) sent = performs_reading root_disk_laws repo_disk_laws root_laws laws.store (changeset from to) input (disks root repo opened) (disks root' repo' opened) ready (are_read (Err (stop.Damaged path)) sent) (Err (failure.Damaged path))
          (inr (damaged_file path sent))
          (λ told repo_told s stands. laws.undamaged (repo_disk.reads repo) s.repository old fresh path stands.repo.stored (committed_of repo_told s stands) (sent.ends repo_told))
      sent_ends (Err stop.Failed) sent = performs_reading root_disk_laws repo_disk_laws root_laws laws.store (changeset from to) input (disks root repo opened) (disks root' repo' opened) ready (are_read (Err stop.Failed) sent) (Err failure.RepositoryFault) sent.ends tt
      sent_ends (Err stop.Memory) sent = performs_reading root_disk_laws repo_disk_laws root_laws laws.store (changeset from to) input (disks root repo opened) (disks root' repo' opened) ready (are_read (Err stop.Memory) sent) (Err failure.Memory) tt tt
      sent_ends (Err stop.FarFailed) sent = absurd sent.ends
      sent_ends (Err (stop.FarDamaged path)) sent = absurd sent.ends

-- ---- by what was read when the disks were opened, and the contents that stand whole

-- the contents that are sent are so in each map of those that stand whole
held_whole : (tree : Tree) (troves old fresh : List TroveParts) (set : ChangeSet) (held : ContentMap) → AreCommitted troves fresh → LeadsBetween old fresh set → HasStored tree set
    → ((name : List ℕ) (found : Option (List ℕ)) → FindsContent troves name tree found → found ≡ held name) → All (λ (content : Carried). held content.name ≡ Some content.bytes) set.contents
held_whole tree troves old fresh set held committed leads stands whole = let are = leads.contents in all_from (λ (content : Carried). held content.name ≡ Some content.bytes) set.contents (λ content among.
    let at : stored tree contents_dir content.name ≡ Some content.bytes = All-contains (λ (c : Carried). stored tree contents_dir c.name ≡ Some c.bytes) set.contents content stands among in
    let sound : IsSoundContent fresh content.name content.bytes = All-contains (λ (c : Carried). IsSoundContent fresh c.name c.bytes) set.contents content are.sound among in
    let r = sends_records old fresh content.name ((are.each content.name).0 (contains_map carried_name set.contents content among)) in
    sym (whole content.name (Some content.bytes) (
      at,
      record {
        named = sound.named;
        recorded = subst (λ (n : ℕ). IsTrue (records_content content.name n troves)) (sym (sound.sized r.0 r.1)) (records_sized troves fresh committed content.name r.0 r.1);
      },
    )))

module _ {T P : Type 0} {root_disk : DiskModel T} {repo_disk : DiskModel P} (root_disk_laws : IsDisk root_disk) (from : Option GivenSpec) (to : GivenSpec) (input : List ℕ)
    (root root' : T) (repo : P) (opened : Opened) (ready : AreReady root_disk repo_disk (disks root repo opened)) (config : Config) (configured : ReadsConfig root_disk root root' (Ok config)) where
  troves_in : (s : State) → HasOpened root_disk root opened s → opened.catalogue.troves ≡ troves_of s.repository.commits
  troves_in s has = ap (λ (c : CatalogueParts). c.troves) (sym has.catalogue)

  given_config : IsTrue root_disk.tells → (s : State) → HasOpened root_disk root opened s → (outcome : Result Effect Refusal)
      → AndThen (ExpandsFrom (troves_of s.repository.commits) config from) (λ (old : List TroveParts). AndThen (Expands (troves_of s.repository.commits) config to) (λ (fresh : List TroveParts). IsSent s.repository old fresh)) outcome
      → Sends s from to outcome
  given_config told s has outcome rest = inl (record { value = config; found = file_opened configuration root opened (Ok config) (configured.ends told) s has; rest = rest })

  pub old_fails_whole : (f : Fault) → EndsAs (ExpandsFrom opened.catalogue.troves config from) (Err f) → AnswersByContents root_disk repo_disk (changeset from to) input (disks root repo opened) (disks root' repo opened) (Err (failure_of_fault f))
  old_fails_whole f ends = fault_whole root_disk_laws (changeset from to) input (disks root repo opened) (disks root' repo opened) ready configured.same (λ told. refl) f
      (λ refused is told s has.
      let fails : ExpandsFrom opened.catalogue.troves config from (Err refused) = subst (λ (g : Fault). EndsAs (ExpandsFrom opened.catalogue.troves config from) (Err g)) is ends in
      given_config told s has (Err refused) (inr (record { refusal = refused; refused = subst (λ (l : List TroveParts). ExpandsFrom l config from (Err refused)) (troves_in s has) fails; is = refl })))

  module _ (old : List TroveParts) (expanded : ExpandsFrom opened.catalogue.troves config from (Ok old)) where
    given_old : IsTrue root_disk.tells → (s : State) → HasOpened root_disk root opened s → (outcome : Result Effect Refusal)
        → AndThen (Expands (troves_of s.repository.commits) config to) (λ (fresh : List TroveParts). IsSent s.repository old fresh) outcome → Sends s from to outcome
    given_old told s has outcome rest = given_config told s has outcome (inl (record { value = old; found = subst (λ (l : List TroveParts). ExpandsFrom l config from (Ok old)) (troves_in s has) expanded; rest = rest }))

    pub fresh_fails_whole : (f : Fault) → EndsAs (Expands opened.catalogue.troves config to) (Err f) → AnswersByContents root_disk repo_disk (changeset from to) input (disks root repo opened) (disks root' repo opened) (Err (failure_of_fault f))
    fresh_fails_whole f ends = fault_whole root_disk_laws (changeset from to) input (disks root repo opened) (disks root' repo opened) ready configured.same (λ told. refl) f
        (λ refused is told s has.
        let fails : Expands opened.catalogue.troves config to (Err refused) = subst (λ (g : Fault). EndsAs (Expands opened.catalogue.troves config to) (Err g)) is ends in
        given_old told s has (Err refused) (inr (record { refusal = refused; refused = subst (λ (l : List TroveParts). Expands l config to (Err refused)) (troves_in s has) fails; is = refl })))

    module _ (fresh : List TroveParts) (reached : Expands opened.catalogue.troves config to (Ok fresh)) (committed : AreCommitted opened.catalogue.troves fresh) (repo' : P) where
      sent_on : IsTrue root_disk.tells → (s : State) → HasOpened root_disk root opened s → HasWholeContents repo_disk repo opened s → (result : Result (List ℕ) Refusal) → IsSentFrom (repo_disk.reads repo) old fresh result
          → (outcome : Result Effect Refusal) → ((set : ChangeSet) → IsSetWritten set result → IsSetAnswered set outcome) → Sends s from to outcome
      sent_on told s has whole result from_tree outcome by_bytes = given_old told s has outcome (inl (record {
        value = fresh;
        found = subst (λ (l : List TroveParts). Expands l config to (Ok fresh)) (troves_in s has) reached;
        rest = record {
          set = from_tree.set;
          between = from_tree.between;
          held = held_whole (repo_disk.reads repo) opened.catalogue.troves old fresh from_tree.set s.repository.contents committed from_tree.between from_tree.stored whole;
          answered = by_bytes from_tree.set from_tree.written;
        };
      }))

      abbrev Whole : Result (List ℕ) Failure → Type 0
      Whole f = AnswersByContents root_disk repo_disk (changeset from to) input (disks root repo opened) (disks root' repo' opened) f

      held_on : (IsTrue repo_disk.tells → HasRead repo_disk repo repo' (Unit {0})) → (s : State) → HasOpened root_disk root opened s → HoldsOpened root_disk repo_disk root' repo' s
      held_on read s has = same_holds (disks root repo opened) (disks root' repo' opened) ready (λ t. (configured.same t).same.reads) (λ t. (read t).same.reads) s has

      moments_on : (s : State) → HasOpened root_disk root opened s → IsTrue root_disk.tells → LeavesOnly root_disk root root' (IsHeldOf s s)
      moments_on s has = root_moments root_disk_laws (disks root repo opened) (disks root' repo' opened) ready configured.same s s has

      pub sent_whole : (r : Result (List ℕ) Stop) → SendsFrom repo_disk old fresh repo repo' r → Whole (repository_result r)
      sent_whole (Ok bytes) sent = λ told repo_told low s has whole. record {
        next = s;
        answers = record {
          effect = record { change = nothing; out = bytes };
          is = sent_on told s has whole (Ok bytes) (sent.ends repo_told) (Ok (record { change = nothing; out = bytes })) (λ set written. answered set bytes written);
          leads = refl;
          bytes = refl;
        };
        holds = λ le. held_on sent.same s has;
        moments = moments_on s has;
      }
      sent_whole (Err (stop.Refused refused)) sent = λ told repo_told low s has whole. record {
        next = s;
        answers = (sent_on told s has whole (Err refused) (sent.ends repo_told) (Err refused) (λ set written. written), refl);
        holds = λ le. held_on sent.same s has;
        moments = moments_on s has;
      }
      sent_whole (Err (stop.Damaged path)) sent = λ told repo_told low. absurd (omega (arith, low))
      sent_whole (Err stop.Failed) sent = opened_contents (changeset from to) input (disks root repo opened) (disks root' repo' opened) (Err failure.RepositoryFault)
          (repo_fault_opened root_disk_laws (changeset from to) input (disks root repo opened) (disks root' repo' opened) ready configured.same)
      sent_whole (Err stop.Memory) sent = opened_contents (changeset from to) input (disks root repo opened) (disks root' repo' opened) (Err failure.Memory)
          (memory_opened root_disk_laws (changeset from to) input (disks root repo opened) (disks root' repo' opened) ready configured.same)
      sent_whole (Err stop.FarFailed) sent = absurd sent.ends
      sent_whole (Err (stop.FarDamaged path)) sent = absurd sent.ends

-- what holds holds after Ok
pub after_ok : {A E X : Type 0} (r : Result A E) → X → OnOk r X
after_ok (Ok x) h = h
after_ok (Err e) h = tt
