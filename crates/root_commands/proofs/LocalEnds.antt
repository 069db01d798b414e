-- How `localcs` ends.
use Rattle.std.proofs.Common.{◌≡◌, ℕ, List, [], ◌∷◌, Contains, None, Result, Ok, Err, IfErr, IfOk, refl, sym, ap, ◌∙◌, subst, inl, inr, ⊎_elim}
use Rattle.std.specs.Prelude.{IsTrue}
use Rattle.std.specs.List.{AllByRecursion}
use Rattle.std.proofs.lemmas.List.Elements.{All-contains}
use Rattle.cli_call.specs.cny-base.Reserved.{is_reserved}
use Rattle.cli_call.specs.cny-base.declared.refusal.Fault.{Fault}
use Rattle.cli_call.specs.cny-base.declared.refusal.Fault.TheVariants as fault
use Rattle.cli_call.specs.cny-base.declared.refusal.Refusal.{Refusal}
use Rattle.cli_call.specs.cny-base.declared.stop.Stop.{Stop}
use Rattle.cli_call.specs.cny-base.declared.stop.Stop.TheVariants as stop
use Rattle.cli_call.specs.tree-disk.Disk.{DiskModel}
use Rattle.cli_call.specs.tree-disk.Tree.{Tree, AgreesOutside}
use Rattle.cli_call.specs.trove-parts.declared.files.FileAt.{FileAt}
use Rattle.cli_call.specs.trove-stream.declared.parts.TroveParts.{TroveParts}
use Rattle.cli_call.specs.trove-stream.Forbidden.{first_forbidden}
use Rattle.cli_call.specs.change-set.ChangeSet.{HasContents, IsSetStream}
use Rattle.cli_call.specs.change-set.TooLarge.{too_large, IsTooLargeOrMemory}
use Rattle.cli_call.specs.change-set.declared.change.ChangeSet.{ChangeSet}
use Rattle.cli_call.specs.change-set.declared.change.Part.{Part}
use Rattle.cny_manifest.specs.manifest-troves.Contents.{contents_of}
use Rattle.cli_call.specs.tree-scan.OnlyReads.{ReadEnds}
use Rattle.root_edits.specs.Local.{AreLocalParts, IsLocal, IsLocalPart, IsLocalRefusal, all_contents, all_sights, first_refusal, records}
use Rattle.root_edits.specs.Reached.{AreReached}
use Rattle.root_edits.specs.Standing.{Sight, sights}
use Rattle.local_db.specs.Installed.{IsInstalled}
use Rattle.cli_call.specs.cny-laws.declared.failure.Failure.{Failure}
use Rattle.cli_call.specs.cny-laws.declared.opened.Opened.{Opened}
use Rattle.cli_call.proofs.AloneLaws.{AnswersWhere}
use Rattle.cli_call.specs.Command.{disks, AreReady, HasFailureCause}
use Rattle.cli_call.specs.cny-laws.Failures.{failure_of_fault}
use Rattle.cli_call.specs.cny-laws.State.{State, tree_of}
use Rattle.cli_call.specs.cny-laws.Stops.{root_result}
use Rattle.cli_call.specs.cny-laws.Store.{NamesDamaged}
use Rattle.cli_call.specs.cny-laws.Stores.{root_store}
use Rattle.root_commands.specs.LocalChanges.{change_locally}
use Rattle.root_commands.proofs.Answering.{IsSeen}
use Rattle.root_commands.proofs.Verified.{AreOuter, files_outer, records_outer}
use Rattle.cli_call.proofs.system-core.Held.{OneDatabase}
use Rattle.local_db.proofs.cny-base.Lists.{contains_at, contains_first, contains_rest}

-- ---- what is seen outside the private directory

abbrev pub Allowed : List TroveParts → Type 0
Allowed troves = AllByRecursion (λ (t : TroveParts). first_forbidden t.files ≡ None) troves

all_allowed : (troves : List TroveParts) → ((t : TroveParts) → Contains troves t → first_forbidden t.files ≡ None) → Allowed troves
all_allowed [] each = tt
all_allowed (t ∷ troves) each = (each t (contains_first t troves), all_allowed troves (λ u among. each u (contains_rest t u troves among)))

pub reached_allowed : (list : List TroveParts) (name : List ℕ) (troves : List TroveParts) → IsInstalled list → AreReached list name troves → Allowed troves
reached_allowed list name troves rules reached = all_allowed troves (λ t among. (
    let from = reached.from t among in
    All-contains (λ (u : TroveParts). first_forbidden u.files ≡ None) list t rules.allowed (contains_at list from.place t from.there)))

module _ (t u : Tree) (same : AgreesOutside is_reserved t u) where
  pub sights_same : (files : List FileAt) → AreOuter files → sights t files ≡ sights u files
  sights_same [] outer = refl
  sights_same (file ∷ files) outer = let here = same file.path outer.0 in let rest = sights_same files outer.1 in λ i. record { file = file; node = here i } ∷ rest i

  pub all_same : (troves : List TroveParts) → Allowed troves → all_sights t troves ≡ all_sights u troves
  all_same troves allowed = sights_same (records troves) (records_outer troves allowed)

  pub refusal_same : (troves : List TroveParts) → Allowed troves → first_refusal t troves ≡ first_refusal u troves
  refusal_same troves allowed = rw (all_same troves allowed) refl

  pub contents_same : (troves : List TroveParts) → Allowed troves → all_contents t troves ≡ all_contents u troves
  contents_same troves allowed = rw (all_same troves allowed) refl

  pub parts_same : (all troves : List TroveParts) (parts : List Part) → Allowed troves → AreLocalParts all t troves parts → AreLocalParts all u troves parts
  parts_same all [] parts allowed are = are
  parts_same all (x ∷ troves) parts allowed are =
      (are.0, are.1, subst (λ (seen : List Sight). IsLocalPart all seen x are.0) (sights_same x.files (files_outer x.files allowed.0)) are.2, parts_same all troves are.1 allowed.1 are.3, are.4)

  pub local_same : (list : List TroveParts) (name : List ℕ) (set : ChangeSet) → IsInstalled list → IsLocal list name t set → IsLocal list name u set
  local_same list name set rules is =
      let allowed = reached_allowed list name is.troves rules is.reached in
      record {
        installed = is.installed;
        troves = is.troves;
        reached = is.reached;
        unrefused = sym (refusal_same is.troves allowed) ∙ is.unrefused;
        parts = parts_same is.troves is.troves set.parts allowed is.parts;
        contents = is.contents ∙ ap contents_of (contents_same is.troves allowed);
      }

  pub refused_same : (list : List TroveParts) (name : List ℕ) (why : Refusal) → IsInstalled list → IsLocalRefusal list name t why → IsLocalRefusal list name u why
  refused_same list name why rules is = ⊎_elim
      (λ missing. inl missing)
      (λ refused. inr (record {
        installed = refused.installed;
        troves = refused.troves;
        reached = refused.reached;
        refusal_is = sym (refusal_same refused.troves (reached_allowed list name refused.troves rules refused.reached)) ∙ refused.refusal_is;
      }))
      is

-- ---- the answers

module _ {T P : Type 0} (root_disk : DiskModel T) (repo_disk : DiskModel P) (law : OneDatabase) (name : List ℕ) (input : List ℕ) (root root' : T) (repo : P) (opened : Opened) (ready : AreReady root_disk repo_disk (disks root repo opened)) where
  abbrev pub Answered : Result (List ℕ) Failure → Type 0
  Answered result = AnswersWhere root_disk.tells (IsSeen root_disk root opened) (change_locally name) input result

  abbrev pub Caused : Result (List ℕ) Failure → Type 0
  Caused result = HasFailureCause root_disk repo_disk (disks root repo opened) (disks root' repo opened) result

  abbrev pub Named : Result (List ℕ) Failure → Type 0
  Named result = NamesDamaged root_store root_disk root' result

  abbrev pub Found : Result ChangeSet Stop → Type 0
  Found r = ReadEnds root_disk.tells (IsLocal opened.db.installed name (root_disk.reads root)) (IsLocalRefusal opened.db.installed name (root_disk.reads root)) r (root_disk.faults root) (root_disk.faults root')

  pub by_state : (IsIt : List TroveParts → Tree → Type 0) → ((list : List TroveParts) (t u : Tree) → AgreesOutside is_reserved t u → IsInstalled list → IsIt list t → IsIt list u) → (s : State) → IsSeen root_disk root opened s
      → IsIt opened.db.installed (root_disk.reads root) → IsIt s.root.installed (tree_of s.root)
  by_state IsIt moved s seen is = moved s.root.installed (root_disk.reads root) (tree_of s.root) seen.outer seen.rules (subst (λ (l : List TroveParts). IsIt l (root_disk.reads root)) seen.list is)

  pub stopped_ends : (e : Stop) → Found (Err e) → IfErr (let r : Result ChangeSet Stop = Err e in root_result r) (λ f. Answered (Err f) × Caused (Err f) × Named (Err f))
  stopped_ends (stop.Refused why) h = (λ told s seen. inl (by_state (λ l t. IsLocalRefusal l name t why) (λ l t u same rules is. refused_same t u same l name why rules is) s seen (h told)), tt, λ path named. absurd (cc named))
  stopped_ends stop.Failed h = (tt, h, λ path named. absurd (cc named))
  stopped_ends stop.Memory h = (tt, tt, λ path named. absurd (cc named))
  stopped_ends (stop.Damaged path) h = absurd h
  stopped_ends stop.FarFailed h = absurd h
  stopped_ends (stop.FarDamaged path) h = absurd h

  pub failed_ends : (r : Result ChangeSet Stop) (f : Failure) → root_result r ≡ Err f → Found r → Answered (Err f) × Caused (Err f) × Named (Err f)
  failed_ends (Ok set) f is run = absurd (cc is)
  failed_ends (Err e) f is run = subst (λ (x : Result ChangeSet Failure). IfErr x (λ g. Answered (Err g) × Caused (Err g) × Named (Err g))) is (stopped_ends e run)

  module _ (r : Result ChangeSet Stop) (set : ChangeSet) (is : root_result r ≡ Ok set) (found : Found r) where
    found_local : IsTrue root_disk.tells → IsLocal opened.db.installed name (root_disk.reads root) set
    found_local = at r is found
      where
        at : (q : Result ChangeSet Stop) → root_result q ≡ Ok set → Found q → IsTrue root_disk.tells → IsLocal opened.db.installed name (root_disk.reads root) set
        at (Ok x) is run told = let same : x ≡ set = cc is in subst (IsLocal opened.db.installed name (root_disk.reads root)) same (run told)
        at (Err e) is run told = absurd (cc is)

    set_of : IsTrue root_disk.tells → (s : State) → IsSeen root_disk root opened s → IsLocal s.root.installed name (tree_of s.root) set
    set_of told s seen = by_state (λ l t. IsLocal l name t set) (λ l t u same rules is. local_same t u same l name set rules is) s seen (found_local told)

    pub written_ends : (bytes : List ℕ) → IsSetStream set bytes → too_large set ≡ None → Answered (Ok bytes)
    written_ends bytes stream small told s rests = record { set = set; local = set_of told s rests; answered = (refl, stream, small) }

    pub large_ends : (f : Fault) → IsTooLargeOrMemory set f → Answered (Err (failure_of_fault f))
    large_ends (fault.Refused why) large = λ told s rests. inr (record { set = set; local = set_of told s rests; answered = large })
    large_ends fault.Memory large = tt

    pub large_caused : (f : Fault) → Caused (Err (failure_of_fault f))
    large_caused (fault.Refused why) = tt
    large_caused fault.Memory = tt

pub contents_held : (r : Result ChangeSet Stop) (set : ChangeSet) → root_result r ≡ Ok set → IfOk r HasContents → HasContents set
contents_held (Ok x) set is h = let same : x ≡ set = cc is in subst HasContents same h
contents_held (Err e) set is h = absurd (cc is)
