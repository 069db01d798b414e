-- How `verify` ends without contents.
use Rattle.std.proofs.Common.{◌≡◌, ℕ, List, None, Result, Ok, Err, IfErr, refl, ap, ◌∙◌, subst}
use Rattle.std.specs.Prelude.{IsTrue}
use Rattle.cli_call.specs.cny-base.declared.stop.Stop.{Stop}
use Rattle.cli_call.specs.cny-base.declared.stop.Stop.TheVariants as stop
use Rattle.cli_call.specs.tree-disk.Disk.{DiskModel}
use Rattle.cli_call.specs.trove-stream.declared.parts.TroveParts.{TroveParts}
use Rattle.cli_call.specs.content-store.Contents.{ContentMap, ContentsModel, empty_contents}
use Rattle.cli_call.specs.content-store.declared.contents.NoContents.{NoContents}
use Rattle.cli_call.specs.tree-scan.declared.verification.Verified.{Verified}
use Rattle.update_job.specs.Lists.{AreInstalled, IsNotInstalled}
use Rattle.cli_call.specs.content-store.Searches.{Searches}
use Rattle.root_edits.specs.Verify.{asked, verified, IsVerified, LacksOne}
use Rattle.cny_report.specs.Verified.{verified_text}
use Rattle.cli_call.specs.cny-laws.declared.failure.Failure.{Failure}
use Rattle.cli_call.specs.cny-laws.declared.opened.Opened.{Opened}
use Rattle.cli_call.proofs.AloneLaws.{AnswersWhere}
use Rattle.cli_call.specs.Command.{disks, AreReady, Disks, HasFailureCause}
use Rattle.cli_call.specs.cny-laws.State.{State, tree_of}
use Rattle.cli_call.specs.cny-laws.Stops.{root_result}
use Rattle.cli_call.specs.cny-laws.Store.{NamesDamaged, RestsAt}
use Rattle.cli_call.specs.cny-laws.Stores.{root_store}
use Rattle.cli_call.specs.Answer.{answer}
use Rattle.root_commands.specs.Verifying.{no_contents, verify_installed}
use Rattle.root_commands.proofs.Answering.{rests_seen, IsSeen}
use Rattle.root_commands.proofs.Verified.{asked_outer, verified_same}
use Rattle.cli_call.proofs.system-core.Held.{OneDatabase}
use Rattle.root_edits.specs.Local.{records}
use Rattle.cli_call.proofs.system-core.CallLaws.{no_rise as none_rose}

-- what a verification with these contents says
abbrev pub Searched : {T C : Type 0} → DiskModel T → ContentsModel C → List (List ℕ) → List TroveParts → T → T → C → C → Result Verified Stop → Type 0
Searched root_disk contents names list root root' far far' r =
    Searches root_disk contents (λ answers tree found. IsVerified answers tree (asked names list) found) (λ told tree. IsNotInstalled list names) (λ told answers tree. IsTrue told → LacksOne answers tree (records (asked names list))) root root' far far' r

-- what is found on the root's disk is what is found of each state that is seen, and of each system that it stores
pub found_of_seen : {T : Type 0} (root_disk : DiskModel T) (root : T) (opened : Opened) (names : List (List ℕ)) (map : ContentMap) (s : State) → IsSeen root_disk root opened s
    → verified map (root_disk.reads root) (asked names opened.db.installed) ≡ verified map (tree_of s.root) (asked names s.root.installed)
found_of_seen root_disk root opened names map s seen =
    ap (λ (l : List TroveParts). verified map (root_disk.reads root) (asked names l)) seen.list
    ∙ verified_same map (root_disk.reads root) (tree_of s.root) seen.outer (asked names s.root.installed) (asked_outer names s.root.installed seen.rules)

pub found_of_system : {T P : Type 0} (root_disk : DiskModel T) (repo_disk : DiskModel P) (law : OneDatabase) (m : Disks T P) → AreReady root_disk repo_disk m → IsTrue root_disk.tells → (names : List (List ℕ)) (map : ContentMap) (s : State)
    → RestsAt root_store root_disk m.root s.root → verified map (root_disk.reads m.root) (asked names m.opened.db.installed) ≡ verified map (tree_of s.root) (asked names s.root.installed)
found_of_system root_disk repo_disk law m ready told names map s rests = found_of_seen root_disk m.root m.opened names map s (rests_seen law m ready told s rests)

module _ {T P : Type 0} (root_disk : DiskModel T) (repo_disk : DiskModel P) (law : OneDatabase) (names : List (List ℕ)) (input : List ℕ) (root root' : T) (repo : P) (opened : Opened) (ready : AreReady root_disk repo_disk (disks root repo opened)) (far far' : NoContents) where
  abbrev pub Ends : Result (List ℕ) Failure → Type 0
  Ends result = AnswersWhere root_disk.tells (IsSeen root_disk root opened) (verify_installed names) input result

  abbrev pub Caused : Result (List ℕ) Failure → Type 0
  Caused result = HasFailureCause root_disk repo_disk (disks root repo opened) (disks root' repo opened) result

  abbrev pub Named : Result (List ℕ) Failure → Type 0
  Named result = NamesDamaged root_store root_disk root' result

  -- it stopped
  pub stopped_ends : (e : Stop) → Searched root_disk (empty_contents {C = NoContents}) names opened.db.installed root root' far far' (Err e) → IfErr (let r : Result Verified Stop = Err e in root_result r) (λ f. Ends (Err f) × Caused (Err f) × Named (Err f))
  stopped_ends (stop.Refused why) run = (λ told s seen. subst (λ (l : List TroveParts). IsNotInstalled l names why) seen.list run.ends, tt, λ path named. absurd (cc named))
  stopped_ends stop.Failed run = (tt, run.ends, λ path named. absurd (cc named))
  stopped_ends stop.Memory run = (tt, tt, λ path named. absurd (cc named))
  stopped_ends (stop.Damaged path) run = absurd run.ends
  stopped_ends stop.FarFailed run = absurd (none_rose run.ends)
  stopped_ends (stop.FarDamaged path) run = absurd (run.ends.damaged refl)

  pub failed_ends : (r : Result Verified Stop) (f : Failure) → root_result r ≡ Err f → Searched root_disk (empty_contents {C = NoContents}) names opened.db.installed root root' far far' r → Ends (Err f) × Caused (Err f) × Named (Err f)
  failed_ends (Ok found) f is run = absurd (cc is)
  failed_ends (Err e) f is run = subst (λ (x : Result Verified Failure). IfErr x (λ g. Ends (Err g) × Caused (Err g) × Named (Err g))) is (stopped_ends e run)

  -- it found this
  module _ (found : Verified) (mapped : (map : ContentMap) → IsTrue root_disk.tells → ((name : List ℕ) → map name ≡ None) → found ≡ verified map (root_disk.reads root) (asked names opened.db.installed))
      (installed : AreInstalled opened.db.installed names) where
    by_state : IsTrue root_disk.tells → (s : State) → IsSeen root_disk root opened s → found ≡ verified no_contents (tree_of s.root) (asked names s.root.installed)
    by_state told s seen = mapped no_contents told (λ name. refl) ∙ found_of_seen root_disk root opened names no_contents s seen

    pub found_ends : (text : List ℕ) → text ≡ verified_text found → Ends (Ok text)
    found_ends text is told s seen = (
      subst (λ (l : List TroveParts). AreInstalled l names) seen.list installed,
      ap answer (is ∙ ap verified_text (by_state told s seen)),
    )
