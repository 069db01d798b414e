-- The file of a commit, applied to a disk that was made ready.
use Rattle.std.proofs.Common.{◌≡◌, inl, inr, ⊎_elim, ℕ, ◌+◌, ◌<◌, ◌^◌, true, false, List, [], ◌∷◌, All, Option, Some, None, refl, sym, ◌∙◌, ap, subst, arith}
use Rattle.std.specs.List.{list_all}
use Rattle.std.specs.Fmt.{decimal}
use Rattle.std.proofs.lemmas.Bool.{cases_Bool}
use Rattle.std.proofs.lemmas.List.Elements.{All-cons, All-nil}
use Rattle.std.specs.FinMap.{get}
use Rattle.repo_load.specs.cny-base.Below.{is_below}
use Rattle.repo_load.proofs.cny-base.Below.{below_parent}
use Rattle.repo_load.specs.cny-base.Path.{parent}
use Rattle.repo_load.specs.cny-base.declared.limits.TheConstants.{COMMITS_LIMIT}
use Rattle.repo_load.specs.cny-base.declared.node.Node.{Node}
use Rattle.repo_load.specs.cny-base.declared.node.Node.TheVariants as node
use Rattle.repo_load.specs.trove-stream.declared.parts.TroveParts.{TroveParts}
use Rattle.repo_load.specs.trove-stream.Trove.{IsTrove}
use Rattle.repo_load.specs.tree-disk.Tree.{Name, Tree, is_byte, is_dir, WellFormed}
use Rattle.repo_load.proofs.tree-disk.Nodes.{is_node-File}
use Rattle.repo_load.proofs.tree-disk.Allowed.{put_well_formed}
use Rattle.repo_load.proofs.tree-disk.Children.{none_below}
use Rattle.repo_load.specs.tree-disk.Rows.{is_dir_at}
use Rattle.repo_load.specs.tree-disk.Disk.{DiskModel, IsDisk}
use Rattle.repo_load.specs.tree-disk.Confined.{Confined, DiffersOnlyAt, IsUnsyncedOr, LeavesOnly}
use Rattle.repo_load.proofs.tree-disk.ConfinedLaws.{leaves_then, leaves_weaker}
use Rattle.repo_load.specs.journal-log.declared.put.Put.{Put}
use Rattle.repo_load.specs.journal-log.Own.{gate, StoresSame}
use Rattle.repo_load.specs.journal-log.WriteSet.{CanBeNamed}
use Rattle.tree_journal.specs.Apply.{goal, CanApply, IsOneOf}
use Rattle.tree_journal.specs.Apply as apply
use Rattle.tree_journal.specs.CanBePut.{AllCanBePut, CanBePut, HasWay}
use Rattle.tree_journal.specs.Recovery.{at_rest, is_committed, is_flag}
use Rattle.tree_journal.specs.Staging.{has_content, outcome}
use Rattle.tree_journal.proofs.OwnFiles.{base_kept}
use Rattle.change_set.specs.declared.change.Carried.{Carried}
use Rattle.repo_index.specs.Catalogue.{CatalogueParts}
use Rattle.repo_load.specs.Counts.{IsPreparedName}
use Rattle.repo_load.specs.Files.{commit_bytes, commit_file, repository_base, FitsTrove, HoldsCatalogue}
use Rattle.repo_load.specs.Steps.{commit_put}
use Rattle.repo_load.proofs.CountedNames.{prepared_commits, prepared_flag}
use Rattle.repo_load.proofs.FileNames.{base_is_path, commit_is_path, decimal_plain}
use Rattle.repository.specs.Outcome.{MayCommit}
use Rattle.repository.specs.Preparing.{with_commit_file, IsPreparedFrom, IsPreparedFor, IsWrittenFrom, RecoversSo}
use Rattle.repository.proofs.Readying.{commit_not_root}
use Rattle.change_rel.specs.cny-base.Modes.{file_mode}
use Rattle.tree_journal.proofs.tree-disk.Names.{parent_join, no_path as not_empty}

abbrev pub puts_of : CatalogueParts → List TroveParts → List Put
puts_of c troves = commit_put (c.commits + 1) file_mode troves ∷ []

pub stores_itself : (t : Tree) → StoresSame repository_base t t
stores_itself t q out = refl

-- with the base made a directory nothing changes but the commit's file
pub goal_is : (c : CatalogueParts) (troves : List TroveParts) (t : Tree) → is_dir_at t repository_base ≡ true → goal repository_base (puts_of c troves) t ≡ with_commit_file c troves t
goal_is c troves t dir = ap (λ (u : Tree). outcome repository_base (puts_of c troves) u) (base_kept repository_base t dir)

-- ---- the write can be put

pub parent_is : (n : ℕ) → n < 2 ^ 64 → parent (commit_file n) ≡ repository_base
parent_is n fits = parent_join repository_base (107 ∷ 46 ∷ decimal n) base_is_path (decimal_plain n fits)

some_dir : (o : Option Node) → is_dir o ≡ true → o ≡ None → ⊥
some_dir None dir none = absurd (cc dir)
some_dir (Some n) dir none = absurd (cc none)

-- what lies above the file of a commit is a directory
pub way_of : (t : Tree) (n : ℕ) (puts : List Put) → n < 2 ^ 64 → WellFormed t → is_dir_at t repository_base ≡ true → HasWay puts t (commit_file n)
way_of t n puts fits well base q q_path low free = ⊎_elim
    (λ same. ap (λ (p : Name). is_dir (get t p)) (same ∙ parent_is n fits) ∙ base)
    (λ high. ⊎_elim (λ dir. dir)
    (λ no_dir. absurd (some_dir (get t repository_base) base (none_below t q repository_base well q_path no_dir (ap (is_below q) (sym (parent_is n fits)) ∙ high))))
    (cases_Bool (is_dir (get t q))))
    (below_parent q (commit_file n) (not_empty q q_path) low)

pub none_no_dir : (o : Option Node) → o ≡ None → is_dir o ≡ false
none_no_dir o is = ap is_dir is

pub next_free : (t : Tree) (c : CatalogueParts) → HoldsCatalogue t c → get t (commit_file (c.commits + 1)) ≡ None
next_free t c h = ap (λ (k : CatalogueParts). get t (commit_file (k.commits + 1))) h.is ∙ h.holds.last

module _ {D : Type 0} {disk : DiskModel D} (laws : IsDisk disk) (c : CatalogueParts) (contents : List Carried) (troves : List TroveParts) (few : c.commits < COMMITS_LIMIT) (old mid : D)
    (rests : MayCommit disk c old) (confined : Confined disk (IsPreparedName c) old mid) where
  pub number_fits : c.commits + 1 < 2 ^ 64
  number_fits = omega (arith, few)

  pub gate_stays : (image : Tree) → get image (gate repository_base) ≡ get (disk.reads old) (gate repository_base) → is_committed repository_base image ≡ false
  gate_stays image same = ap is_flag same ∙ rests.flag_clear

  pub gate_mid : get (disk.reads mid) (gate repository_base) ≡ get (disk.reads old) (gate repository_base)
  gate_mid = confined.reads (gate repository_base) (prepared_flag c)

  pub gate_synced : disk.unsynced mid (gate repository_base) ≡ false
  gate_synced = ⊎_elim
      (λ un. absurd (⊎_elim (λ was. cc (was, rests.flag_synced)) (λ is. prepared_flag c is) (confined.unsynced (gate repository_base) un)))
      (λ synced. synced) (cases_Bool (disk.unsynced mid (gate repository_base)))

  pub free_mid : get (disk.reads mid) (commit_file (c.commits + 1)) ≡ None
  free_mid = confined.reads (commit_file (c.commits + 1)) (λ prepared. prepared_commits c (commit_file (c.commits + 1)) (omega (arith, few)) prepared (record { number = c.commits + 1; few = omega arith; is = refl }))
      ∙ next_free (disk.reads old) c rests.holds

  pub can_apply : IsPreparedFor c contents (disk.reads mid) → list_all is_byte (commit_bytes troves) ≡ true → CanApply disk repository_base (puts_of c troves) mid
  can_apply ready bytes =
      let t = disk.reads mid in
      let well = laws.reads_well_formed mid in
      let path = commit_is_path (c.commits + 1) number_fits in
      let kept = base_kept repository_base t ready.base in
      let put : Put = commit_put (c.commits + 1) file_mode troves in
      record {
        parent_stands = well.root_stands;
        flag_clear = gate_stays t gate_mid;
        flag_synced = gate_synced;
        named = All-cons (λ (p : Put). CanBeNamed repository_base p.path) put [] (record { not_root = commit_not_root (c.commits + 1); not_own = refl }) (All-nil (λ (p : Put). CanBeNamed repository_base p.path));
        stand = All-cons (λ (p : Put). has_content repository_base t p.want ≡ true) put [] refl (All-nil (λ (p : Put). has_content repository_base t p.want ≡ true));
        can = subst (AllCanBePut (puts_of c troves)) (sym kept) (All-cons (CanBePut (puts_of c troves) t) put [] (record {
          above = way_of t (c.commits + 1) (puts_of c troves) number_fits well ready.base;
          below = λ no_dir q low free. none_below t (commit_file (c.commits + 1)) q well path (none_no_dir (get t (commit_file (c.commits + 1))) free_mid) low;
        }) (All-nil (CanBePut (puts_of c troves) t)));
        well_formed = subst WellFormed (sym (goal_is c troves t ready.base))
            (put_well_formed t (commit_file (c.commits + 1)) (node.File file_mode (commit_bytes troves)) well path (is_node-File file_mode (commit_bytes troves) (omega arith) bytes)
            (ap (λ (p : Name). is_dir (get t p)) (parent_is (c.commits + 1) number_fits) ∙ ready.base) (inr (none_no_dir (get t (commit_file (c.commits + 1))) free_mid)));
      }

  -- ---- images

  abbrev pub Names : Name → Type 0
  Names = IsUnsyncedOr disk old (IsPreparedName c)

  pub gate_not : Names (gate repository_base) → ⊥
  gate_not (inl was) = absurd (cc (was, rests.flag_synced))
  gate_not (inr is) = prepared_flag c is

  pub before_image : (image : Tree) → DiffersOnlyAt Names (disk.reads old) image → RecoversSo Names c contents troves (disk.reads old) image
  before_image image differs = record {
    tree = image;
    recovers = at_rest (gate_stays image (differs.agrees (gate repository_base) gate_not)) (stores_itself image);
    is = inl differs.agrees;
  }

  pub readied : IsPreparedFor c contents (disk.reads mid) → IsPreparedFrom c contents (disk.reads old) (disk.reads mid)
  readied ready = record { kept = confined.reads; ready = ready }

  pub written_goal : All IsTrove troves → All FitsTrove troves → IsPreparedFor c contents (disk.reads mid) → IsWrittenFrom c contents troves (disk.reads old) (goal repository_base (puts_of c troves) (disk.reads mid))
  written_goal are fits ready = record { troves_are = are; fits = fits; readied = disk.reads mid; is_readied = readied ready; same = λ q out. ap (λ (t : Tree). get t q) (goal_is c troves (disk.reads mid) ready.base) }

  pub later_image : All IsTrove troves → All FitsTrove troves → IsPreparedFor c contents (disk.reads mid) → (image : Tree) → apply.IsBeforeOrAfter disk repository_base (puts_of c troves) mid image → RecoversSo Names c contents troves (disk.reads old) image
  later_image are fits ready image (inl was) = record {
    tree = was.0;
    recovers = was.2;
    is = inl (λ p out. was.1.synced p (unsynced_not p out) ∙ confined.reads p (λ h. out (inr h)));
  }
    where
      unsynced_not : (p : Name) → (Names p → ⊥) → disk.unsynced mid p ≡ false
      unsynced_not p out = ⊎_elim (λ un. absurd (out (confined.unsynced p un))) (λ synced. synced) (cases_Bool (disk.unsynced mid p))
  later_image are fits ready image (inr after) = record { tree = goal repository_base (puts_of c troves) (disk.reads mid); recovers = after; is = inr (written_goal are fits ready) }

  pub all_moments : {new : D} → All IsTrove troves → All FitsTrove troves → IsPreparedFor c contents (disk.reads mid) → LeavesOnly disk mid new (apply.IsBeforeOrAfter disk repository_base (puts_of c troves) mid)
      → LeavesOnly disk old new (RecoversSo Names c contents troves (disk.reads old))
  all_moments are fits ready later = leaves_then (leaves_weaker before_image confined.images) (leaves_weaker (later_image are fits ready) later)

  pub mid_reads : RecoversSo (IsPreparedName c) c contents troves (disk.reads old) (disk.reads mid)
  mid_reads = record { tree = disk.reads mid; recovers = at_rest (gate_stays (disk.reads mid) gate_mid) (stores_itself (disk.reads mid)); is = inl confined.reads }

  pub stopped_reads : (y : Tree) → All IsTrove troves → All FitsTrove troves → IsPreparedFor c contents (disk.reads mid) → IsOneOf repository_base (puts_of c troves) (disk.reads mid) y → RecoversSo (IsPreparedName c) c contents troves (disk.reads old) y
  stopped_reads y are fits ready (inl was) = record { tree = disk.reads mid; recovers = was; is = inl confined.reads }
  stopped_reads y are fits ready (inr after) = record { tree = goal repository_base (puts_of c troves) (disk.reads mid); recovers = after; is = inr (written_goal are fits ready) }

  pub done_tree : (y : Tree) → All IsTrove troves → All FitsTrove troves → IsPreparedFor c contents (disk.reads mid) → StoresSame repository_base y (goal repository_base (puts_of c troves) (disk.reads mid)) → IsWrittenFrom c contents troves (disk.reads old) y
  done_tree y are fits ready stores = record { troves_are = are; fits = fits; readied = disk.reads mid; is_readied = readied ready; same = λ q out. stores q out ∙ ap (λ (t : Tree). get t q) (goal_is c troves (disk.reads mid) ready.base) }

  pub done_reads : (y : Tree) → All IsTrove troves → All FitsTrove troves → IsPreparedFor c contents (disk.reads mid) → is_committed repository_base y ≡ false → StoresSame repository_base y (goal repository_base (puts_of c troves) (disk.reads mid)) → RecoversSo (IsPreparedName c) c contents troves (disk.reads old) y
  done_reads y are fits ready clear stores = record { tree = y; recovers = at_rest clear (stores_itself y); is = inr (done_tree y are fits ready stores) }
