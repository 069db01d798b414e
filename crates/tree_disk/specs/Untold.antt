-- The meanings of a disk that tells nothing of its tree but its count of faults.
use Rattle.std.specs.Prelude.{◌≡◌, ℕ, Bool, true, false, cond, Some, None, is_some, refl}
use Rattle.std.proofs.Common.{◌∙◌, ap, ⊎_elim, arith}
use Rattle.std.proofs.lemmas.Bool.{cases_Bool}
use Rattle.std.specs.FinMap.{empty, get, get-empty}
use Rattle.std.specs.Ordering.{nat_cmp}
use Rattle.std.specs.Cmp.Lexicographic.{slice_cmp}
use Rattle.cny_base.specs.Path.{is_path, root, parent}
use Rattle.cny_base.specs.declared.node.Node.TheVariants.{Dir}
use Rattle.tree_disk.specs.Tree.{Name, Tree, same_name, put, is_dir, is_node, may_stand, WellFormed}
use Rattle.tree_disk.specs.Nodes.{is_node-Dir}
use Rattle.tree_disk.specs.Laws.{same_means, get_put}
use Rattle.tree_disk.specs.Disk.{DiskModel, IsDisk, IsCrashImage}

-- a root alone
abbrev pub root_alone : Tree
root_alone = put empty root (Some (Dir 493))

-- It tells nothing, so that only its count of faults is spoken of. The rest is any values that have the laws.
abbrev pub untold : {D : Type 0} → (D → ℕ) → DiskModel D
untold faults = record {
  tells = false;
  reads = λ d. root_alone;
  unsynced = λ d p. false;
  now = λ d. 0;
  reads_at = λ d k. root_alone;
  images_since = λ d k t. IsCrashImage root_alone (λ p. false) t;
  faults = faults;
}

root_node : is_node (Dir 493) ≡ true
root_node = is_node-Dir 493 (omega arith)

alone : (q : Name) → get root_alone q ≡ cond (same_name q root) (Some (Dir 493)) None
alone q = get_put empty root (Some (Dir 493)) q ∙ ap (cond (same_name q root) (Some (Dir 493))) (get-empty (slice_cmp nat_cmp) q)

stands : (q : Name) → is_some (get root_alone q) ≡ true → q ≡ root
stands q some = ⊎_elim (λ same. same_means q root same) (λ other. absurd (cc (alone q, other, some))) (cases_Bool (same_name q root))

root_alone_well_formed : WellFormed root_alone
root_alone_well_formed = record {
  paths = λ q some. ap is_path (stands q some);
  root_stands = ap is_dir (alone root);
  parents = λ q some. ap (λ n. is_dir (get root_alone (parent n))) (stands q some) ∙ ap is_dir (alone root);
  nodes = λ q. ap may_stand (alone q) ∙ by (same_name q root);
}
  where
    by : (b : Bool) → may_stand (cond b (Some (Dir 493)) None) ≡ true
    by true = root_node
    by false = refl

pub untold_laws : {D : Type 0} (faults : D → ℕ) → IsDisk (untold faults)
untold_laws faults = record {
  reads_well_formed = λ d. root_alone_well_formed;
  counts_now = λ d k t le image. image;
  reads_now = λ d. refl;
  only_now = λ d t since. since;
}
