-- The fixed directories of a root and of what it recovers to.
use Rattle.std.proofs.Common.{◌≡◌, Bool, true, false, cond, List, [], ◌∷◌, Option, Some, None, Result, Ok, Err, refl, sym, ap, ◌∙◌, codes}
use Rattle.std.specs.Prelude.{IsTrue, ◌||◌, is_some, map}
use Rattle.std.specs.List.{All}
use Rattle.std.specs.FinMap.{get}
use Rattle.std.proofs.lemmas.List.Elements.{All-head, All-tail, All-weaker, All-map}
use Rattle.rollback_stack.specs.cny-base.Below.{is_below}
use Rattle.rollback_stack.specs.cny-base.Path.{is_path}
use Rattle.rollback_stack.specs.cny-base.declared.node.Node.{Node}
use Rattle.rollback_stack.specs.cny-base.declared.refusal.Refusal.{Refusal}
use Rattle.rollback_stack.specs.tree-disk.Tree.{Name, Tree, same_name, put, is_dir, WellFormed}
use Rattle.rollback_stack.specs.tree-disk.Laws.{get_put, same_means}
use Rattle.rollback_stack.proofs.tree-disk.Laws.{get_put_other}
use Rattle.rollback_stack.specs.tree-disk.Rows.{is_dir_at}
use Rattle.rollback_stack.specs.journal-log.declared.put.Want.{Want}
use Rattle.rollback_stack.specs.journal-log.declared.put.Want.TheVariants as want
use Rattle.rollback_stack.specs.journal-log.declared.put.Put.{Put}
use Rattle.rollback_stack.specs.journal-log.Own.{gate, is_own}
use Rattle.rollback_stack.specs.journal-log.Targets.{is_dir_want, node_of, is_target, with_targets}
use Rattle.rollback_stack.specs.journal-log.WriteSet.{CanBeNamed}
use Rattle.tree_journal.specs.CanBePut.{CanBePut, AllCanBePut}
use Rattle.tree_journal.specs.Staging.{resolved, resolve, outcome}
use Rattle.tree_journal.specs.Recovery.{is_flag, is_committed, RecoversTo, at_rest, by_log}
use Rattle.system_core.specs.FixedDirs.{◌>>=◌, fixed_dirs}
use Rattle.rollback_stack.specs.cny-base.Reserved.{private_directory}
use Rattle.tree_journal.proofs.tree-disk.Children.{some_dir as parent_dir}

abbrev pub base : Name
base = private_directory

-- ---- the three directories

pub record Dirs (tree : Tree) : Type 0 where
  pub top : is_dir_at tree (codes "/") ≡ true
  pub var : is_dir_at tree (codes "/var") ≡ true
  pub lib : is_dir_at tree (codes "/var/lib") ≡ true

abbrev pub test : Bool → Refusal → Result (Unit {0}) Refusal
test b r = cond b (Ok tt) (Err r)

pub dirs_by : (a b c : Bool) (x y z : Refusal) → (test a x >>= λ _. test b y >>= λ _. test c z) ≡ Ok tt → (a ≡ true) × (b ≡ true) × (c ≡ true)
dirs_by true true true x y z h = (refl, refl, refl)
dirs_by true true false x y z h = absurd cc
dirs_by true false c x y z h = absurd cc
dirs_by false b c x y z h = absurd cc

pub dirs_of : (tree : Tree) → fixed_dirs tree ≡ Ok tt → Dirs tree
dirs_of tree h =
    let each = dirs_by (is_dir_at tree (codes "/")) (is_dir_at tree (codes "/var")) (is_dir_at tree (codes "/var/lib")) _ _ _ h in
    record { top = each.0; var = each.1; lib = each.2 }

pub of_dirs : (tree : Tree) → Dirs tree → fixed_dirs tree ≡ Ok tt
of_dirs tree dirs = rw (dirs.top, dirs.var, dirs.lib) refl

-- trees with equal nodes at the three names
pub same_dirs : (t u : Tree) → ((q : Name) → is_own base q ≡ false → get t q ≡ get u q) → fixed_dirs t ≡ fixed_dirs u
same_dirs t u same = rw (same (codes "/") refl, same (codes "/var") refl, same (codes "/var/lib") refl) refl

-- ---- a directory among targets

want_dir : (w : Want) → is_dir_want w ≡ true → is_dir (node_of w) ≡ true
want_dir want.Nothing h = absurd cc
want_dir (want.Dir mode) h = refl
want_dir (want.File mode bytes) h = absurd cc
want_dir (want.Link target) h = absurd cc
want_dir (want.Staged mode number size name) h = absurd cc

with_dir : (puts : List Put) (t : Tree) (q : Name) → All (λ p. p.path ≡ q → is_dir_want p.want ≡ true) puts → is_dir_at t q ≡ true → is_dir_at (with_targets puts t) q ≡ true
with_dir [] t q all dir = dir
with_dir (p ∷ puts) t q all dir = with_dir puts (put t p.path (node_of p.want)) q (All-tail (λ (p : Put). p.path ≡ q → is_dir_want p.want ≡ true) p puts all) (by (same_name q p.path) refl)
  where
    by : (b : Bool) → same_name q p.path ≡ b → is_dir_at (put t p.path (node_of p.want)) q ≡ true
    by true same =
        let here : get (put t p.path (node_of p.want)) q ≡ node_of p.want = get_put t p.path (node_of p.want) q ∙ ap (λ b. cond b (node_of p.want) (get t q)) same in
        ap is_dir here ∙ want_dir p.want (All-head (λ (p : Put). p.path ≡ q → is_dir_want p.want ≡ true) p puts all (sym (same_means q p.path same)))
    by false same = ap is_dir (get_put_other t p.path (node_of p.want) q same) ∙ dir

-- the base isn't a target
not_target : (puts : List Put) → All (λ p. CanBeNamed base p.path) puts → is_target puts base ≡ false
not_target [] named = refl
not_target (p ∷ puts) named = by (same_name base p.path) refl (All-head (λ (p : Put). CanBeNamed base p.path) p puts named) (not_target puts (All-tail (λ (p : Put). CanBeNamed base p.path) p puts named))
  where
    by : (b : Bool) → same_name base p.path ≡ b → CanBeNamed base p.path → is_target puts base ≡ false → (b || is_target puts base) ≡ false
    by true same can rest =
        let own : is_own base p.path ≡ true = ap (is_own base) (sym (same_means base p.path same)) in
        absurd (cc (own, can.not_own))
    by false same can rest = rest

flag_stands : (o : Option Node) → is_flag o ≡ true → is_some o ≡ true
flag_stands None h = absurd cc
flag_stands (Some n) h = refl

-- the flag lies in the base
base_stands : (tree : Tree) → WellFormed tree → is_committed base tree ≡ true → is_dir (get tree base) ≡ true
base_stands tree well set = well.parents (gate base) (flag_stands (get tree (gate base)) set)

no_dir : (o : Option Node) → o ≡ None → is_dir o ≡ true → ⊥
no_dir None is h = cc h
no_dir (Some n) is h = cc is

-- above the base only directories can be put
above_base : (puts : List Put) (tree : Tree) (q : Name) → WellFormed tree → is_committed base tree ≡ true → All (λ p. CanBeNamed base p.path) puts → AllCanBePut puts tree
    → IsTrue (is_path base) → IsTrue (is_below q base) → All (λ p. p.path ≡ q → is_dir_want p.want ≡ true) puts
above_base puts tree q well set named can path below = All-weaker (CanBePut puts tree) (λ p. p.path ≡ q → is_dir_want p.want ≡ true) (λ p one is. by p one is (is_dir_want p.want) refl) puts can
  where
    by : (p : Put) → CanBePut puts tree p → p.path ≡ q → (b : Bool) → is_dir_want p.want ≡ b → b ≡ true
    by p one is true w = refl
    by p one is false w =
        let none : get tree base ≡ None = one.below w base (ap (λ (n : Name). is_below n base) is ∙ below) (not_target puts named) in
        absurd (no_dir (get tree base) none (base_stands tree well set))

never_root : (puts : List Put) → All (λ p. CanBeNamed base p.path) puts → All (λ p. p.path ≡ codes "/" → is_dir_want p.want ≡ true) puts
never_root puts named = All-weaker (λ (p : Put). CanBeNamed base p.path) (λ p. p.path ≡ codes "/" → is_dir_want p.want ≡ true) (λ p can is. absurd (can.not_root is)) puts named

-- a staged file is one in place of a file
resolved_dir : (tree : Tree) (w : Want) → is_dir_want (resolved base tree w) ≡ is_dir_want w
resolved_dir tree want.Nothing = refl
resolved_dir tree (want.Dir mode) = refl
resolved_dir tree (want.File mode bytes) = refl
resolved_dir tree (want.Link target) = refl
resolved_dir tree (want.Staged mode number size name) = refl

with_outcome_dir : (puts : List Put) (tree : Tree) (q : Name) → All (λ p. p.path ≡ q → is_dir_want p.want ≡ true) puts → is_dir_at tree q ≡ true → is_dir_at (outcome base puts tree) q ≡ true
with_outcome_dir puts tree q all dir = with_dir (map (resolve base tree) puts) tree q
    (All-map (λ (p : Put). p.path ≡ q → is_dir_want p.want ≡ true) (resolve base tree) puts
    (All-weaker (λ (p : Put). p.path ≡ q → is_dir_want p.want ≡ true) (λ (p : Put). p.path ≡ q → is_dir_want (resolved base tree p.want) ≡ true) (λ p here is. resolved_dir tree p.want ∙ here is) puts all))
    dir

dirs_with : (puts : List Put) (tree : Tree) → WellFormed tree → is_committed base tree ≡ true → All (λ p. CanBeNamed base p.path) puts → AllCanBePut puts tree → IsTrue (is_path base) → Dirs tree → Dirs (outcome base puts tree)
dirs_with puts tree well set named can path dirs = record {
  top = with_outcome_dir puts tree (codes "/") (never_root puts named) dirs.top;
  var = with_outcome_dir puts tree (codes "/var") (above_base puts tree (codes "/var") well set named can path refl) dirs.var;
  lib = with_outcome_dir puts tree (codes "/var/lib") (above_base puts tree (codes "/var/lib") well set named can path refl) dirs.lib;
}

-- the fixed directories stand in what a root recovers to where they stand in the root
pub dirs_recovered : (tree recovered : Tree) → WellFormed tree → IsTrue (is_path base) → RecoversTo base tree recovered → fixed_dirs tree ≡ Ok tt → fixed_dirs recovered ≡ Ok tt
dirs_recovered tree recovered well path (at_rest clear stores) dirs = sym (same_dirs tree recovered stores) ∙ dirs
dirs_recovered tree recovered well path (by_log set puts holds stand can stores) dirs =
    sym (same_dirs (outcome base puts tree) recovered stores)
    ∙ of_dirs (outcome base puts tree) (dirs_with puts tree well set holds.text.loggable.named can path (dirs_of tree dirs))

-- ---- where they don't stand

-- with a set flag they stand
pub committed_dirs : (tree : Tree) → WellFormed tree → is_committed base tree ≡ true → fixed_dirs tree ≡ Ok tt
committed_dirs tree well set =
    let at_base : is_dir (get tree base) ≡ true = base_stands tree well set in
    let at_lib : is_dir (get tree (codes "/var/lib")) ≡ true = well.parents base (parent_dir (get tree base) at_base) in
    let at_var : is_dir (get tree (codes "/var")) ≡ true = well.parents (codes "/var/lib") (parent_dir (get tree (codes "/var/lib")) at_lib) in
    of_dirs tree (record { top = well.root_stands; var = at_var; lib = at_lib })

-- the same answer, of a root and of what it recovers to
pub same_fixed : (tree recovered : Tree) → WellFormed tree → IsTrue (is_path base) → RecoversTo base tree recovered → fixed_dirs recovered ≡ fixed_dirs tree
same_fixed tree recovered well path (at_rest clear stores) = sym (same_dirs tree recovered stores)
same_fixed tree recovered well path (by_log set puts holds stand can stores) =
    dirs_recovered tree recovered well path (by_log set puts holds stand can stores) (committed_dirs tree well set) ∙ sym (committed_dirs tree well set)
