-- Write sets, and what stands in a tree with all targets.
use Rattle.std.proofs.Common.{◌≡◌, ⊎_elim, ℕ, ◌+◌, ◌<◌, Bool, true, false, cond, ◌||◌, List, [], ◌∷◌, ◌++◌, length, get_or, take, drop, Contains, refl, sym, ◌∙◌, ap}
use Rattle.std.proofs.lemmas.Bool.{cases_Bool}
use Rattle.std.proofs.lemmas.List.{take_more, drop_more}
use Rattle.std.specs.FinMap.{get}
use Rattle.std.specs.declared.cmp.Ordering.TheVariants.{Less}
use Rattle.std.specs.Cmp.Lexicographic.{nat_list_cmp_total}
use Rattle.journal_log.specs.cny-base.Below.{is_below}
use Rattle.journal_log.proofs.cny-base.Below.{below_rest, shorter_less}
use Rattle.journal_log.specs.tree-disk.Tree.{Name, Tree, same_name, put}
use Rattle.journal_log.specs.tree-disk.Laws.{same_means, get_put}
use Rattle.journal_log.proofs.tree-disk.Laws.{get_put_other, same_tree}
use Rattle.journal_log.specs.declared.put.Put.{Put}
use Rattle.journal_log.specs.WriteSet.{Rises}
use Rattle.journal_log.specs.Targets.{node_of, is_target, with_targets}
use Rattle.journal_log.proofs.tree-disk.Order.{name_cmp, less_differs, not_itself}
use Rattle.journal_log.proofs.cny-base.Lists.{contains_first, contains_rest}
use Rattle.journal_log.proofs.Walking.{listed as is_target-from}

-- what lies below comes later
pub below_later : (p q : Name) → is_below p q ≡ true → name_cmp p q ≡ Less
below_later p q low = let rest = below_rest p q low in ap (name_cmp p) rest.1 ∙ shorter_less p 47 rest.0

-- ---- tests

pub neither : (a b : Bool) → (a || b) ≡ false → (a ≡ false) × (b ≡ false)
neither true b h = absurd (cc h)
neither false b h = (refl, h)

-- ---- targets

pub target_at : (puts : List Put) (path : Name) → is_target puts path ≡ true → (p : Put) × Contains puts p × (path ≡ p.path)
target_at [] path h = absurd (cc h)
target_at (r ∷ puts) path h = by (same_name path r.path) refl (target_at puts path)
  where
    by : (b : Bool) → same_name path r.path ≡ b → (is_target puts path ≡ true → (p : Put) × Contains puts p × (path ≡ p.path)) → (p : Put) × Contains (r ∷ puts) p × (path ≡ p.path)
    by true is rest = (r, contains_first r puts, same_means path r.path is)
    by false is rest =
        let there = rest (sym (ap (λ (b : Bool). b || is_target puts path) is) ∙ h) in
        (there.0, contains_rest r there.0 puts there.1, there.2)

-- ---- the order of a write set

-- all later targets come after the first
pub first_before : (p : Put) (puts : List Put) → Rises (p ∷ puts) → (q : Name) → is_target puts q ≡ true → name_cmp p.path q ≡ Less
first_before p [] rises q h = absurd (cc h)
first_before p (r ∷ puts) rises q h = by (first_before r puts rises.1 q) (same_name q r.path) refl
  where
    by : (is_target puts q ≡ true → name_cmp r.path q ≡ Less) → (b : Bool) → same_name q r.path ≡ b → name_cmp p.path q ≡ Less
    by later true is = ap (name_cmp p.path) (same_means q r.path is) ∙ rises.0
    by later false is = nat_list_cmp_total.trans p.path r.path q rises.0 (later (sym (ap (λ (b : Bool). b || is_target puts q) is) ∙ h))

pub first_not_later : (p : Put) (puts : List Put) → Rises (p ∷ puts) → is_target puts p.path ≡ false
first_not_later p puts rises = ⊎_elim (λ h. absurd (not_itself p.path (first_before p puts rises p.path h))) (λ h. h) (cases_Bool (is_target puts p.path))

-- a later write is at another path
pub later_differs : (p : Put) (puts : List Put) → Rises (p ∷ puts) → (r : Put) → Contains puts r → same_name r.path p.path ≡ false
later_differs p puts rises r in' = less_differs p.path r.path (first_before p puts rises r.path (is_target-from puts r in'))

-- ---- the tree with all targets

-- outside its targets the tree is as it was
pub with_targets_outside : (puts : List Put) (tree : Tree) (q : Name) → is_target puts q ≡ false → get (with_targets puts tree) q ≡ get tree q
with_targets_outside [] tree q h = refl
with_targets_outside (r ∷ puts) tree q h =
    let parts = neither (same_name q r.path) (is_target puts q) h in
    with_targets_outside puts (put tree r.path (node_of r.want)) q parts.1 ∙ get_put_other tree r.path (node_of r.want) q parts.0

-- at a target it doesn't matter what stood there
pub with_targets_inside : (puts : List Put) (a b : Tree) (q : Name) → is_target puts q ≡ true → get (with_targets puts a) q ≡ get (with_targets puts b) q
with_targets_inside [] a b q h = absurd (cc h)
with_targets_inside (r ∷ puts) a b q h = by (with_targets_inside puts (put a r.path (node_of r.want)) (put b r.path (node_of r.want)) q) (is_target puts q) refl
  where
    first : (t : Tree) → is_target puts q ≡ false → get (with_targets puts (put t r.path (node_of r.want))) q ≡ cond (same_name q r.path) (node_of r.want) (get t q)
    first t is = with_targets_outside puts (put t r.path (node_of r.want)) q is ∙ get_put t r.path (node_of r.want) q

    here : (x y : Bool) → y ≡ false → (x || y) ≡ true → x ≡ true
    here true y is h = refl
    here false y is h = absurd (cc (is, h))

    by : (is_target puts q ≡ true → get (with_targets puts (put a r.path (node_of r.want))) q ≡ get (with_targets puts (put b r.path (node_of r.want))) q)
        → (t : Bool) → is_target puts q ≡ t → get (with_targets puts (put a r.path (node_of r.want))) q ≡ get (with_targets puts (put b r.path (node_of r.want))) q
    by later true is = later is
    by later false is =
        let same = here (same_name q r.path) (is_target puts q) is h in
        first a is ∙ ap (λ (t : Bool). cond t (node_of r.want) (get a q)) same ∙ sym (first b is ∙ ap (λ (t : Bool). cond t (node_of r.want) (get b q)) same)

-- trees that agree outside the targets are one tree with them
pub with_targets_agree : (puts : List Put) (a b : Tree) → ((q : Name) → is_target puts q ≡ false → get a q ≡ get b q) → with_targets puts a ≡ with_targets puts b
with_targets_agree puts a b agree = same_tree (with_targets puts a) (with_targets puts b) (λ q. ⊎_elim (with_targets_inside puts a b q)
    (λ is. with_targets_outside puts a q is ∙ agree q is ∙ sym (with_targets_outside puts b q is)) (cases_Bool (is_target puts q)))

-- ---- a write at its place

pub rest_at : (puts : List Put) (i : ℕ) (p : Put) → i < length puts → p ≡ get_or puts i p → drop i puts ≡ p ∷ drop (i + 1) puts
rest_at puts i p lt is = drop_more puts i p lt ∙ ap (λ (y : Put). y ∷ drop (i + 1) puts) (sym is)

pub front_at : (puts : List Put) (i : ℕ) (p : Put) → i < length puts → p ≡ get_or puts i p → take (i + 1) puts ≡ take i puts ++ p ∷ []
front_at puts i p lt is = take_more puts i p lt ∙ ap (λ (y : Put). take i puts ++ y ∷ []) (sym is)

pub place_listed : (puts : List Put) (i : ℕ) (p : Put) → i < length puts → p ≡ get_or puts i p → Contains puts p
place_listed puts i p lt is = (i, lt, sym is)

-- the name of a write is a target
pub own_target : (puts : List Put) (i : ℕ) (p : Put) → i < length puts → p ≡ get_or puts i p → (q : Name) → same_name q p.path ≡ true → is_target puts q ≡ true
own_target puts i p lt is q same = ap (is_target puts) (same_means q p.path same) ∙ is_target-from puts p (place_listed puts i p lt is)
