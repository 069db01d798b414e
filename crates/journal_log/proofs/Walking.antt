-- From a path up to `/`, past the targets above it.
use Rattle.std.proofs.Common.{◌≡◌, ◌⊎◌, inl, inr, ⊎_elim, ℕ, zero, suc, ◌<◌, ◌≤◌, Bool, true, false, ◌||◌, IsTrue, List, [], ◌∷◌, length, get_or, take, All, Contains, refl, sym, ◌∙◌, ap, subst, arith}
use Rattle.std.specs.declared.cmp.Ordering.TheVariants.{Less}
use Rattle.std.specs.Ordering.{nat_cmp}
use Rattle.std.specs.Cmp.Lexicographic.{slice_cmp, nat_list_cmp_total}
use Rattle.std.specs.List.{HoldsAt}
use Rattle.std.proofs.lemmas.List.{take_all}
use Rattle.std.proofs.lemmas.List.Elements.{All-contains, Contains-get_or}
use Rattle.tree_disk.specs.cny-base.Path.{is_path, root, parent}
use Rattle.tree_disk.specs.cny-base.Below.{is_below}
use Rattle.tree_disk.proofs.cny-base.Below.{below_parent, above_parent, child_below, none_below_root, parent_shorter}
use Rattle.tree_disk.proofs.cny-base.Parent.{parent_is_path}
use Rattle.tree_disk.specs.Tree.{Name, same_name}
use Rattle.tree_disk.proofs.Laws.{same_itself}
use Rattle.journal_log.specs.declared.put.Want.TheVariants.{Nothing}
use Rattle.journal_log.specs.declared.put.Put.{Put}
use Rattle.journal_log.specs.WriteSet.{Rises}
use Rattle.journal_log.specs.Targets.{is_dir_want, is_target}
use Rattle.journal_log.specs.Rules.{AreLogged, AreNamed, NothingBelow, NoneBelow, DirsAbove, DirAt, AreInner}
use Rattle.tree_disk.proofs.Names.{no_path as not_empty}

-- ---- one place for each path

before_all : (p : Put) (puts : List Put) → Rises (p ∷ puts) → (k : ℕ) (d : Put) → k < length puts → slice_cmp nat_cmp p.path (get_or puts k d).path ≡ Less
before_all p [] rises k d lt = absurd (omega arith)
before_all p (q ∷ puts) rises zero d lt = rises.0
before_all p (q ∷ puts) rises (suc k) d lt = nat_list_cmp_total.trans p.path q.path (get_or puts k d).path rises.0 (before_all q puts rises.1 k d (omega arith))

never_less : (p : Name) → slice_cmp nat_cmp p p ≡ Less → ⊥
never_less p less = let turned = nat_list_cmp_total.antisymm p p in cc (less, turned)

one_place : (puts : List Put) (i j : ℕ) (d e : Put) → Rises puts → i < length puts → j < length puts → (get_or puts i d).path ≡ (get_or puts j e).path → i ≡ j
one_place [] i j d e rises li lj same = absurd (omega arith)
one_place (p ∷ puts) zero zero d e rises li lj same = refl
one_place (p ∷ puts) zero (suc j) d e rises li lj same =
    absurd (never_less p.path (ap (slice_cmp nat_cmp p.path) same ∙ before_all p puts rises j e (omega arith)))
one_place (p ∷ puts) (suc i) zero d e rises li lj same =
    absurd (never_less p.path (ap (slice_cmp nat_cmp p.path) (sym same) ∙ before_all p puts rises i d (omega arith)))
one_place (p ∷ puts) (suc i) (suc j) d e rises li lj same = ap suc (one_place puts i j d e rises.1 (omega arith) (omega arith) same)

-- what stands at the place of a path decides for all puts there
pub place_decides : (puts : List Put) (path : Name) (place : ℕ) (q : Put) (b : Bool) → Rises puts → place < length puts → HoldsAt (λ p. p.path ≡ path) puts place → q ≡ get_or puts place q → b ≡ is_dir_want q.want
    → (IsTrue b → DirAt puts path) × (DirAt puts path → IsTrue b)
place_decides puts path place q b rises lt here is found = (to, from)
  where
    to : IsTrue b → DirAt puts path
    to h p in_puts same =
        let one = one_place puts in_puts.0 place p q rises in_puts.1 lt (ap (λ (x : Put). x.path) in_puts.2 ∙ same ∙ sym (here q)) in
        let equal : p ≡ q = sym in_puts.2 ∙ ap (λ (k : ℕ). get_or puts k p) one ∙ any_default p ∙ sym is in
        ap (λ (x : Put). is_dir_want x.want) equal ∙ sym found ∙ h
      where
        default : (xs : List Put) (k : ℕ) (d e : Put) → k < length xs → get_or xs k d ≡ get_or xs k e
        default [] k d e l = absurd (omega arith)
        default (x ∷ xs) zero d e l = refl
        default (x ∷ xs) (suc k) d e l = default xs k d e (omega arith)

        any_default : (d : Put) → get_or puts place d ≡ get_or puts place q
        any_default d = default puts place d q lt

    from : DirAt puts path → IsTrue b
    from dirs = found ∙ dirs q (place, lt, sym is) (ap (λ (x : Put). x.path) is ∙ here q)

pub listed : (puts : List Put) (p : Put) → Contains puts p → is_target puts p.path ≡ true
listed puts p in_puts = at puts in_puts.0 in_puts.1 in_puts.2
  where
    at : (xs : List Put) (k : ℕ) → k < length xs → get_or xs k p ≡ p → is_target xs p.path ≡ true
    at [] k l e = absurd (omega arith)
    at (x ∷ xs) zero l e = here (ap (λ (y : Put). same_name p.path y.path) e ∙ same_itself p.path)
      where
        here : same_name p.path x.path ≡ true → (same_name p.path x.path || is_target xs p.path) ≡ true
        here h = ap (λ t. t || is_target xs p.path) h
    at (x ∷ xs) (suc k) l e = later (same_name p.path x.path) (at xs k (omega arith) e)
      where
        later : (t : Bool) → is_target xs p.path ≡ true → (t || is_target xs p.path) ≡ true
        later true h = refl
        later false h = h

pub none_decides : (puts : List Put) (path : Name) → is_target puts path ≡ false → (IsTrue true → DirAt puts path) × (DirAt puts path → IsTrue true)
none_decides puts path none = ((λ h p in_puts same. absurd (cc (none, sym (ap (is_target puts) same) ∙ listed puts p in_puts))), λ dirs. refl)

-- ---- from parent to parent

-- The name above is `/` or lies above the path; each target above the path stands there, above it, or is a directory.
pub record WalksUp (puts : List Put) (path above : Name) : Type 0 where
  pub path_is : is_path above ≡ true
  pub low : (above ≡ root) ⊎ (is_below above path ≡ true)
  pub seen : (p : Put) → Contains puts p → is_below p.path path ≡ true → (p.path ≡ above) ⊎ ((is_below p.path above ≡ true) ⊎ (is_dir_want p.want ≡ true))

pub walk_begins : (puts : List Put) (path : Name) → AreInner puts → is_path path ≡ true → WalksUp puts path (parent path)
walk_begins puts path inner is = record {
  path_is = parent_is_path path is;
  low = child_below path is;
  seen = λ p in_puts below. ⊎_elim (λ e. inl e) (λ e. inr (inl e)) (below_parent p.path path (not_empty p.path (inner p in_puts).path_is) below);
}

pub walk_goes_on : (puts : List Put) (path above : Name) → AreInner puts → (above ≡ root → ⊥) → DirAt puts above → WalksUp puts path above → WalksUp puts path (parent above)
walk_goes_on puts path above inner other dirs walk = record {
  path_is = parent_is_path above walk.path_is;
  low = ⊎_elim (λ e. absurd (other e)) (λ below. above_parent above path walk.path_is below) walk.low;
  seen = λ p in_puts below. ⊎_elim (λ here. inr (inr (dirs p in_puts here))) (λ more. ⊎_elim
      (λ higher. ⊎_elim (λ e. inl e) (λ e. inr (inl e)) (below_parent p.path above (not_empty p.path (inner p in_puts).path_is) higher))
      (λ dir. inr (inr dir)) more) (walk.seen p in_puts below);
}

pub walk_ends : (puts : List Put) (path above : Name) → AreInner puts → above ≡ root → WalksUp puts path above → DirsAbove puts path
walk_ends puts path above inner top walk p in_puts below =
    ⊎_elim (λ here. absurd ((inner p in_puts).not_root (here ∙ top)))
    (λ more. ⊎_elim (λ higher. absurd (none_below_root p.path (inner p in_puts).path_is (ap (is_below p.path) (sym top) ∙ higher))) (λ dir. dir) more)
    (walk.seen p in_puts below)

pub walk_shortens : (above : Name) → is_path above ≡ true → (above ≡ root → ⊥) → length (parent above) < length above
walk_shortens above is other = ⊎_elim (λ e. absurd (other e)) (λ lt. lt) (parent_shorter above is)

-- ---- put by put

pub whole : (P : Put → Type 0) (puts : List Put) (k : ℕ) → length puts ≤ k → All P (take k puts) → (p : Put) → Contains puts p → P p
whole P puts k le all p in_puts = All-contains P puts p (subst (All P) (take_all k puts le) all) in_puts

-- ---- both rules

each_below : (puts : List Put) → NothingBelow puts → NoneBelow puts
each_below puts all p q p_in q_in below file =
    All-contains (λ q. IsTrue (is_below p.path q.path) → q.want ≡ Nothing) puts q
    (All-contains (λ p. is_dir_want p.want ≡ false → All (λ q. IsTrue (is_below p.path q.path) → q.want ≡ Nothing) puts) puts p all p_in file) q_in below

all_below : (puts : List Put) → NoneBelow puts → NothingBelow puts
all_below puts each = λ k d lt file j e lj below. each (get_or puts k d) (get_or puts j e) (Contains-get_or puts k d lt) (Contains-get_or puts j e lj) below file

pub not_kept : (base : Name) (a b : List Put) (P : Type 0) → a ≡ b → (AreNamed base a → P) → (AreNamed base b × NothingBelow b × AreLogged base b → P)
not_kept base a b P same un both = un (subst (AreNamed base) (sym same) both.0)

pub not_logged : (base : Name) (a b : List Put) (P : Type 0) → a ≡ b → (AreLogged base a → P) → (AreNamed base b × NothingBelow b × AreLogged base b → P)
not_logged base a b P same un both = un (subst (AreLogged base) (sym same) both.2)

pub kept : (base : Name) (a b : List Put) (r : Bool) → a ≡ b → AreNamed base a → AreLogged base a → (IsTrue r → NoneBelow a) → (NoneBelow a → IsTrue r)
    → (IsTrue r → AreNamed base b × NothingBelow b × AreLogged base b) × (AreNamed base b × NothingBelow b × AreLogged base b → IsTrue r)
kept base a b r same named logged to from =
    ((λ h. (subst (AreNamed base) same named, subst NothingBelow same (all_below a (to h)), subst (AreLogged base) same logged)), λ both. from (each_below a (subst NothingBelow (sym same) both.1)))
