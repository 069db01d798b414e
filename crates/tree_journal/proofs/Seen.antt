-- What readers see while targets are put.
use Rattle.std.proofs.Common.{◌≡◌, ◌⊎◌, inl, inr, ⊎_elim, ℕ, zero, suc, ◌+◌, ◌<◌, ◌≤◌, Bool, true, false, List, [], ◌∷◌, length, get_or, map, take, drop, Option, Some, None, Ok, refl, sym, ◌∙◌, ap, subst}
use Rattle.std.proofs.lemmas.Bool.{cases_Bool}
use Rattle.std.specs.FinMap.{get}
use Rattle.std.specs.List.{All}
use Rattle.journal_log.specs.cny-base.Path.{is_path}
use Rattle.journal_log.specs.cny-base.declared.node.Node.{Node}
use Rattle.journal_log.specs.cny-base.declared.node.Node.TheVariants as node
use Rattle.journal_log.specs.tree-disk.Tree.{Name, Tree, same_name, put}
use Rattle.journal_log.specs.tree-disk.Laws.{same_means}
use Rattle.journal_log.proofs.tree-disk.Laws.{get_put_here, get_put_other}
use Rattle.journal_log.specs.tree-disk.Disk.{DiskModel, HasRead}
use Rattle.journal_log.specs.tree-disk.Moments.{shows_weaker}
use Rattle.journal_log.specs.tree-disk.Confined.{AgreesExcept, Among, Confined}
use Rattle.journal_log.specs.tree-disk.Steps.{Makes}
use Rattle.journal_log.specs.tree-disk.Unfailed.{IsEither, UnlessFailed}
use Rattle.journal_log.proofs.tree-disk.Unfailed.{unfailed_weaker, unfailed_then, unfailed_confined}
use Rattle.journal_log.specs.declared.put.Want.{Want}
use Rattle.journal_log.specs.declared.put.Want.TheVariants as want
use Rattle.journal_log.specs.declared.put.Put.{Put}
use Rattle.journal_log.specs.Own.{is_own, StoresSame}
use Rattle.journal_log.specs.WriteSet.{CanBeNamed, Rises}
use Rattle.journal_log.specs.Targets.{is_target, node_of, with_targets}
use Rattle.tree_journal.specs.Staging.{resolved, resolve, outcome}
use Rattle.tree_journal.specs.Passes.{obstructs, cleared, all_cleared, with_target}
use Rattle.tree_journal.specs.Visible.{differ_in_kind, ShowsNode, IsVisible, IsBetween, IsObstructedAt, IsPartCleared}
use Rattle.tree_journal.proofs.WriteSets.{first_not_later}
use Rattle.tree_journal.proofs.Staged.{outcome_target, outcome_outside}
use Rattle.tree_journal.proofs.MakePass.{one_more_made, step_made}
use Rattle.tree_journal.proofs.ClearPass.{get-cleared_other, cleared_away, cleared_kept, all_cleared_outside}
use Rattle.journal_log.proofs.cny-base.Lists.{contains_first, contains_rest}

-- ---- the first pass

wider : (p : Put) (puts : List Put) (tree : Tree) (q : Name) → IsObstructedAt puts tree q → IsObstructedAt (p ∷ puts) tree q
wider p puts tree q at = record { write = at.write; listed = contains_rest p at.write puts at.listed; here = at.here; obstructed = at.obstructed }

part_cleared : (puts : List Put) (tree : Tree) → Rises puts → IsPartCleared puts tree (all_cleared puts tree)
part_cleared [] tree rises q = inl refl
part_cleared (p ∷ puts) tree rises q = by (part_cleared puts tree rises.1 q) (same_name q p.path) refl
  where
    by : ((get (all_cleared puts tree) q ≡ get tree q) ⊎ ((get (all_cleared puts tree) q ≡ None) × IsObstructedAt puts tree q)) → (b : Bool) → same_name q p.path ≡ b
        → (get (cleared (all_cleared puts tree) p) q ≡ get tree q) ⊎ ((get (cleared (all_cleared puts tree) p) q ≡ None) × IsObstructedAt (p ∷ puts) tree q)
    by later false other =
        let kept = get-cleared_other (all_cleared puts tree) p q other in
        ⊎_elim (λ same. inl (kept ∙ same)) (λ gone. inr (kept ∙ gone.0, wider p puts tree q gone.1)) later
    by later true same = ⊎_elim
        (λ away. inr (
          ap (get (cleared (all_cleared puts tree) p)) is ∙ ap (λ (t : Tree). get t p.path) (cleared_away (all_cleared puts tree) p away) ∙ get_put_here (all_cleared puts tree) p.path None,
          record { write = p; listed = contains_first p puts; here = is; obstructed = ap (λ (n : Name). obstructs p.want (get tree n)) is ∙ sym (ap (obstructs p.want) kept) ∙ away },
        ))
        (λ clear. inl (ap (get (cleared (all_cleared puts tree) p)) is ∙ ap (λ (t : Tree). get t p.path) (cleared_kept (all_cleared puts tree) p clear) ∙ kept ∙ sym (ap (get tree) is)))
        (cases_Bool (obstructs p.want (get (all_cleared puts tree) p.path)))
      where
        is : q ≡ p.path
        is = same_means q p.path same

        kept : get (all_cleared puts tree) p.path ≡ get tree p.path
        kept = all_cleared_outside puts tree p.path (first_not_later p puts rises)

rises_drop : (puts : List Put) (i : ℕ) → Rises puts → Rises (drop i puts)
rises_drop puts zero rises = rises
rises_drop [] (suc i) rises = rises
rises_drop (p ∷ puts) (suc i) rises = rises_drop puts i rises.1

drop_obstructed : (puts : List Put) (i : ℕ) (tree : Tree) (q : Name) → IsObstructedAt (drop i puts) tree q → IsObstructedAt puts tree q
drop_obstructed puts zero tree q at = at
drop_obstructed [] (suc i) tree q at = at
drop_obstructed (p ∷ puts) (suc i) tree q at = wider p puts tree q (drop_obstructed puts i tree q at)

-- the trees of the first pass
pub rest_cleared : (puts : List Put) (i : ℕ) (tree : Tree) → Rises puts → IsPartCleared puts tree (all_cleared (drop i puts) tree)
rest_cleared puts i tree rises q = ⊎_elim (λ same. inl same) (λ gone. inr (gone.0, drop_obstructed puts i tree q gone.1)) (part_cleared (drop i puts) tree (rises_drop puts i rises) q)

-- a step of it
pub step_cleared : {D : Type 0} {disk : DiskModel D} (puts : List Put) (tree : Tree) (mid new : D) (before after : Tree) → disk.reads mid ≡ before
    → IsPartCleared puts tree before → IsPartCleared puts tree after → UnlessFailed disk mid new (IsEither (disk.reads mid) after) → UnlessFailed disk mid new (IsPartCleared puts tree)
step_cleared puts tree mid new before after is was now seen = unfailed_weaker (λ t e. ⊎_elim
    (λ same. subst (IsPartCleared puts tree) (sym (same ∙ is)) was)
    (λ same. subst (IsPartCleared puts tree) (sym same) now) e) seen

-- ---- the second pass

-- the trees of the second pass
pub front_made : (base : Name) (start : Tree) (puts : List Put) (tree : Tree) (i : ℕ) → Rises puts → (q : Name)
    → (get (with_targets (map (resolve base start) (take i puts)) tree) q ≡ get tree q) ⊎ (get (with_targets (map (resolve base start) (take i puts)) tree) q ≡ get (with_targets (map (resolve base start) puts) tree) q)
front_made base start puts tree zero rises q = inl refl
front_made base start [] tree (suc i) rises q = inl refl
front_made base start (p ∷ puts) tree (suc i) rises q = ⊎_elim (λ early. by early (same_name q p.path) refl) (λ late. inr late) (front_made base start puts next i rises.1 q)
  where
    next : Tree
    next = put tree p.path (node_of (resolved base start p.want))

    by : get (with_targets (map (resolve base start) (take i puts)) (put tree p.path (node_of (resolved base start p.want)))) q ≡ get (put tree p.path (node_of (resolved base start p.want))) q
        → (b : Bool) → same_name q p.path ≡ b
        → (get (with_targets (map (resolve base start) (take i puts)) (put tree p.path (node_of (resolved base start p.want)))) q ≡ get tree q)
        ⊎ (get (with_targets (map (resolve base start) (take i puts)) (put tree p.path (node_of (resolved base start p.want)))) q ≡ get (with_targets (map (resolve base start) puts) (put tree p.path (node_of (resolved base start p.want)))) q)
    by early false other = inl (early ∙ get_put_other tree p.path (node_of (resolved base start p.want)) q other)
    by early true same = inr (early ∙ sym (outcome_outside base start puts (put tree p.path (node_of (resolved base start p.want))) q (ap (is_target puts) (same_means q p.path same) ∙ first_not_later p puts rises)))

-- readers see one tree or the other, and both show the old node or the new one
pub between_both : (base : Name) (before after a b t : Tree) → IsBetween base before after a → IsBetween base before after b → IsBetween base a b t → IsBetween base before after t
between_both base before after a b t of_a of_b between q out = ⊎_elim
    (λ same. ⊎_elim (λ e. inl (same ∙ e)) (λ e. inr (same ∙ e)) (of_a q out))
    (λ same. ⊎_elim (λ e. inl (same ∙ e)) (λ e. inr (same ∙ e)) (of_b q out))
    (between q out)

pub between_either : (base : Name) (before after t : Tree) → IsEither before after t → IsBetween base before after t
between_either base before after t is q out = ⊎_elim (λ same. inl (ap (λ (u : Tree). get u q) same)) (λ same. inr (ap (λ (u : Tree). get u q) same)) is

-- a run at the journal's own names alone
pub between_own : {D : Type 0} {disk : DiskModel D} (base : Name) (names : Name → Bool) (old new : D) (after : Tree) → ((q : Name) → names q ≡ true → is_own base q ≡ true)
    → Confined disk (Among names) old new → UnlessFailed disk old new (IsBetween base (disk.reads old) after)
between_own base names old new after own run = unfailed_confined run (λ t agrees q out. inl (agrees q (λ h. absurd (cc (own q h, out)))))

-- a step of the second pass
pub step_between : {D : Type 0} {disk : DiskModel D} (base : Name) → is_path base ≡ true → (puts : List Put) → All (λ p. CanBeNamed base p.path) puts → Rises puts → (tree : Tree) (i : ℕ) (p : Put) → i < length puts → p ≡ get_or puts i p
    → (mid new : D) → disk.reads mid ≡ with_targets (map (resolve base tree) (take i puts)) tree → UnlessFailed disk mid new (IsBetween base (disk.reads mid) (with_target base p (disk.reads mid)))
    → UnlessFailed disk mid new (IsBetween base tree (outcome base puts tree))
step_between {disk = disk} base path puts named rises tree i p lt is mid new at seen = unfailed_weaker
    (λ t between. between_both base tree (outcome base puts tree) (with_targets (map (resolve base tree) (take i puts)) tree) (with_target base p (with_targets (map (resolve base tree) (take i puts)) tree)) t
    (λ q out. front_made base tree puts tree i rises q)
    (subst (IsBetween base tree (outcome base puts tree)) (sym (step_made base path puts named tree i p ∙ one_more_made base tree puts tree i p lt is)) (λ q out. front_made base tree puts tree (i + 1) rises q))
    (subst (λ (u : Tree). IsBetween base u (with_target base p u) t) at between)) seen

-- ---- both passes

-- what has to go shows nothing only where just one of the two nodes is a directory
gone_shows : (base : Name) (start : Tree) (w : Want) (o : Option Node) → obstructs w o ≡ true → ShowsNode o (node_of (resolved base start w)) None
gone_shows base start w None h = absurd (cc h)
gone_shows base start want.Nothing (Some (node.Dir mode)) h = inr (inl refl)
gone_shows base start want.Nothing (Some (node.File mode bytes)) h = inr (inl refl)
gone_shows base start want.Nothing (Some (node.Link target)) h = inr (inl refl)
gone_shows base start (want.Dir wanted) (Some (node.Dir mode)) h = absurd (cc h)
gone_shows base start (want.Dir wanted) (Some (node.File mode bytes)) h = inr (inr (refl, refl))
gone_shows base start (want.Dir wanted) (Some (node.Link target)) h = inr (inr (refl, refl))
gone_shows base start (want.File wanted more) (Some (node.Dir mode)) h = inr (inr (refl, refl))
gone_shows base start (want.File wanted more) (Some (node.File mode bytes)) h = absurd (cc h)
gone_shows base start (want.File wanted more) (Some (node.Link target)) h = absurd (cc h)
gone_shows base start (want.Link wanted) (Some (node.Dir mode)) h = inr (inr (refl, refl))
gone_shows base start (want.Link wanted) (Some (node.File mode bytes)) h = absurd (cc h)
gone_shows base start (want.Link wanted) (Some (node.Link target)) h = absurd (cc h)
gone_shows base start (want.Staged wanted number size name) (Some (node.Dir mode)) h = inr (inr (refl, refl))
gone_shows base start (want.Staged wanted number size name) (Some (node.File mode bytes)) h = absurd (cc h)
gone_shows base start (want.Staged wanted number size name) (Some (node.Link target)) h = absurd (cc h)

pub cleared_visible : (base : Name) (puts : List Put) (tree t : Tree) → Rises puts → IsPartCleared puts tree t → IsVisible base tree (outcome base puts tree) t
cleared_visible base puts tree t rises part q out = ⊎_elim (λ same. inl same) (λ gone. at gone.0 gone.1) (part q)
  where
    at : get t q ≡ None → IsObstructedAt puts tree q → ShowsNode (get tree q) (get (outcome base puts tree) q) (get t q)
    at none ob = subst (ShowsNode (get tree q) (get (outcome base puts tree) q)) (sym none)
        (subst (λ (n : Option Node). ShowsNode (get tree q) n None) (sym (ap (get (outcome base puts tree)) ob.here ∙ outcome_target base tree puts tree ob.write rises ob.listed))
        (gone_shows base tree ob.write.want (get tree q) ob.obstructed))

-- the second pass, from a tree of the first
pub made_visible : (base : Name) (puts : List Put) (tree mid after t : Tree) → Rises puts → IsPartCleared puts tree mid → after ≡ outcome base puts tree → IsBetween base mid after t
    → IsVisible base tree (outcome base puts tree) t
made_visible base puts tree mid after t rises part is between q out = ⊎_elim
    (λ same. subst (ShowsNode (get tree q) (get (outcome base puts tree) q)) (sym same) (cleared_visible base puts tree mid rises part q out))
    (λ same. inr (inl (same ∙ ap (λ (u : Tree). get u q) is)))
    (between q out)

-- ---- trees that store the same

pub visible_same : (base : Name) (a b g h t : Tree) → StoresSame base a b → StoresSame base g h → IsVisible base a g t → IsVisible base b h t
visible_same base a b g h t same_a same_g seen q out = ⊎_elim
    (λ old. inl (old ∙ same_a q out))
    (λ more. ⊎_elim
    (λ new. inr (inl (new ∙ same_g q out)))
    (λ gone. inr (inr (gone.0, sym (ap (λ (o : Option Node). differ_in_kind o (get g q)) (same_a q out) ∙ ap (differ_in_kind (get b q)) (same_g q out)) ∙ gone.1)))
    more)
    (seen q out)

-- what stores the same as the tree before, or as the tree after, shows it
pub visible_before : (base : Name) (before after t : Tree) → StoresSame base t before → IsVisible base before after t
visible_before base before after t same q out = inl (same q out)

pub visible_after : (base : Name) (before after t : Tree) → StoresSame base t after → IsVisible base before after t
visible_after base before after t same q out = inr (inl (same q out))

-- what agrees except at the journal's own names stores the same
pub agrees_stores : (base : Name) (names : Name → Bool) (t u : Tree) → ((q : Name) → names q ≡ true → is_own base q ≡ true) → AgreesExcept (Among names) t u → StoresSame base t u
agrees_stores base names t u own agrees q out = agrees q (λ h. absurd (cc (own q h, out)))

-- ---- runs

-- a call that only reads
pub read_shows : {D A : Type 0} {disk : DiskModel D} {old mid : D} {P : Tree → Type 0} → HasRead disk old mid A → ((t : Tree) → t ≡ disk.reads old → P t) → UnlessFailed disk old mid P
read_shows call so none = shows_weaker so call.same.visible

-- a step after calls that changed nothing
pub step_shows : {D A : Type 0} {disk : DiskModel D} {old mid new : D} {after later : Tree} → disk.faults old ≤ disk.faults mid → disk.faults mid ≤ disk.faults new → HasRead disk old mid A
    → UnlessFailed disk mid new (IsEither (disk.reads mid) after) → after ≡ later → UnlessFailed disk old new (IsEither (disk.reads old) later)
step_shows early late call seen is = unfailed_then early late (read_shows call (λ t same. inl same))
    (unfailed_weaker (λ t e. ⊎_elim (λ same. inl (same ∙ call.same.reads)) (λ same. inr (same ∙ is)) e) seen)

-- a file or link that was made at the work name, and is renamed
pub move_shows : {D : Type 0} {disk : DiskModel D} (base : Name) (names : Name → Bool) (old mid new : D) (before after goal : Tree) → ((q : Name) → names q ≡ true → is_own base q ≡ true) → disk.faults old ≤ disk.faults mid → disk.faults mid ≤ disk.faults new
    → Confined disk (Among names) old mid → UnlessFailed disk mid new (IsEither (disk.reads mid) after) → after ≡ goal → UnlessFailed disk old new (IsBetween base (disk.reads old) goal)
move_shows base names old mid new before after goal own early late run seen is = unfailed_then early late (between_own base names old mid goal own run)
    (unfailed_weaker (λ t e q out. ⊎_elim
    (λ same. inl (ap (λ (u : Tree). get u q) same ∙ run.reads q (λ h. absurd (cc (own q h, out)))))
    (λ same. inr (ap (λ (u : Tree). get u q) (same ∙ is))) e) seen)

-- a change at the journal's own names, and then a run
pub own_then : {D : Type 0} {disk : DiskModel D} (base : Name) (names : Name → Bool) (old mid new : D) (after goal : Tree) → ((q : Name) → names q ≡ true → is_own base q ≡ true) → disk.faults old ≤ disk.faults mid → disk.faults mid ≤ disk.faults new
    → Confined disk (Among names) old mid → StoresSame base after goal → UnlessFailed disk mid new (IsVisible base (disk.reads mid) after) → UnlessFailed disk old new (IsVisible base (disk.reads old) goal)
own_then base names old mid new after goal own early late run same seen = unfailed_then early late
    (unfailed_confined run (λ t agrees. visible_before base _ goal t (agrees_stores base names t _ own agrees)))
    (unfailed_weaker (λ t. visible_same base _ _ after goal t (agrees_stores base names _ _ own run.reads) same) seen)

-- a run, and then a change at the journal's own names
pub then_own : {D : Type 0} {disk : DiskModel D} (base : Name) (names : Name → Bool) (old mid new : D) (goal : Tree) → ((q : Name) → names q ≡ true → is_own base q ≡ true) → disk.faults old ≤ disk.faults mid → disk.faults mid ≤ disk.faults new
    → UnlessFailed disk old mid (IsVisible base (disk.reads old) goal) → StoresSame base (disk.reads mid) goal → Confined disk (Among names) mid new → UnlessFailed disk old new (IsVisible base (disk.reads old) goal)
then_own base names old mid new goal own early late seen same run = unfailed_then early late seen
    (unfailed_confined run (λ t agrees. visible_after base _ goal t (λ q out. agrees_stores base names t _ own agrees q out ∙ same q out)))

-- a change at the journal's own names alone
pub own_seen : {D : Type 0} {disk : DiskModel D} (base : Name) (names : Name → Bool) (old new : D) (goal : Tree) → ((q : Name) → names q ≡ true → is_own base q ≡ true)
    → Confined disk (Among names) old new → UnlessFailed disk old new (IsVisible base (disk.reads old) goal)
own_seen base names old new goal own run = unfailed_confined run (λ t agrees. visible_before base _ goal t (agrees_stores base names t _ own agrees))

-- a change that ended well, with another answer
pub makes_answer : {D X Z : Type 0} {disk : DiskModel D} {names : Name → Bool} {change : Tree → Tree} {old new : D} {x : X} (z : Z) → Makes disk names change old new (Ok x) → Makes disk names change old new (Ok z)
makes_answer z made = record { later = made.later; ended = made.ended; outside = made.outside; confined = made.confined }
