-- What crash images stand for, and what a rollback restores.
use Rattle.std.proofs.Common.{◌≡◌, inl, inr, ⊎_elim, ℕ, ◌+◌, ◌-◌, ◌<◌, ◌≤◌, ◌^◌, Bool, true, false, List, [], ◌∷◌, length, take, get_or, Contains, refl, sym, ◌∙◌, ap, arith}
use Rattle.std.specs.Prelude.{nat_lt}
use Rattle.std.proofs.lemmas.Bool.{cases_Bool}
use Rattle.std.proofs.lemmas.Bool.Decides.{nat_tests}
use Rattle.std.proofs.lemmas.List.{length-take}
use Rattle.std.proofs.lemmas.List.Elements.{All-map, All-contains}
use Rattle.tree_journal.proofs.tree-disk.ClearLaws.{or_cases}
use Rattle.tree_journal.specs.journal-log.declared.put.Put.{Put}
use Rattle.std.specs.FinMap.{get}
use Rattle.trove_stream.specs.cny-base.Reserved.{private_directory}
use Rattle.trove_stream.specs.cny-base.declared.limits.TheConstants.{STACK_LIMIT}
use Rattle.tree_journal.specs.tree-disk.Tree.{Name, Tree, same_name}
use Rattle.tree_journal.proofs.tree-disk.Laws.{same_tree}
use Rattle.tree_journal.specs.tree-disk.Disk.{IsCrashImage}
use Rattle.tree_journal.specs.journal-log.Own.{is_own_file}
use Rattle.tree_journal.specs.journal-log.Targets.{node_of, with_targets}
use Rattle.local_db.proofs.Writes.{with_targets_target}
use Rattle.local_db.specs.declared.format.Format.TheVariants.{One, Two}
use Rattle.local_db.specs.SystemState.{StackItem, SystemState, newest, oldest, AreNumbered, is_listed, IsStackItem, IsSystemState}
use Rattle.local_db.specs.Names.{is_job_place, counts}
use Rattle.local_db.specs.Stores.{StoresSystem}
use Rattle.local_db.specs.Steps.{want_of, backs, pushed, is_prepared_name}
use Rattle.local_db.proofs.Places.{own_doesnt_count, place_doesnt_count}
use Rattle.local_db.proofs.Frame.{stores_still}
use Rattle.local_db.proofs.Systems.{four_bytes, numbers_by_length, numbered_take, node_of_want, listed_backs, rising_backs}
use Rattle.tree_journal.proofs.WriteSets.{target_at, with_targets_outside}
use Rattle.tree_scan.proofs.tree-disk.Nodes.{left_true as first_so}
use Rattle.trove_stream.proofs.cny-base.Bools.{or_left}
use Rattle.tree_scan.proofs.tree-disk.Laws.{second as second_so}

pub all_still : (x y : Tree) (s : SystemState) → ((q : Name) → counts s q ≡ true → get y q ≡ get x q) → StoresSystem x s → StoresSystem y s
all_still x y s same h = ⊎_elim (λ a. inl (stores_still One x y s same a)) (λ b. inr (stores_still Two x y s same b)) h

-- a crash image stands for the system where nothing that counts is unsynced
pub image_stores : (reads : Tree) (unsynced : Name → Bool) (image : Tree) (s : SystemState) → ((q : Name) → counts s q ≡ true → unsynced q ≡ false)
    → IsCrashImage reads unsynced image → StoresSystem reads s → StoresSystem image s
image_stores reads unsynced image s synced is h = all_still reads image s (λ q count. is.synced q (synced q count)) h

above_two : (n : ℕ) → nat_lt 2 n ≡ true → 2 < n
above_two n h = grind (arith, nat_tests)

cleared_low : (o : StackItem) (olds : List StackItem) → AreNumbered olds → o.number ≡ newest olds + 1 → length olds ≤ STACK_LIMIT → 2 < oldest (pushed o olds) → oldest (pushed o olds) - 2 < oldest olds
cleared_low o [] numbered is few above = absurd (omega (arith, is, above))
cleared_low o (p ∷ olds) numbered is few above =
    let all : AreNumbered (o ∷ p ∷ olds) = (is, numbered) in
    let one = numbers_by_length o (take 4095 (p ∷ olds)) (numbered_take 4095 o (p ∷ olds) all) in
    let two = numbers_by_length o (p ∷ olds) all in
    let most : STACK_LIMIT ≡ 4096 = refl in
    omega (arith, one, two, length-take 4095 (p ∷ olds), few, above, most)

-- what is prepared before the writes of a job doesn't count for the system before it
pub prepared_doesnt_count : (s : SystemState) (o : StackItem) → IsSystemState s → o.number ≡ newest s.stack + 1 → o.number < 2 ^ 32
    → (q : Name) → is_prepared_name s (pushed o s.stack) q ≡ true → counts s q ≡ false
prepared_doesnt_count s o system is fits q h = ⊎_elim
    (λ base. ⊎_elim (λ c. absurd (cc (own_doesnt_count s q c, or_left (same_name q private_directory) (is_own_file private_directory q) base))) (λ c. c) (cases_Bool (counts s q)))
    (λ more. ⊎_elim
    (λ a. place_doesnt_count s (newest s.stack + 1) system.numbered (four_bytes (newest s.stack) system.number) (omega (arith, is, fits)) (inl (omega arith)) q a)
    (λ b.
    let place = second_so (nat_lt 2 (oldest (pushed o s.stack))) _ b in
    let above = above_two (oldest (pushed o s.stack)) (first_so (nat_lt 2 (oldest (pushed o s.stack))) _ b) in
    let low = cleared_low o s.stack system.numbered is system.few above in
    place_doesnt_count s (oldest (pushed o s.stack) - 2) system.numbered (four_bytes (newest s.stack) system.number) (small low) (inr low) q place)
    (or_cases (is_job_place (newest s.stack + 1) q) _ more))
    (or_cases (same_name q private_directory) _ h)
  where
    lower : (olds : List StackItem) → AreNumbered olds → oldest olds ≤ newest olds
    lower [] numbered = omega arith
    lower (p ∷ olds) numbered = omega (arith, numbers_by_length p olds numbered)

    small : oldest (pushed o s.stack) - 2 < oldest s.stack → oldest (pushed o s.stack) - 2 < 2 ^ 32
    small low = let top = four_bytes (newest s.stack) system.number in omega (arith, low, lower s.stack system.numbered, top)

-- ---- rollbacks

module _ (o : StackItem) (is_old : IsStackItem o) (tree : Tree) where
  -- each path of the job holds its exact old node
  pub restored : (q : Name) → is_listed o.paths q ≡ true → get (with_targets (backs o) tree) q ≡ get o.before q
  restored q h =
      let t = target_at (backs o) q (listed_backs o q ∙ h) in
      ap (get (with_targets (backs o) tree)) t.2 ∙ with_targets_target (backs o) tree t.0 (rising_backs o is_old.rising) t.1
      ∙ back_is t.0 t.1 ∙ ap (get o.before) (sym t.2)
    where
      back_is : (p : Put) → Contains (backs o) p → node_of p.want ≡ get o.before p.path
      back_is p in' = All-contains (λ (p : Put). node_of p.want ≡ get o.before p.path) (backs o) p
          (All-map (λ (p : Put). node_of p.want ≡ get o.before p.path) (λ (path : Name). record { path = path; want = want_of (get o.before path) }) o.paths (λ k d lt. node_of_want (get o.before (get_or o.paths k d)))) in'

  pub kept : (q : Name) → is_listed o.paths q ≡ false → get (with_targets (backs o) tree) q ≡ get tree q
  kept q h = with_targets_outside (backs o) tree q (listed_backs o q ∙ h)

-- with no edits since, the tree is exactly the one before the job
pub all_restored : (o : StackItem) → IsStackItem o → with_targets (backs o) o.after ≡ o.before
all_restored o is = same_tree (with_targets (backs o) o.after) o.before
    (λ q. ⊎_elim
    (λ h. restored o is o.after q h)
    (λ h. kept o is o.after q h ∙ sym (is.same q h))
    (cases_Bool (is_listed o.paths q)))
