-- What crash images recover to while a log is replayed.
use Rattle.std.proofs.Common.{◌≡◌, inl, ⊎_elim, cond, Bool, true, false, ◌||◌, IsTrue, List, [], get_or, Option, Some, None, Contains, refl, sym, ◌∙◌, ap, subst}
use Rattle.std.proofs.lemmas.Bool.{cases_Bool}
use Rattle.std.proofs.lemmas.List.Elements.{All-contains, Contains-get_or}
use Rattle.std.specs.List.{All}
use Rattle.std.specs.FinMap.{get}
use Rattle.journal_log.specs.cny-base.Path.{is_path, join, parent, has_slash}
use Rattle.journal_log.specs.cny-base.Below.{is_below}
use Rattle.journal_log.proofs.cny-base.Below.{below_parent}
use Rattle.journal_log.specs.cny-base.declared.node.Node.{Node}
use Rattle.journal_log.specs.cny-base.declared.node.Node.TheVariants as node
use Rattle.journal_log.specs.tree-disk.Tree.{Name, Tree, same_name, is_dir, is_file}
use Rattle.journal_log.specs.tree-disk.Laws.{same_means}
use Rattle.journal_log.proofs.tree-disk.Laws.{same_itself}
use Rattle.journal_log.specs.tree-disk.Clear.{is_within, without_tree}
use Rattle.journal_log.proofs.tree-disk.ClearLaws.{below_within, within_itself, or_cases, get-without_tree, bare_without}
use Rattle.journal_log.specs.tree-disk.Disk.{DiskModel, IsDisk}
use Rattle.journal_log.specs.tree-disk.Confined.{Among, Confined, DiffersOnlyAt, IsUnsyncedOr, IsSynced, LeavesOnly}
use Rattle.journal_log.proofs.tree-disk.ConfinedLaws.{leaves_weaker}
use Rattle.journal_log.specs.tree-disk.Steps.{no_name}
use Rattle.journal_log.specs.declared.put.Put.{Put}
use Rattle.journal_log.specs.Own.{gate, log, work, staged, is_own, StoresSame}
use Rattle.journal_log.specs.WriteSet.{CanBeNamed, IsLoggable}
use Rattle.journal_log.specs.Targets.{is_dir_want, is_target}
use Rattle.tree_journal.specs.CanBePut.{CanBePut, AllCanBePut}
use Rattle.tree_journal.specs.Recovery.{is_flag, is_committed, HoldsLog, RecoversTo, at_rest, by_log, RecoversAsThen}
use Rattle.tree_journal.specs.Staging.{AllStaged, outcome}
use Rattle.tree_journal.specs.Apply.{is_own_or_target}
use Rattle.tree_journal.specs.Passes.{is_work_or_target, all_put, CanReplay, CanPutAll}
use Rattle.tree_journal.specs.Steps.{is_replay_name, IsCommitted}
use Rattle.tree_journal.proofs.WriteSets.{neither}
use Rattle.tree_journal.proofs.Staged.{AgreesStaged, own_free, all_staged_same, outcome_outside, same_outcome}
use Rattle.tree_journal.proofs.OwnNames.{within_below, in_line, Line, one, first, second, in_gate, in_log, in_work, base_own, OwnPlace, at_base, in_file, own_place, base_not_in_gate, base_not_in_work, log_not_in_gate, log_not_in_work, gate_not_in_work, staged_apart_gate, staged_apart_work, in_staged}
use Rattle.journal_log.proofs.tree-disk.Names.{parent_join}
use Rattle.journal_log.proofs.cny-base.Bools.{or_left}
use Rattle.journal_log.proofs.tree-disk.Children.{or_none}

-- ---- a tree that recovers

-- it recovers to all trees that store the same
pub recovers_same : (base : Name) (image a b : Tree) → RecoversTo base image a → StoresSame base a b → RecoversTo base image b
recovers_same base image a b (at_rest clear stores) same = at_rest clear (λ q out. stores q out ∙ same q out)
recovers_same base image a b (by_log set puts holds stand can stores) same = by_log set puts holds stand can (λ q out. stores q out ∙ same q out)

pub by_flag : (base : Name) (image : Tree) {P : Type 0} → (is_committed base image ≡ true → P) → (is_committed base image ≡ false → P) → P
by_flag base image set clear = ⊎_elim set clear (cases_Bool (is_committed base image))

pub flag_is_file : (o : Option Node) → is_flag o ≡ true → is_file o ≡ true
flag_is_file None h = absurd (cc h)
flag_is_file (Some (node.Dir mode)) h = absurd (cc h)
flag_is_file (Some (node.File mode bytes)) h = refl
flag_is_file (Some (node.Link target)) h = absurd (cc h)

-- ---- the journal's own names and the targets

pub not_false : (b : Bool) → b ≡ true → b ≡ false → ⊥
not_false b is other = absurd (cc (is, other))

module _ (base : Name) (path : is_path base ≡ true) (puts : List Put) (paths : All (λ p. IsTrue (is_path p.path)) puts) (named : All (λ p. CanBeNamed base p.path) puts) where
  name_of : (p : Put) → Contains puts p → CanBeNamed base p.path
  name_of p in' = All-contains (λ (x : Put). CanBeNamed base x.path) puts p named in'

  pub own_no_target : (q : Name) → is_own base q ≡ true → is_target puts q ≡ false
  own_no_target = own_free base puts named

  pub base_no_target : is_target puts base ≡ false
  base_no_target = own_no_target base (base_own base base (same_itself base))

  pub gate_no_target : is_target puts (gate base) ≡ false
  gate_no_target = own_no_target (gate base) (in_gate base (gate base) (within_itself (gate base)))

  pub log_no_target : is_target puts (log base) ≡ false
  log_no_target = own_no_target (log base) (in_log base (log base) (within_itself (log base)))

  some_bytes : (p : Name) → is_path p ≡ true → (p ≡ [] → ⊥)
  some_bytes p is_one empty = absurd (cc (is_one, ap is_path empty))

  module _ (tree : Tree) (can : AllCanBePut puts tree) (stands : is_dir (get tree base) ≡ true) (p : Put) (in' : Contains puts p) (other : is_dir_want p.want ≡ false) where
    can_p : CanBePut puts tree p
    can_p = All-contains (CanBePut puts tree) puts p can in'

    path_p : is_path p.path ≡ true
    path_p = All-contains (λ (x : Put). IsTrue (is_path x.path)) puts p paths in'

    not_own : is_own base p.path ≡ true → ⊥
    not_own own = not_false (is_own base p.path) own (name_of p in').not_own

    -- a target that isn't to be a directory doesn't lie above the base
    not_above_base : is_below p.path base ≡ true → ⊥
    not_above_base low = absurd (cc (ap is_dir (can_p.below other base low base_no_target), stands))

    not_above_file : (last : Name) → has_slash last ≡ false → is_below p.path (join base last) ≡ true → ⊥
    not_above_file last plain low = ⊎_elim
        (λ is. not_own (base_own base p.path (ap (λ (x : Name). same_name x base) (is ∙ up) ∙ same_itself base)))
        (λ lower. not_above_base (subst (λ (x : Name). is_below p.path x ≡ true) up lower))
        (below_parent p.path (join base last) (some_bytes p.path path_p) low)
      where
        up : parent (join base last) ≡ base
        up = parent_join base last path plain

    -- nor above another name of the journal
    pub not_above_own : (q : Name) → is_own base q ≡ true → is_below p.path q ≡ true → ⊥
    not_above_own q own low = at (own_place base q own)
      where
        at : OwnPlace base q → ⊥
        at (at_base is) = not_above_base (subst (λ (x : Name). is_below p.path x ≡ true) is low)
        at (in_file last plain all within) = ⊎_elim
            (λ same. not_above_file last plain (subst (λ (x : Name). is_below p.path x ≡ true) (same_means q (join base last) same) low))
            (λ lower. line (in_line p.path (join base last) q low lower))
            (or_cases (same_name q (join base last)) (is_below (join base last) q) within)
          where
            line : Line p.path (join base last) → ⊥
            line (one is) = not_own (all p.path (ap (is_within (join base last)) is ∙ within_itself (join base last)))
            line (first high) = not_above_file last plain high
            line (second high) = not_own (all p.path (below_within (join base last) p.path high))

  -- what lies below one of the journal's files is none of the targets
  not_below_own : (p : Put) → Contains puts p → (q : Name) → is_own base q ≡ true → (same_name q base ≡ true → ⊥) → is_below q p.path ≡ true → ⊥
  not_below_own p in' q own other low = at (own_place base q own)
    where
      at : OwnPlace base q → ⊥
      at (at_base is) = other (ap (λ (x : Name). same_name x base) is ∙ same_itself base)
      at (in_file last plain all within) = not_false (is_own base p.path) (all p.path (within_below (join base last) q p.path within low)) (name_of p in').not_own

  -- Whether all writes can be put doesn't depend on the targets and the journal's own names, as long as the base stands.
  pub can_elsewhere : (a b : Tree) → ((q : Name) → is_own_or_target base puts q ≡ false → get a q ≡ get b q)
      → is_dir (get a base) ≡ true → is_dir (get b base) ≡ true → AllCanBePut puts a → AllCanBePut puts b
  can_elsewhere a b agree a_stands b_stands can k d lt = one_can (get_or puts k d) (Contains-get_or puts k d lt) (can k d lt)
    where
      one_can : (p : Put) → Contains puts p → CanBePut puts a p → CanBePut puts b p
      one_can p in' can_p = record {
        above = λ q q_path low free. ⊎_elim (above_own q low) (λ out. ap is_dir (sym (agree q (or_none (is_own base q) (is_target puts q) out free))) ∙ can_p.above q q_path low free) (cases_Bool (is_own base q));
        below = λ other q low free. ⊎_elim (λ own. absurd (not_above_own a can a_stands p in' other q own low)) (λ out. sym (agree q (or_none (is_own base q) (is_target puts q) out free)) ∙ can_p.below other q low free) (cases_Bool (is_own base q));
      }
        where
          above_own : (q : Name) → is_below q p.path ≡ true → is_own base q ≡ true → is_dir (get b q) ≡ true
          above_own q low own = ⊎_elim
              (λ same. ap (λ (x : Name). is_dir (get b x)) (same_means q base same) ∙ b_stands)
              (λ other. absurd (not_below_own p in' q own (λ same. not_false (same_name q base) same other) low))
              (cases_Bool (same_name q base))

  replay_name : (q : Name) → is_own_or_target base puts q ≡ false → is_replay_name base puts q ≡ false
  replay_name q out =
      let parts = neither (is_own base q) (is_target puts q) out in
      or_none (is_within (gate base) q) (is_within (work base) q || is_target puts q)
      (⊎_elim (λ within. absurd (not_false (is_own base q) (in_gate base q within) parts.0)) (λ other. other) (cases_Bool (is_within (gate base) q)))
      (or_none (is_within (work base) q) (is_target puts q)
      (⊎_elim (λ within. absurd (not_false (is_own base q) (in_work base q within) parts.0)) (λ other. other) (cases_Bool (is_within (work base) q))) parts.1)

  -- staged files are none of the names of a replay
  staged_name : (q : Name) → is_within (staged base) q ≡ true → is_replay_name base puts q ≡ false
  staged_name q within =
      or_none (is_within (gate base) q) (is_within (work base) q || is_target puts q) (staged_apart_gate base path q within)
      (or_none (is_within (work base) q) (is_target puts q) (staged_apart_work base path q within) (own_no_target q (in_staged base q within)))

  log_name : is_replay_name base puts (log base) ≡ false
  log_name =
      or_none (is_within (gate base) (log base)) (is_within (work base) (log base) || is_target puts (log base)) (log_not_in_gate base path)
      (or_none (is_within (work base) (log base)) (is_target puts (log base)) (log_not_in_work base path) log_no_target)

  base_name : is_replay_name base puts base ≡ false
  base_name =
      or_none (is_within (gate base) base) (is_within (work base) base || is_target puts base) (base_not_in_gate base path)
      (or_none (is_within (work base) base) (is_target puts base) (base_not_in_work base path) base_no_target)

  -- THE LEMMA OF THE REPLAY. Let a whole log whose staged files stand and that can be put stand in a tree. Then a tree that
  -- differs at the targets, at the work name and at the commit flag alone, and whose flag is set, recovers to the tree
  -- with all targets, whatever stands at them.
  pub replay_image : (start image tree : Tree) → HoldsLog base puts start → AllStaged base start puts → AllCanBePut puts start → is_dir (get start base) ≡ true
      → ((q : Name) → is_replay_name base puts q ≡ false → get image q ≡ get start q) → is_committed base image ≡ true
      → StoresSame base (outcome base puts start) tree → RecoversTo base image tree
  replay_image start image tree holds stand can stands agree set same = by_log set puts
      (record { mode = holds.mode; bytes = holds.bytes; text = holds.text; file = agree (log base) log_name ∙ holds.file })
      (all_staged_same base path start image (λ q within. sym (agree q (staged_name q within))) puts stand)
      (can_elsewhere start image (λ q out. sym (agree q (replay_name q out))) stands (ap is_dir (agree base base_name) ∙ stands) can)
      (λ q out. same_outcome base path puts image start (λ p within. agree p (staged_name p within)) (λ p free. agree p (replay_name p free)) q out ∙ same q out)

-- ---- a run of disk calls

-- a crash image of a synced disk agrees with it outside the names of the run
pub image_agrees : {D : Type 0} (disk : DiskModel D) (d : D) (names : Name → Bool) (image : Tree) → IsSynced disk d
    → DiffersOnlyAt (IsUnsyncedOr disk d (Among names)) (disk.reads d) image → (q : Name) → names q ≡ false → get image q ≡ get (disk.reads d) q
image_agrees disk d names image synced differs q out = differs.agrees q (λ h. ⊎_elim (λ was. absurd (cc (synced q, was))) (λ is. absurd (cc (out, is))) h)

-- while nothing is changed, each image is one of those at entry
pub unchanged_leaves : {D : Type 0} (disk : DiskModel D) (base : Name) (old new : D) → Confined disk (Among no_name) old new → LeavesOnly disk old new (RecoversAsThen disk base old)
unchanged_leaves disk base old new run = leaves_weaker each run.images
  where
    each : (image : Tree) → DiffersOnlyAt (IsUnsyncedOr disk old (Among no_name)) (disk.reads old) image → RecoversAsThen disk base old image
    each image differs = inl (record {
      well_formed = differs.well_formed;
      synced = λ p none. differs.agrees p (λ h. ⊎_elim (λ was. absurd (cc (none, was))) (λ is. absurd (cc is)) h);
    })

-- a tree without what is within the work name
pub without_work : (base : Name) (tree : Tree) (q : Name) → is_within (work base) q ≡ false → get (without_tree tree (work base)) q ≡ get tree q
without_work base tree q out = get-without_tree tree (work base) q ∙ ap (λ (b : Bool). cond b None (get tree q)) out

module _ (base : Name) (path : is_path base ≡ true) (puts : List Put) (tree : Tree) where
  pub work_agrees_staged : AgreesStaged base (without_tree tree (work base)) tree
  work_agrees_staged q within = without_work base tree q (staged_apart_work base path q within)

  pub work_agrees : (q : Name) → is_own_or_target base puts q ≡ false → get (without_tree tree (work base)) q ≡ get tree q
  work_agrees q out = without_work base tree q (⊎_elim (λ within. absurd (not_false (is_own base q) (in_work base q within) (neither (is_own base q) (is_target puts q) out).0)) (λ other. other) (cases_Bool (is_within (work base) q)))

  -- with nothing at the work name the same is stored
  pub same_all_put : StoresSame base (all_put base puts tree) (outcome base puts tree)
  same_all_put = same_outcome base path puts (without_tree tree (work base)) tree work_agrees_staged work_agrees

pub same_cleared : (base : Name) → is_path base ≡ true → (puts : List Put) (tree after : Tree) (work_path : Name) → work_path ≡ work base → after ≡ without_tree tree work_path
    → StoresSame base (outcome base puts after) (outcome base puts tree)
same_cleared base path puts tree after work_path at is = subst (λ (t : Tree). StoresSame base (outcome base puts t) (outcome base puts tree)) (sym (is ∙ ap (without_tree tree) at)) (same_all_put base path puts tree)

-- with nothing at the work name the write set can be put as before
pub can_put_all : (base : Name) → is_path base ≡ true → (puts : List Put) (tree : Tree) → CanReplay base puts tree → CanPutAll base puts (without_tree tree (work base))
can_put_all base path puts tree can = record {
  replay = record {
    loggable = can.loggable;
    stand = all_staged_same base path tree (without_tree tree (work base)) (λ q within. sym (work_agrees_staged base path puts tree q within)) puts can.stand;
    can = can_elsewhere base path puts can.loggable.write_set.paths can.loggable.named tree (without_tree tree (work base)) (λ q out. sym (work_agrees base path puts tree q out)) can.base_stands base_stands can.can;
    base_stands = base_stands;
  };
  bare = bare_without tree (work base) (work base) (within_itself (work base));
}
  where
    base_stands : is_dir (get (without_tree tree (work base)) base) ≡ true
    base_stands = ap is_dir (without_work base tree base (base_not_in_work base path)) ∙ can.base_stands

module _ {D : Type 0} (disk : DiskModel D) (laws : IsDisk disk) (base : Name) (path : is_path base ≡ true) (puts : List Put) (old : D) (ready : IsCommitted disk base puts old) where
  log_of : IsLoggable base puts
  log_of = ready.has_log.can.loggable

  by_replay : (image : Tree) → ((q : Name) → is_replay_name base puts q ≡ false → get image q ≡ get (disk.reads old) q) → is_committed base image ≡ true
      → RecoversTo base image (outcome base puts (disk.reads old))
  by_replay image agree set = replay_image base path puts log_of.write_set.paths log_of.named (disk.reads old) image (outcome base puts (disk.reads old)) ready.has_log.holds
      ready.has_log.can.stand ready.has_log.can.can ready.has_log.can.base_stands agree set (λ q out. refl)

  gate_apart : is_work_or_target base puts (gate base) ≡ false
  gate_apart = or_none (is_within (work base) (gate base)) (is_target puts (gate base)) (gate_not_in_work base path) (gate_no_target base path puts log_of.write_set.paths log_of.named)

  -- while the targets are put
  pub putting_leaves : (new : D) → Confined disk (Among (is_work_or_target base puts)) old new → LeavesOnly disk old new (λ image. RecoversTo base image (outcome base puts (disk.reads old)))
  putting_leaves new run = leaves_weaker each run.images
    where
      each : (image : Tree) → DiffersOnlyAt (IsUnsyncedOr disk old (Among (is_work_or_target base puts))) (disk.reads old) image → RecoversTo base image (outcome base puts (disk.reads old))
      each image differs =
          let agree = image_agrees disk old (is_work_or_target base puts) image ready.synced differs in
          by_replay image (λ q out. agree q (neither (is_within (gate base) q) (is_work_or_target base puts q) out).1) (ap is_flag (agree (gate base) gate_apart) ∙ ready.flag_set)

  outside_gate : (q : Name) → is_within (gate base) q ≡ false → same_name q (gate base) ≡ false
  outside_gate q out = (neither (same_name q (gate base)) _ out).0

  -- what all targets leave as it was
  put_outside : (q : Name) → is_work_or_target base puts q ≡ false → get (all_put base puts (disk.reads old)) q ≡ get (disk.reads old) q
  put_outside q out =
      let parts = neither (is_within (work base) q) (is_target puts q) out in
      outcome_outside base (without_tree (disk.reads old) (work base)) puts (without_tree (disk.reads old) (work base)) q parts.1 ∙ without_work base (disk.reads old) q parts.0

  -- and while the commit flag is taken away
  pub clearing_leaves : (mid new : D) → disk.reads mid ≡ all_put base puts (disk.reads old) → IsSynced disk mid → Confined disk (Among (λ q. same_name q (gate base))) mid new
      → LeavesOnly disk mid new (λ image. RecoversTo base image (outcome base puts (disk.reads old)))
  clearing_leaves mid new is synced run = leaves_weaker each run.images
    where
      each : (image : Tree) → DiffersOnlyAt (IsUnsyncedOr disk mid (Among (λ q. same_name q (gate base)))) (disk.reads mid) image → RecoversTo base image (outcome base puts (disk.reads old))
      each image differs =
          let agree = image_agrees disk mid (λ q. same_name q (gate base)) image synced differs in
          by_flag base image
          (λ set. by_replay image
          (λ q out. let parts = neither (is_within (gate base) q) (is_work_or_target base puts q) out in
          agree q (outside_gate q parts.0) ∙ ap (λ (t : Tree). get t q) is ∙ put_outside q parts.1)
          set)
          (λ clear. at_rest clear (λ q out. agree q (other q out) ∙ ap (λ (t : Tree). get t q) is ∙ same_all_put base path puts (disk.reads old) q out))
        where
          other : (q : Name) → is_own base q ≡ false → same_name q (gate base) ≡ false
          other q out = ⊎_elim
              (λ same. absurd (cc (out, in_gate base q (or_left (same_name q (gate base)) _ same))))
              (λ no_same. no_same) (cases_Bool (same_name q (gate base)))

  -- the commit flag is a file of the journal, also when all targets stand
  pub flag_stands : is_file (get (all_put base puts (disk.reads old)) (gate base)) ≡ true
  flag_stands = ap is_file (put_outside (gate base) gate_apart) ∙ flag_is_file (get (disk.reads old) (gate base)) ready.flag_set
