-- A file that is copied in pieces, and renamed into its place.
use Rattle.std.proofs.Common.{◌≡◌, ⊎_elim, ℕ, ◌+◌, ◌-◌, ◌<◌, ◌≤◌, min, Bool, true, false, cond, not, ◌&&◌, ◌||◌, IsTrue, List, ◌++◌, length, take, drop, Option, Some, None, is_some, refl, sym, ◌∙◌, ap, arith}
use Rattle.std.proofs.Common.{take-add}
use Rattle.std.proofs.lemmas.Bool.{cases_Bool, cases_lt}
use Rattle.std.proofs.lemmas.List.{take_all, take_min, length-drop}
use Rattle.std.specs.FinMap.{get}
use Rattle.std.specs.Prelude.{codes}
use Rattle.journal_log.specs.cny-base.Path.{is_path, parent}
use Rattle.journal_log.specs.cny-base.declared.node.Node.{Node}
use Rattle.journal_log.specs.cny-base.declared.node.Node.TheVariants as node
use Rattle.journal_log.specs.tree-disk.Tree.{Name, Tree, same_name, put, is_dir, is_file, is_link}
use Rattle.journal_log.specs.tree-disk.Rows.{bytes_of, bytes_at, can_append, can_make, can_rename, can_set_mode, is_file_at, grown, of_mode, with_append, with_mode, with_node, with_rename}
use Rattle.journal_log.specs.tree-disk.Laws.{same_means, get_put}
use Rattle.journal_log.proofs.tree-disk.Laws.{get_put_here, get_put_other, put_put, same_tree}
use Rattle.journal_log.specs.Own.{work, is_own}
use Rattle.journal_log.specs.tree-disk.Clear.{is_within}
use Rattle.journal_log.proofs.tree-disk.ClearLaws.{within_itself, or_cases}
use Rattle.journal_log.specs.tree-disk.Disk.{two_names}
use Rattle.journal_log.specs.cny-base.Below.{is_below}
use Rattle.tree_journal.specs.Passes.{is_work_or_name, CanCopy, CanMove, CanWork}
use Rattle.tree_journal.proofs.OwnNames.{in_work}
use Rattle.journal_log.proofs.tree-disk.Names.{parent_join}
use Rattle.journal_log.proofs.cny-base.Bools.{or_left, or_right}

-- ---- pieces of a file

-- one piece more
pub one_more : (file : List ℕ) (at room count : ℕ) → count ≡ min room (length file - at) → take at file ++ take room (drop at file) ≡ take (at + count) file
one_more file at room count most =
    ap (λ (l : List ℕ). take at file ++ l) (sym (take_min room (drop at file)) ∙ ap (λ (n : ℕ). take n (drop at file)) (ap (min room) (length-drop at file) ∙ sym most))
    ∙ sym (take-add at count file)

-- the first piece
first_piece : (file : List ℕ) (room count : ℕ) → count ≡ min room (length file - 0) → take room (drop 0 file) ≡ take count file
first_piece file room count most =
    let whole : length file ≡ length file - 0 = omega arith in
    sym (take_min room file) ∙ ap (λ (n : ℕ). take n file) (ap (min room) whole ∙ sym most)

-- ---- the tree meanwhile

none_of : (b : Bool) (o : Option Node) → (b && not (is_some o)) ≡ true → (b ≡ true) × (o ≡ None)
none_of true None h = (refl, refl)
none_of true (Some n) h = absurd (cc h)
none_of false o h = absurd (cc h)

apart_by : (tree : Tree) (p q : Name) → (get tree p ≡ get tree q → ⊥) → same_name p q ≡ false
apart_by tree p q other = ⊎_elim (λ same. absurd (other (ap (get tree) (same_means p q same)))) (λ no_same. no_same) (cases_Bool (same_name p q))

module _ (tree : Tree) (from to : Name) (size : ℕ) (can : CanCopy tree from to size) where
  pub file : List ℕ
  file = bytes_at tree from

  parts : (is_dir (get tree (parent to)) ≡ true) × (get tree to ≡ None)
  parts = none_of (is_dir (get tree (parent to))) (get tree to) can.can

  from_apart : same_name from to ≡ false
  from_apart = apart_by tree from to (λ same. absurd (cc (can.file.stands, ap is_file same, ap is_file parts.1)))

  parent_apart : same_name (parent to) to ≡ false
  parent_apart = apart_by tree (parent to) to (λ same. absurd (cc (parts.0, ap is_dir same, ap is_dir parts.1)))

  pub copy_starts : (room count : ℕ) → count ≡ min room (length (bytes_at tree from) - 0)
      → with_append tree to (take room (drop 0 (bytes_at tree from))) ≡ with_node tree to (node.File 384 (take count (bytes_at tree from)))
  copy_starts room count most =
      ap (λ (o : Option Node). put tree to (Some (grown o (take room (drop 0 (bytes_at tree from)))))) parts.1
      ∙ ap (λ (l : List ℕ). with_node tree to (node.File 384 l)) (first_piece (bytes_at tree from) room count most)

  pub may_start : can_append tree to ≡ true
  may_start = cc (parts.0, ap (λ (b : Bool). b && (not (is_some (get tree to)) || is_file (get tree to))) parts.0, ap (λ (o : Option Node). not (is_some o) || is_file o) parts.1)

  module _ (at : ℕ) where
    pub bytes_kept : bytes_at (with_node tree to (node.File 384 (take at (bytes_at tree from)))) from ≡ bytes_at tree from
    bytes_kept = ap bytes_of (get_put_other tree to (Some (node.File 384 (take at (bytes_at tree from)))) from from_apart)

    pub file_kept : is_file_at (with_node tree to (node.File 384 (take at (bytes_at tree from)))) from ≡ true
    file_kept = ap is_file (get_put_other tree to (Some (node.File 384 (take at (bytes_at tree from)))) from from_apart) ∙ can.file.stands

    grows : (b : Bool) (o : Option Node) → b ≡ true → is_file o ≡ true → (b && (not (is_some o) || is_file o)) ≡ true
    grows b None dir is = absurd (cc is)
    grows b (Some (node.Dir mode)) dir is = absurd (cc is)
    grows b (Some (node.File mode bytes)) dir is = cc (dir, ap (λ (x : Bool). x && true) dir)
    grows b (Some (node.Link target)) dir is = absurd (cc is)

    pub may_grow : can_append (with_node tree to (node.File 384 (take at (bytes_at tree from)))) to ≡ true
    may_grow = grows (is_dir (get (with_node tree to (node.File 384 (take at (bytes_at tree from)))) (parent to))) (get (with_node tree to (node.File 384 (take at (bytes_at tree from)))) to)
        (ap is_dir (get_put_other tree to (Some (node.File 384 (take at (bytes_at tree from)))) (parent to) parent_apart) ∙ parts.0)
        (ap is_file (get_put_here tree to (Some (node.File 384 (take at (bytes_at tree from))))))

    pub copy_grows : (room count : ℕ) → count ≡ min room (length (bytes_at (with_node tree to (node.File 384 (take at (bytes_at tree from)))) from) - at)
        → with_append (with_node tree to (node.File 384 (take at (bytes_at tree from)))) to (take room (drop at (bytes_at (with_node tree to (node.File 384 (take at (bytes_at tree from)))) from)))
        ≡ with_node tree to (node.File 384 (take (at + count) (bytes_at tree from)))
    copy_grows room count most =
        ap (λ (o : Option Node). put (with_node tree to (node.File 384 (take at (bytes_at tree from)))) to (Some (grown o (take room (drop at (bytes_at (with_node tree to (node.File 384 (take at (bytes_at tree from)))) from))))))
        (get_put_here tree to (Some (node.File 384 (take at (bytes_at tree from)))))
        ∙ put_put tree to (Some (node.File 384 (take at (bytes_at tree from)))) (Some (node.File 384 (take at (bytes_at tree from) ++ take room (drop at (bytes_at (with_node tree to (node.File 384 (take at (bytes_at tree from)))) from)))))
        ∙ ap (λ (l : List ℕ). with_node tree to (node.File 384 l))
        (ap (λ (l : List ℕ). take at (bytes_at tree from) ++ take room (drop at l)) bytes_kept ∙ one_more (bytes_at tree from) at room count (most ∙ ap (λ (l : List ℕ). min room (length l - at)) bytes_kept))

    pub copy_ends : size ≤ at → with_node tree to (node.File 384 (take at (bytes_at tree from))) ≡ with_node tree to (node.File 384 (bytes_at tree from))
    copy_ends le = ap (λ (l : List ℕ). with_node tree to (node.File 384 l)) (take_all at (bytes_at tree from) (omega (arith, le, can.file.long)))

    -- a piece is empty at the end alone
    pub not_empty : (room count : ℕ) → count ≡ min room (length (bytes_at (with_node tree to (node.File 384 (take at (bytes_at tree from)))) from) - at) → count ≡ 0 → (0 < size → 0 < room) → size ≤ at
    not_empty room count most none some = ⊎_elim
        (λ lt. absurd (omega (arith, lt, most, none, ap length bytes_kept, can.file.long, some (omega (arith, lt)))))
        (λ le. le) (cases_lt at size)

-- ---- a file's mode

pub may_set_file_mode : (tree : Tree) (p : Name) (bytes : List ℕ) → can_set_mode (with_node tree p (node.File 384 bytes)) p ≡ true
may_set_file_mode tree p bytes = ap (λ (o : Option Node). is_dir o || is_file o) (get_put_here tree p (Some (node.File 384 bytes)))

pub with_file_mode : (tree : Tree) (p : Name) (mode : ℕ) (bytes : List ℕ) → with_mode (with_node tree p (node.File 384 bytes)) p mode ≡ with_node tree p (node.File mode bytes)
with_file_mode tree p mode bytes =
    ap (λ (o : Option Node). put (with_node tree p (node.File 384 bytes)) p (of_mode o mode)) (get_put_here tree p (Some (node.File 384 bytes)))
    ∙ put_put tree p (Some (node.File 384 bytes)) (Some (node.File mode bytes))

-- ---- the work name

module _ (base : Name) (path : is_path base ≡ true) (tree : Tree) (workable : CanWork base tree) where
  pub may_work : can_make tree (work base) ≡ true
  may_work =
      let up : is_dir (get tree (parent (work base))) ≡ true = ap (λ (p : Name). is_dir (get tree p)) (parent_join base (codes "w") path refl) ∙ workable.base_stands in
      cc (up, ap (λ (b : Bool). b && not (is_some (get tree (work base)))) up, ap (λ (o : Option Node). not (is_some o)) workable.bare)

module _ (base : Name) (tree : Tree) (to : Name) (can : CanMove base tree to) (n : Node) where
  to_apart : same_name to (work base) ≡ false
  to_apart = ⊎_elim
      (λ same. absurd (cc (can.not_own, ap (is_own base) (same_means to (work base) same), in_work base (work base) (within_itself (work base)))))
      (λ other. other) (cases_Bool (same_name to (work base)))

  work_apart : same_name (work base) to ≡ false
  work_apart = ⊎_elim
      (λ same. absurd (cc (can.not_own, ap (is_own base) (same_means (work base) to same), in_work base (work base) (within_itself (work base)))))
      (λ other. other) (cases_Bool (same_name (work base) to))

  up_apart : same_name (parent to) (work base) ≡ false
  up_apart = apart_by tree (parent to) (work base) (λ same. absurd (cc (can.parent_stands, ap is_dir same, ap is_dir can.workable.bare)))

  over : (o : Option Node) → is_dir o ≡ false → (not (is_some o) || (is_file o || is_link o)) ≡ true
  over None other = refl
  over (Some (node.Dir mode)) other = absurd (cc other)
  over (Some (node.File mode bytes)) other = refl
  over (Some (node.Link target)) other = refl

  all_so : (a b c d : Bool) → a ≡ false → b ≡ true → c ≡ true → d ≡ true → (not a && (b && (c && d))) ≡ true
  all_so a b c d one two three four = cc (one, two, three, four, ap (λ (x : Bool). not x && (b && (c && d))) one, ap (λ (x : Bool). x && (c && d)) two, ap (λ (x : Bool). x && d) three)

  pub may_rename : (is_file (Some n) || is_link (Some n)) ≡ true → can_rename (with_node tree (work base) n) (work base) to ≡ true
  may_rename leaf = all_so (same_name (work base) to) _ _ _ work_apart
      (ap (λ (o : Option Node). is_file o || is_link o) (get_put_here tree (work base) (Some n)) ∙ leaf)
      (ap is_dir (get_put_other tree (work base) (Some n) (parent to) up_apart) ∙ can.parent_stands)
      (ap (λ (o : Option Node). not (is_some o) || (is_file o || is_link o)) (get_put_other tree (work base) (Some n) to to_apart) ∙ over (get tree to) can.clear)

  pub renamed : with_rename (with_node tree (work base) n) (work base) to ≡ put tree to (Some n)
  renamed = same_tree (with_rename (with_node tree (work base) n) (work base) to) (put tree to (Some n)) (λ q. left q ∙ at q (same_name q (work base)) (same_name q to) refl refl ∙ sym (get_put tree to (Some n) q))
    where
      left : (q : Name) → get (with_rename (with_node tree (work base) n) (work base) to) q ≡ cond (same_name q (work base)) None (cond (same_name q to) (Some n) (get (with_node tree (work base) n) q))
      left q =
          get_put (put (with_node tree (work base) n) to (get (with_node tree (work base) n) (work base))) (work base) None q
          ∙ ap (cond (same_name q (work base)) None) (get_put (with_node tree (work base) n) to (get (with_node tree (work base) n) (work base)) q
          ∙ ap (λ (o : Option Node). cond (same_name q to) o (get (with_node tree (work base) n) q)) (get_put_here tree (work base) (Some n)))

      at : (q : Name) (w t : Bool) → same_name q (work base) ≡ w → same_name q to ≡ t
          → cond (same_name q (work base)) None (cond (same_name q to) (Some n) (get (with_node tree (work base) n) q)) ≡ cond (same_name q to) (Some n) (get tree q)
      at q true true is_w is_t = absurd (cc (work_apart, ap (λ (n : Name). same_name n to) (sym (same_means q (work base) is_w)) ∙ is_t))
      at q true false is_w is_t =
          ap (λ (b : Bool). cond b None (cond (same_name q to) (Some n) (get (with_node tree (work base) n) q))) is_w
          ∙ sym (ap (λ (b : Bool). cond b (Some n) (get tree q)) is_t ∙ ap (get tree) (same_means q (work base) is_w) ∙ can.workable.bare)
      at q false t is_w is_t =
          ap (λ (b : Bool). cond b None (cond (same_name q to) (Some n) (get (with_node tree (work base) n) q))) is_w
          ∙ ap (cond (same_name q to) (Some n)) (get_put_other tree (work base) (Some n) q is_w)

-- ---- the same at a name that is the work name

pub moves : (base : Name) (tree : Tree) (to at : Name) → CanMove base tree to → (n : Node) → at ≡ work base → with_rename (with_node tree at n) at to ≡ put tree to (Some n)
moves base tree to at can n is = ap (λ (w : Name). with_rename (with_node tree w n) w to) is ∙ renamed base tree to can n

pub work_within : (base at path : Name) → at ≡ work base → (q : Name) → IsTrue (same_name q at) → IsTrue (is_work_or_name base path q)
work_within base at path is q h = or_left (is_within (work base) q) (same_name q path) (or_left (same_name q (work base)) (is_below (work base) q) (ap (same_name q) (sym is) ∙ h))

pub both_within : (base at path : Name) → at ≡ work base → (q : Name) → IsTrue (two_names at path q) → IsTrue (is_work_or_name base path q)
both_within base at path is q h = ⊎_elim (work_within base at path is q) (λ same. or_right (is_within (work base) q) (same_name q path) same) (or_cases (same_name q at) (same_name q path) h)

pub work_own : (base at : Name) → at ≡ work base → (q : Name) → same_name q at ≡ true → is_own base q ≡ true
work_own base at is q same = in_work base q (or_left (same_name q (work base)) (is_below (work base) q) (ap (same_name q) (sym is) ∙ same))
