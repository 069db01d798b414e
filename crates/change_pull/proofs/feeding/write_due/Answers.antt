use Rattle.std.proofs.Common.{◌≡◌, ℕ, true, IsTrue, List, [], ◌++◌, length, Some, refl, sym, ap, ◌∙◌, subst, arith}
use Rattle.journal_log.specs.cny-base.Below.{is_below}
use Rattle.journal_log.specs.tree-disk.Disk.{one_name}
use Rattle.journal_log.specs.tree-disk.Laws.{same_means}
use Rattle.journal_log.specs.tree-disk.Rows.{with_append}
use Rattle.journal_log.specs.tree-disk.Tree.{Name, Tree}
use Rattle.change_pull.specs.Files.{HasRoomFrom, HoldsFiles, files_of, number_path}
use Rattle.change_pull.specs.Gathered.{is_due, written_bytes}
use Rattle.change_pull.proofs.Disks.{files_after, keeps_stop, keeps_wider, number_below, room_after}
use Rattle.change_pull.proofs.Values.{nothing_due, same_value, written_more}
use Rattle.change_pull.proofs.feeding.write_due.Goals as goal

pub returns-then-not-is_due-clause-gains : goal.returns-then-not-is_due-clause-gains
returns-then-not-is_due-clause-gains g c = λ tag len value written is. (
  written,
  same_value c.args.reading.now.item tag len value written is,
  (λ whole content long. absurd (nothing_due c.args.reading.now.item tag len (value ++ []) written (ap (is_due c.args.reading.now.item) (sym whole) ∙ sym c.is_due.ensures ∙ c.if-not-is_due.true) (same_value c.args.reading.now.item tag len value written is) content long)),
  λ tells contents count holds. holds,
)

within : (dir q p : Name) → is_below dir p ≡ true → IsTrue (one_name p q) → IsTrue (is_below dir q)
within dir q p low same = ap (is_below dir) (same_means q p same) ∙ low

pub returns-in_err-write-clause-keeps : goal.returns-in_err-write-clause-keeps
returns-in_err-write-clause-keeps g c =
    keeps_stop (keeps_wider (λ q same. within c.args.dir.now q (number_path c.args.dir.now c.len-number.result) (number_below c.args.dir.now c.len-number.result c.in_err-write.ensures.dir c.requires.not_root) same) c.in_err-write.ensures.writes.keeps) c.from_residual.ensures.1

pub returns-clause-keeps : goal.returns-clause-keeps
returns-clause-keeps g c =
    keeps_wider (λ q same. within c.args.dir.now q (number_path c.args.dir.now c.len-number.result) (number_below c.args.dir.now c.len-number.result c.in_ok-write.ensures.dir c.requires.not_root) same) c.in_ok-write.ensures.writes.keeps

pub returns-clause-room : goal.returns-clause-room
returns-clause-room g c = λ tells.
    let tree = g.D.TreeDisk.disk.reads c.args.disk.now in
    subst (λ (t : Tree). HasRoomFrom t c.args.dir.now (length c.args.reading.now.staged.items)) (sym (c.in_ok-write.ensures.writes.done tells))
    (room_after tree c.args.dir.now (length c.args.reading.now.staged.items) c.len-number.result c.as_slice.result.now c.in_ok-write.ensures.dir c.requires.not_root (c.requires.room tells))

pub returns-clause-gains : goal.returns-clause-gains
returns-clause-gains g c = λ tag len value written is.
    let item = c.args.reading.now.item in
    let both = written_more item _ tag len value written c.args.whole (sym c.is_due.ensures ∙ c.if-not-is_due.false) refl refl refl refl c.clear.ensures.items is in (
      Some (written_bytes written ++ item.piece.items),
      both.0,
      (λ whole content long. both.1),
      λ tells contents count holds.
          subst (λ (t : Tree). HoldsFiles t c.args.dir.now (files_of contents (Some (written_bytes written ++ item.piece.items)))) (sym (c.in_ok-write.ensures.writes.done tells))
          (subst (λ (l : List ℕ). HoldsFiles (with_append (g.D.TreeDisk.disk.reads c.args.disk.now) (number_path c.args.dir.now c.len-number.result) l) c.args.dir.now (files_of contents (Some (written_bytes written ++ item.piece.items)))) (sym c.as_slice.ensures.value)
          (files_after (g.D.TreeDisk.disk.reads c.args.disk.now) c.args.dir.now contents written item.piece.items c.len-number.result (omega (arith, c.len-number.ensures, count)) c.in_ok-write.ensures.fits holds)),
    )
