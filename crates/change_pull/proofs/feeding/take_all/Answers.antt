use Rattle.std.proofs.Common.{◌≡◌, ℕ, ◌+◌, ◌-◌, List, [], ◌++◌, take, drop, sym, ap, ◌∙◌, subst, arith, append_assoc, append-nil, length-take}
use Rattle.std.specs.Prelude.{slice_range}
use Rattle.std.proofs.lemmas.List.{length-drop, take_all}
use Rattle.change_set.specs.FirstFault.{IsFirstFault}
use Rattle.cny_stream.specs.Decided.{Decided}
use Rattle.journal_log.specs.cny-base.Below.{is_below}
use Rattle.change_pull.specs.Files.{HoldsFiles}
use Rattle.change_pull.specs.Halts.{IfRefusal}
use Rattle.change_pull.proofs.Disks.{keeps_answer, keeps_start, keeps_stop, keeps_then}
use Rattle.change_pull.proofs.Taken.{all_bytes, handed_refusal, range_more, refusal_more, reopen, used_more}
use Rattle.change_pull.proofs.feeding.take_all.Goals as goal

pub pieces-init : goal.pieces-init
pieces-init g c = record {
  within = omega arith;
  keeps = keeps_start g.met.D.TreeDisk.laws (is_below c.args.dir.now) c.args.disk.now (tt {0});
  room = c.requires.room;
  advances = λ given it.
      let now = reopen c.args.reading.now c.args.dir.now given (given ++ []) (sym (append-nil given)) it in
      (now.0, λ tells holds. subst (HoldsFiles (g.D.TreeDisk.disk.reads c.args.disk.now) c.args.dir.now) (sym now.1) holds);
}

pub returns-in_err-at-clause-keeps : goal.returns-in_err-at-clause-keeps
returns-in_err-at-clause-keeps g c = keeps_then c.pieces.invariant.keeps (keeps_stop c.in_err-at.ensures.keeps c.from_residual.ensures.1)

pub returns-in_err-at-clause-refused : goal.returns-in_err-at-clause-refused
returns-in_err-at-clause-refused g c = λ given it.
    let piece = c.args.piece.now in
    let at = c.pieces.at in
    let count = c.if-room-left.count in
    let now = c.pieces.invariant.advances given it in
    let spelled : (given ++ take at piece) ++ slice_range piece at (at + count) ≡ given ++ take (at + count) piece = append_assoc given (take at piece) (slice_range piece at (at + count)) ∙ ap (λ (l : List ℕ). given ++ l) (range_more piece at count) in
    handed_refusal (Decided IsFirstFault (given ++ piece)) c.from_residual.result _ c.from_residual.ensures.1
    (refusal_more given piece (at + count) _ (all_bytes piece (λ i. omega (arith, c.type_inv.piece i)))
    (subst (λ (l : List ℕ). IfRefusal (Decided IsFirstFault l) c.in_err-at.field-0.0) spelled (c.in_err-at.ensures.refused (given ++ take at piece) now.0)))

pub pieces-preserved : goal.pieces-preserved
pieces-preserved g c =
    let piece = c.args.piece.now in
    let at = c.pieces.at in
    let count = c.if-room-left.count in
    let used = c.in_ok-at.field-0 in
    record {
      within = omega (arith, c.in_ok-at.ensures.used, length-take (at + count - at) (drop at piece), length-drop at piece, c.pieces-test.true);
      keeps = keeps_answer (keeps_then c.pieces.invariant.keeps c.in_ok-at.ensures.keeps) tt;
      room = c.in_ok-at.ensures.room;
      advances = λ given it.
          let first = c.pieces.invariant.advances given it in
          let next = c.in_ok-at.ensures.advances (given ++ take at piece) first.0 in
          let spelled : (given ++ take at piece) ++ take used (slice_range piece at (at + count)) ≡ given ++ take (at + used) piece =
          append_assoc given (take at piece) (take used (slice_range piece at (at + count))) ∙ ap (λ (l : List ℕ). given ++ l) (used_more piece at count used c.in_ok-at.ensures.used) in
          let now = reopen c.take_some.new.reading c.args.dir.now ((given ++ take at piece) ++ take used (slice_range piece at (at + count))) (given ++ take (at + used) piece) spelled next.0 in
          (now.0, λ tells holds. subst (HoldsFiles (g.D.TreeDisk.disk.reads c.take_some.new.disk) c.args.dir.now) (sym now.1) (next.1 tells (first.1 tells holds)));
    }

pub returns-clause-advances : goal.returns-clause-advances
returns-clause-advances g c = λ given it.
    let piece = c.args.piece.now in
    let last = c.pieces.invariant.advances given it in
    let now = reopen c.pieces.reading c.args.dir.now (given ++ take c.pieces.at piece) (given ++ piece) (ap (λ (l : List ℕ). given ++ l) (take_all c.pieces.at piece c.pieces-test.false)) last.0 in
    (now.0, λ tells holds. subst (HoldsFiles (g.D.TreeDisk.disk.reads c.pieces.disk) c.args.dir.now) (sym now.1) (last.1 tells holds))
