use Rattle.std.proofs.Common.{◌≡◌, true, ◌∙◌}
use Rattle.std.specs.BTreeMap.{get}
use Rattle.std.specs.Cmp.Lexicographic.{slice_cmp}
use Rattle.std.specs.Ordering.{nat_cmp}
use Rattle.change_rel.specs.cny-base.Path.{is_path}
use Rattle.local_db.specs.Record.{Entry}
use Rattle.past_jobs.proofs.Undone.{all_step, noted_step}
use Rattle.past_jobs.proofs.found.note_all.Goals as goal

pub loop-change-preserved : goal.loop-change-preserved
loop-change-preserved c =
    let list = c.args.changes.now in
    let k = c.loop-change.change-index in
    let x = c.change-item.result in
    record {
      rest = λ p. noted_step c.args.number list k x (get (slice_cmp nat_cmp) c.loop-change.found) (get (slice_cmp nat_cmp) c.note.new.found) p c.loop-change-test.true c.change-item.is (c.in_ok-note.ensures.noted p)
          ∙ c.loop-change.invariant.rest p;
      ordered = λ o. c.in_ok-note.ensures.ordered;
      paths = all_step (λ (e : Entry). is_path e.path ≡ true) list k x c.loop-change-test.true c.change-item.is c.in_ok-note.ensures.path c.loop-change.invariant.paths;
    }
