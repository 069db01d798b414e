use Rattle.std.proofs.Common.{◌≡◌, ◌++◌, ◌+◌, [], ◌∷◌, List, Option, Some, None, Err, cond, take, sym, ap, ◌∙◌, subst}
use Rattle.std.proofs.lemmas.Result.{err_from_is_err_and}
use Rattle.local_db.specs.cny-base.declared.text.TextFault.TheVariants.{Bad}
use Rattle.local_db.specs.trove-parts.declared.id.TroveId.{TroveId}
use Rattle.local_db.specs.trove-stream.declared.parts.TroveParts.{TroveParts}
use Rattle.local_db.specs.trove-stream.Installed.{trove_of}
use Rattle.local_db.specs.Record.{TakesBackAt}
use Rattle.local_db.specs.declared.record.Delta.{Delta}
use Rattle.local_db.specs.RecordText.{delta_of, name_of}
use Rattle.past_jobs.specs.Table.{AreMade, has_delta, id_of, ids_at, trove_at, troves_of}
use Rattle.past_jobs.proofs.PastDeltas.{left_push, made_push, ids_push}
use Rattle.past_jobs.proofs.ChangedIds.{undone_now, front_deltas, turned_to, delta_in}
use Rattle.change_rel.proofs.cny-dep.Faults.{handed_on}
use Rattle.past_jobs.proofs.taking.take_all.Goals as goal

pub returns-in_err-take_one-clause-bad : goal.returns-in_err-take_one-clause-bad
returns-in_err-take_one-clause-bad c = λ h before back.
    let met = handed_on c.from_residual.result c.in_err-take_one.field-0.0 Bad (err_from_is_err_and c.from_residual.result c.from_residual.ensures.1) h in
    let now : trove_at c.loop-delta.table.troves (name_of c.delta-item.result) ≡ trove_of (name_of c.delta-item.result) (troves_of c.args.table.now.troves) =
    undone_now c.args.format c.args.table.now.troves c.loop-delta.table.troves c.args.table.now.marks c.args.table.now.len c.args.deltas.now c.requires.indexed c.requires.rising c.loop-delta.delta-index c.delta-item.result c.loop-delta-test.true c.delta-item.is c.loop-delta.invariant.left in
    c.in_err-take_one.ensures.bad (ap Err met) (trove_of (name_of c.delta-item.result) before)
    (subst (λ (o : Option TroveParts). TakesBackAt (Some (delta_of c.delta-item.result)) o (trove_of (name_of c.delta-item.result) before)) (sym now)
    (turned_to c.args.deltas.now c.requires.rising (troves_of c.args.table.now.troves) before back c.delta-item.result (delta_in c.args.deltas.now c.loop-delta.delta-index c.delta-item.result c.loop-delta-test.true c.delta-item.is)))

pub loop-delta-preserved : goal.loop-delta-preserved
loop-delta-preserved c =
    let now : trove_at c.loop-delta.table.troves (name_of c.delta-item.result) ≡ trove_of (name_of c.delta-item.result) (troves_of c.args.table.now.troves) =
    undone_now c.args.format c.args.table.now.troves c.loop-delta.table.troves c.args.table.now.marks c.args.table.now.len c.args.deltas.now c.requires.indexed c.requires.rising c.loop-delta.delta-index c.delta-item.result c.loop-delta-test.true c.delta-item.is c.loop-delta.invariant.left in
    let next : take c.loop-delta.delta-index c.args.deltas.now ++ c.delta-item.result ∷ [] ≡ take (c.loop-delta.delta-index + 1) c.args.deltas.now = front_deltas c.args.deltas.now c.loop-delta.delta-index c.delta-item.result c.loop-delta-test.true c.delta-item.is in
    record {
      indexed = c.in_ok-take_one.ensures.indexed;
      left = λ name. subst (λ (l : List Delta). trove_at c.take_one.new.table.troves name ≡ cond (has_delta l name) None (trove_at c.args.table.now.troves name)) next
          (left_push (take c.loop-delta.delta-index c.args.deltas.now) c.delta-item.result name (trove_at c.args.table.now.troves name) (trove_at c.loop-delta.table.troves name) (trove_at c.take_one.new.table.troves name) (c.loop-delta.invariant.left name) (c.in_ok-take_one.ensures.troves name));
      made = subst (λ (l : List Delta). AreMade (troves_of c.args.table.now.troves) l c.take_one.new.taken.made.items) next
          (subst (AreMade (troves_of c.args.table.now.troves) (take c.loop-delta.delta-index c.args.deltas.now ++ c.delta-item.result ∷ [])) (sym c.in_ok-take_one.ensures.made.1)
          (made_push (troves_of c.args.table.now.troves) (take c.loop-delta.delta-index c.args.deltas.now) c.loop-delta.taken.made.items c.delta-item.result c.in_ok-take_one.ensures.made.0 c.loop-delta.invariant.made
          (subst (λ (o : Option TroveParts). TakesBackAt (Some (delta_of c.delta-item.result)) o c.in_ok-take_one.ensures.made.0) now c.in_ok-take_one.ensures.made.2)));
      after = subst (λ (l : List Delta). c.take_one.new.taken.after.items ≡ ids_at (troves_of c.args.table.now.troves) l) next
          (c.in_ok-take_one.ensures.after ∙ ap (λ (l : List TroveId). l ++ id_of (trove_at c.loop-delta.table.troves (name_of c.delta-item.result))) c.loop-delta.invariant.after
          ∙ ap (λ (o : Option TroveParts). ids_at (troves_of c.args.table.now.troves) (take c.loop-delta.delta-index c.args.deltas.now) ++ id_of o) now
          ∙ sym (ids_push (troves_of c.args.table.now.troves) (take c.loop-delta.delta-index c.args.deltas.now) c.delta-item.result));
    }
