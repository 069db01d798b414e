use Rattle.std.proofs.Common.{◌≡◌, List, Option, None, take, sym, ap, ◌∙◌, subst}
use Rattle.std.proofs.lemmas.List.{take_all}
use Rattle.local_db.specs.trove-stream.declared.parts.TroveParts.{TroveParts}
use Rattle.local_db.specs.trove-stream.Installed.{trove_of}
use Rattle.past_jobs.specs.Table.{trove_at, troves_of}
use Rattle.past_jobs.proofs.Joining.{unnamed, put_step, front, no_other}
use Rattle.past_jobs.proofs.Maps.{found_in, rises_in}
use Rattle.change_rel.proofs.trove-stream.Names.{one_list}
use Rattle.change_rel.specs.trove-stream.Either.{or_else}
use Rattle.past_jobs.proofs.table.put_troves.Goals as goal

pub put_trove-requires-clause-absent : goal.put_trove-requires-clause-absent
put_trove-requires-clause-absent c =
    c.loop-trove.invariant.found c.trove-item.result.id.name
    ∙ ap (λ (o : Option TroveParts). or_else o None) (unnamed c.args.troves.now c.requires.rising c.loop-trove.trove-index c.trove-item.result c.loop-trove-test.true c.trove-item.is)

pub loop-trove-preserved : goal.loop-trove-preserved
loop-trove-preserved c = record {
  indexed = c.in_ok-put_trove.ensures.indexed;
  found = λ name. subst (λ (l : List TroveParts). trove_at c.put_trove.new.table.troves name ≡ or_else (trove_of name l) None) (front c.args.troves.now c.loop-trove.trove-index c.trove-item.result c.loop-trove-test.true c.trove-item.is)
      (put_step (take c.loop-trove.trove-index c.args.troves.now) c.trove-item.result name None (trove_at c.loop-trove.table.troves name) (trove_at c.put_trove.new.table.troves name)
      (unnamed c.args.troves.now c.requires.rising c.loop-trove.trove-index c.trove-item.result c.loop-trove-test.true c.trove-item.is)
      (c.loop-trove.invariant.found name) (c.in_ok-put_trove.ensures.troves name));
}

pub returns-clause-troves : goal.returns-clause-troves
returns-clause-troves c =
    one_list (troves_of c.loop-trove.table.troves) c.args.troves.now
    (rises_in c.args.format c.loop-trove.table.troves c.loop-trove.table.marks c.loop-trove.table.len c.loop-trove.invariant.indexed) c.requires.rising
    (λ name. sym (found_in c.args.format c.loop-trove.table.troves c.loop-trove.table.marks c.loop-trove.table.len c.loop-trove.invariant.indexed name)
    ∙ c.loop-trove.invariant.found name ∙ no_other (trove_of name (take c.loop-trove.trove-index c.args.troves.now))
    ∙ ap (trove_of name) (take_all c.loop-trove.trove-index c.args.troves.now c.loop-trove-test.false))
