use Rattle.std.proofs.Common.{List, Contains, ⊎_elim, subst, sym, arith}
use Rattle.std.specs.Prelude.{IsTrue}
use Rattle.std.proofs.lemmas.List.{take_all}
use Rattle.repo_index.specs.trove-parts.declared.id.TroveId.{TroveId}
use Rattle.repo_index.specs.trove-stream.declared.parts.TroveParts.{TroveParts}
use Rattle.update_job.proofs.Elements.{in_more}
use Rattle.sys_model.specs.Growing.{is_doubted}
use Rattle.sys_model.proofs.noting.doubt_troves.Goals as goal

pub loop-trove-preserved : goal.loop-trove-preserved
loop-trove-preserved c =
    let t = c.trove-item.result in
    record {
      all = λ u among. ⊎_elim
          (λ before. c.in_ok-doubt.ensures.still u.id.name (c.loop-trove.invariant.all u before))
          (λ same. subst (λ (v : TroveParts). IsTrue (is_doubted c.doubt.new.doubted v.id.name)) same
          (subst (λ (id : TroveId). IsTrue (is_doubted c.doubt.new.doubted id.name)) c.id.ensures.value c.in_ok-doubt.ensures.own))
          (in_more c.args.troves.now c.loop-trove.trove-index t t (omega arith) c.trove-item.is u among);
      still = λ name is. c.in_ok-doubt.ensures.still name (c.loop-trove.invariant.still name is);
    }

pub returns-clause-all : goal.returns-clause-all
returns-clause-all c = λ t among. c.loop-trove.invariant.all t (subst (λ (l : List TroveParts). Contains l t) (sym (take_all c.loop-trove.trove-index c.args.troves.now (omega arith))) among)
