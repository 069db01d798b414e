use Rattle.std.proofs.Common.{◌≡◌, Bool, List, [], ◌++◌, take, sym, ap, ◌∙◌}
use Rattle.std.specs.List.{cons_option, filter_map}
use Rattle.update_job.specs.cny-base.Name.{kind_of_name}
use Rattle.update_job.specs.trove-parts.declared.id.TroveId.{TroveId}
use Rattle.root_edits.specs.Moved.{keeps_others, local_ref}
use Rattle.root_edits.proofs.Members.{filter_map_push, next_one}
use Rattle.change_rel.proofs.trove-stream.Members.{take_all as take_whole}
use Rattle.root_edits.proofs.moving.pushed_refs.Goals as goal

pub loop-id-preserved : goal.loop-id-preserved
loop-id-preserved c =
    let f = local_ref c.keeps_others-keeps.result c.args.troves.now in
    let items = c.refs-id-items.result.now in
    let i = c.loop-id.id-index in
    let x = c.id-item.result in record {
      refs_are = c.in_ok-push_ref.ensures.pushed ∙ ap (λ (l : List TroveId). l ++ cons_option (f x) []) c.loop-id.invariant.refs_are
          ∙ sym (ap (filter_map f) (next_one items i x c.loop-id-test.true c.id-item.is) ∙ filter_map_push f (take i items) x);
      valid = c.in_ok-push_ref.ensures.valid c.loop-id.invariant.valid;
    }

pub returns-clause-value : goal.returns-clause-value
returns-clause-value c =
    let troves = c.args.troves.now in
    let t = c.args.trove.now in
    let f = local_ref c.keeps_others-keeps.result troves in
    let keeps : c.keeps_others-keeps.result ≡ keeps_others (kind_of_name t.id.name) =
    c.keeps_others-keeps.ensures ∙ ap keeps_others (c.kind.ensures ∙ ap (λ (i : TroveId). kind_of_name i.name) c.id.ensures.value) in
    c.loop-id.invariant.refs_are ∙ ap (filter_map f) (take_whole c.loop-id.id-index c.refs-id-items.result.now c.loop-id-test.false ∙ c.refs-id-items.ensures.value)
    ∙ ap (λ (b : Bool). filter_map (local_ref b troves) t.refs) keeps
