use Rattle.std.proofs.Common.{◌≡◌, ◌+◌, ◌<◌, List, [], ◌∷◌, ◌++◌, length, take, map, All, sym, ap, subst, ◌∙◌, arith}
use Rattle.std.proofs.lemmas.List.{take_more}
use Rattle.std.proofs.lemmas.List.Elements.{All-push}
use Rattle.repo_index.specs.cny-base.declared.refusal.Fault.{Fault}
use Rattle.repo_index.specs.cny-base.declared.refusal.Fault.TheVariants.{Memory}
use Rattle.repo_index.specs.trove-parts.declared.id.TroveId.{TroveId}
use Rattle.repo_index.specs.trove-parts.Id.{IsTroveId}
use Rattle.repo_shadow.specs.Moved.{moved_id}
use Rattle.repo_shadow.specs.Steps.{Fits}
use Rattle.repo_shadow.proofs.Versions.{never_too_long}
use Rattle.cny_version.proofs.cny-base.Faults.{handed_on}
use Rattle.cny_version.proofs.cny-base.Lists.{map_push as map-push}
use Rattle.repo_shadow.proofs.moving.moved_refs.Goals as goal

pub loop-id-preserved : goal.loop-id-preserved
loop-id-preserved c =
    let f = moved_id c.args.way c.args.label.now in
    let refs = c.args.refs.now in
    let i = c.loop-id.id-index in
    let x = c.id-item.result in
    let old = c.loop-id.made.items in
    let within : i < length refs = omega arith in
    let longer : map f (take (i + 1) refs) ≡ map f (take i refs) ++ f x ∷ [] =
    ap (map f) (take_more refs i x within ∙ ap (λ (id : TroveId). take i refs ++ id ∷ []) (sym c.id-item.is)) ∙ map-push f (take i refs) x in record {
      ids_are = c.in_ok-add_moved.ensures.added ∙ ap (λ (l : List TroveId). l ++ f x ∷ []) c.loop-id.invariant.ids_are ∙ sym longer;
      valid = subst (All IsTroveId) (sym c.in_ok-add_moved.ensures.added) (All-push IsTroveId old (f x) c.loop-id.invariant.valid c.in_ok-add_moved.ensures.valid);
    }

pub returns-in_err-add_moved-clause-fault : goal.returns-in_err-add_moved-clause-fault
returns-in_err-add_moved-clause-fault c =
    let way = c.args.way in
    let label = c.args.label.now in
    let refs = c.args.refs.now in
    let i = c.loop-id.id-index in
    let x = c.id-item.result in
    let within : i < length refs = omega arith in
    let fits : Fits way label x = subst (λ (id : TroveId). Fits way label id) (sym c.id-item.is) (c.requires i x within) in
    handed_on (λ (error : Fault). error ≡ Memory) c.from_residual.result c.in_err-add_moved.field-0.0 c.from_residual.ensures.1
    (never_too_long way label x c.in_err-add_moved.field-0.0 fits c.in_err-add_moved.ensures.fault)
