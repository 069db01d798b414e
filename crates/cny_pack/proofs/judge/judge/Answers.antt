use Rattle.std.proofs.Common.{◌≡◌, List, [], Err, ap, subst, ◌∙◌}
use Rattle.manifest_troves.specs.Troves.{AreTroves}
use Rattle.manifest_troves.specs.declared.lines.TroveLines.{TroveLines}
use Rattle.manifest_troves.specs.trove-parts.declared.id.TroveId.{TroveId}
use Rattle.cny_pack.proofs.Standing.{unjudged}
use Rattle.cny_pack.proofs.judge.judge.Goals as goal

pub returns-in-Err-Bad-clause-stops : goal.returns-in-Err-Bad-clause-stops
returns-in-Err-Bad-clause-stops c =
    let head = c.args.head in
    let empty : c.new-2.result ≡ [] = c.new-2.ensures ∙ c.new.ensures.items in
    let with_refs : List TroveId → TroveLines = λ l. record { id = head.id; refs = l; requires_ = head.requires_; provides = head.provides; files = c.in_ok-files.files } in
    unjudged head.id head.requires_ head.provides c.args.sights.now c.in_ok-files.files c.in_ok-files.ensures.stand c.in_ok-files.ensures.valid
    (subst (λ (l : List TroveId). AreTroves (with_refs l) → ⊥) empty (c.troves_of.ensures.bad (c.in-Err-Bad.is ∙ ap Err c.in-Err-Bad.field-0-is)))
