use Rattle.std.proofs.Common.{IsTrue, List, ap, subst, ◌∙◌}
use Rattle.local_db.specs.Formats.{CanTell}
use Rattle.local_db.specs.declared.format.Format.TheVariants.{One}
use Rattle.local_db.specs.trove-parts.declared.files.FileAt.{FileAt}
use Rattle.local_db.specs.trove-stream.declared.rel.RelParts.{RelParts}
use Rattle.job_record.proofs.deltas.sets_roots.Goals as goal

pub returns : goal.returns
returns c =
    subst (λ (l : List FileAt). (IsTrue c.are_roots.result → CanTell One l) × (CanTell One l → IsTrue c.are_roots.result))
    (c.get.ensures ∙ ap (λ (p : RelParts). p.files_set) c.parts.ensures.value) c.are_roots.ensures
