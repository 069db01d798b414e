use Rattle.std.proofs.Common.{◌≡◌, subst, sym}
use Rattle.local_db.specs.Formats.{CanTell, rel_text}
use Rattle.local_db.specs.declared.format.Format.{Format}
use Rattle.local_db.specs.declared.format.Format.TheVariants.{One}
use Rattle.local_db.specs.trove-stream.declared.rel.RelParts.{RelParts}
use Rattle.job_record.proofs.deltas.rel_of.Goals as goal

pub returns-then-not-sets_roots-clause-bad : goal.returns-then-not-sets_roots-clause-bad
returns-then-not-sets_roots-clause-bad c _ rel is told e =
    let told_one = subst (λ (f : Format). CanTell f rel.files_set) c.in-One.is told in
    let text = subst (λ (f : Format). c.args.value.now ≡ rel_text f rel) c.in-One.is e in
    let same = c.in_ok-rel-in-One.ensures.only rel (record { rel_is = is; text = text }) in
    absurd (cc (c.if-not-sets_roots.ensures.1 (subst (λ (r : RelParts). CanTell One r.files_set) (sym same) told_one)))
