use Rattle.std.proofs.Common.{◌≡◌, Err, sym, ap, ◌∙◌, subst}
use Rattle.manifest_troves.specs.declared.lines.TroveLines.{TroveLines}
use Rattle.manifest_troves.specs.Troves.{AreTroves, troves_of, KeepsEntries}
use Rattle.cny_manifest.specs.Made.{lines_of}
use Rattle.cny_manifest.proofs.Ending.{end_stops, more_stops, end_is, not_empty, empty_list}
use Rattle.cny_manifest.proofs.reading.end.Goals as goal

pub returns-then-not-is_empty-clause-err : goal.returns-then-not-is_empty-clause-err
returns-then-not-is_empty-clause-err c =
    rw c.fault_at.ensures
    (more_stops c.args.draft c.args.rest.now c.args.behind.now c.requires (subst AreTroves c.into_lines-lines.ensures.lines c.in-Ok.ensures.ok)
    (not_empty c.args.behind.now (sym c.is_empty.ensures ∙ c.if-not-is_empty.true)))

pub returns-in-Ok-clause-ok : goal.returns-in-Ok-clause-ok
returns-in-Ok-clause-ok c =
    let lines : c.into_lines-lines.result.0 ≡ lines_of c.args.draft = c.into_lines-lines.ensures.lines in
    record {
      runs = end_is c.args.draft c.args.rest.now c.args.behind.now c.requires (subst AreTroves lines c.in-Ok.ensures.ok) (empty_list c.args.behind.now (sym c.is_empty.ensures ∙ c.if-not-is_empty.false));
      troves_are = c.in-Ok.ensures.value ∙ ap troves_of lines;
      rising = c.in-Ok.ensures.rising;
      entries = subst (λ (l : TroveLines). KeepsEntries l c.in-Ok.troves) lines c.in-Ok.ensures.entries;
      contents_are = c.into_lines-lines.ensures.contents;
    }

pub returns-in-Err-Bad-clause-err : goal.returns-in-Err-Bad-clause-err
returns-in-Err-Bad-clause-err c =
    rw c.fault_at-in-Err-Bad.ensures
    (end_stops c.args.draft c.args.rest.now c.args.behind.now c.requires
    (λ can. c.in-Err-Bad.ensures.bad (ap Err c.in-Err-Bad.field-0-is) (subst AreTroves (sym c.into_lines-lines.ensures.lines) can)))
