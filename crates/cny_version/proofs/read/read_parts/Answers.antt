use Rattle.std.proofs.Common.{◌≡◌, None, sym, ap, ◌∙◌, rules}
use Rattle.std.proofs.lemmas.Result.{err_from_is_err_and}
use Rattle.cny_version.specs.Reading.{step_to, label_found, version_found}
use Rattle.cny_version.specs.Slices.{parts_of}
use Rattle.cny_version.proofs.ReaderAnswers.{gives_err}
use Rattle.cny_version.proofs.VersionSteps.{step_last, on_longer, on_no_longer}
use Rattle.cny_version.proofs.read.read_parts.Goals as goal

pub returns-in_err-branch-in-Label : goal.returns-in_err-branch-in-Label
returns-in_err-branch-in-Label c =
    let s = c.in-Label.ensures in
    let e = c.in_err-branch-in-Label.ensures in
    let r = c.from_residual-in_err-branch-in-Label.ensures in
    let needed : step_to c.labels.branch c.in-Label.between.now (parts_of c.in-Label.next) ≡ None → version_found c.args.whole c.args.text.now ≡ None = λ none.
    sym c.labels.invariant.same
    ∙ on_no_longer c.args.whole c.labels.branch c.labels.rest.now c.in-Label.between.now s.piece c.in-Label.after.now (parts_of c.in-Label.next) s.pieces_are
    (ap (λ l. label_found c.args.whole l s.piece) c.labels.invariant.last ∙ s.found) none in
    let p = err_from_is_err_and c.from_residual-in_err-branch-in-Label.result c.from_residual-in_err-branch-in-Label.ensures.1 in
    rw (p.1, p.2) (gives_err c.in_err-branch-in-Label.field-0.0 (step_to c.labels.branch c.in-Label.between.now (parts_of c.in-Label.next)) (version_found c.args.whole c.args.text.now) c.in_err-branch-in-Label.ensures needed)

pub labels-preserved : goal.labels-preserved
labels-preserved c =
    let s = c.in-Label.ensures in
    let b = c.labels.branch in
    let longer = c.in_ok-branch-in-Label.branch in
    record {
      utf8 = search rules;
      last = step_last b longer c.in-Label.between.now (parts_of c.in-Label.next) c.in_ok-branch-in-Label.ensures;
      same = on_longer c.args.whole b longer c.labels.rest.now c.in-Label.between.now s.piece c.in-Label.after.now (parts_of c.in-Label.next) s.pieces_are
          (ap (λ l. label_found c.args.whole l s.piece) c.labels.invariant.last ∙ s.found) c.in_ok-branch-in-Label.ensures
          ∙ c.labels.invariant.same;
    }
