use Rattle.std.proofs.Common.{◌≡◌, ℕ, ◌+◌, ◌<◌, true, false, List, [], ◌∷◌, ◌++◌, length, take, map, get_or, Err, refl, sym, ap, subst, ◌∙◌, arith}
use Rattle.std.proofs.lemmas.List.{take_more}
use Rattle.repo_index.proofs.cny-base.Lists.{length-map, map_push}
use Rattle.trove_spec.specs.Config.{cleaned}
use Rattle.trove_spec.proofs.Borrowed.{none, now_of}
use Rattle.trove_spec.proofs.ConfigLines.{get_or-map, take-map}
use Rattle.sys_model.specs.declared.directive.ModelLine.{ModelLine}
use Rattle.sys_model.specs.Model.{is_read, IsBadModelOrMemory, IsDirective}
use Rattle.sys_model.proofs.LinesRead.{AreSaid, IsOnly, only_more, only_same, said_more, said_same}
use Rattle.sys_model.proofs.model.model_of.Goals.{then-is_read+in-Ok+in_ok-push-in-Ok, else-is_read}
use Rattle.sys_model.proofs.model.model_of.Goals as goal

pub returns-in-Err-Bad-clause-fault : goal.returns-in-Err-Bad-clause-fault
returns-in-Err-Bad-clause-fault c =
    let pieces = c.args.pieces.now in
    let i = c.loop-place.place in
    let within : i < length pieces = omega arith in
    let all = map now_of pieces in
    let here : get_or all i [] ≡ (get_or pieces i none).now = get_or-map now_of pieces i none [] within in
    let line : cleaned (get_or all i []) ≡ c.trimmed-line.result.now = ap cleaned here ∙ sym c.trimmed-line.ensures in
    subst (IsBadModelOrMemory all) (sym c.bad_line.ensures) (
      i,
      refl,
      record {
        model = record { lines = c.loop-place.lines.items };
        is = subst (λ (l : List (List ℕ)). AreSaid l c.loop-place.lines.items) (sym (take-map now_of i pieces)) c.loop-place.invariant.said;
        within = omega (arith, length-map now_of pieces);
        read = ap is_read line ∙ sym c.is_read.ensures ∙ c.if-is_read.true;
        bad = λ said is. c.in-Err-Bad.ensures.bad (ap Err c.in-Err-Bad.field-0-is) said (subst (λ (l : List ℕ). IsDirective l said) line is);
      },
    )

pub loop-place-preserved : goal.loop-place-preserved
loop-place-preserved c =
    let pieces = c.args.pieces.now in
    let i = c.loop-place.place in
    let within : i < length pieces = omega arith in
    let piece = (get_or pieces i none).now in
    let before = map now_of (take i pieces) in
    let said = c.loop-place.lines.items in
    let longer : map now_of (take (i + 1) pieces) ≡ before ++ piece ∷ [] = ap (map now_of) (take_more pieces i none within) ∙ map_push now_of (take i pieces) (get_or pieces i none) in
    elim c.if-is_read.branch [
      | then-is_read+in-Ok+in_ok-push-in-Ok w ↦ (
          let one : ModelLine = w.in-Ok.said in
          let read : is_read (cleaned piece) ≡ true = ap is_read (sym c.trimmed-line.ensures) ∙ sym c.is_read.ensures ∙ w.if-is_read.true in
          let more : c.if-is_read.lines.items ≡ said ++ one ∷ [] = ap (λ v. v.items) w.lines-is ∙ w.in_ok-push-in-Ok.ensures.items in
          record {
            said = subst (λ (l : List (List ℕ)). AreSaid l c.if-is_read.lines.items) (sym longer) (subst (AreSaid (before ++ piece ∷ [])) (sym more)
                (said_more before piece said one read c.loop-place.invariant.said (subst (λ (l : List ℕ). IsDirective l one) c.trimmed-line.ensures w.in-Ok.ensures.found)));
            only = subst (λ (l : List (List ℕ)). IsOnly l c.if-is_read.lines.items) (sym longer) (subst (IsOnly (before ++ piece ∷ [])) (sym more)
                (only_more before piece said one read c.loop-place.invariant.only (λ s is. w.in-Ok.ensures.only s (subst (λ (l : List ℕ). IsDirective l s) (sym c.trimmed-line.ensures) is))));
          })
      | else-is_read w ↦ (
          let skipped : is_read (cleaned piece) ≡ false = ap is_read (sym c.trimmed-line.ensures) ∙ sym c.is_read.ensures ∙ w.if-is_read.false in
          let same : c.if-is_read.lines.items ≡ said = ap (λ v. v.items) w.lines-is in
          record {
            said = subst (λ (l : List (List ℕ)). AreSaid l c.if-is_read.lines.items) (sym longer) (subst (AreSaid (before ++ piece ∷ [])) (sym same)
                (said_same before piece said skipped c.loop-place.invariant.said));
            only = subst (λ (l : List (List ℕ)). IsOnly l c.if-is_read.lines.items) (sym longer) (subst (IsOnly (before ++ piece ∷ [])) (sym same)
                (only_same before piece said skipped c.loop-place.invariant.only));
          })
    ]
