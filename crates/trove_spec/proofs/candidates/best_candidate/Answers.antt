use Rattle.std.proofs.Common.{◌≡◌, ℕ, ◌<◌, true, false, List, length, take, get_or, filter, Option, Some, option_copied, sym, ap, ◌∙◌, arith}
use Rattle.std.proofs.lemmas.List.{take_more}
use Rattle.repo_index.specs.trove-stream.declared.parts.TroveParts.{TroveParts}
use Rattle.repo_index.specs.Places.{troves_at}
use Rattle.trove_spec.specs.Resolve.{best, is_wanted, kept}
use Rattle.trove_spec.proofs.Choosing.{best_at-none, best_at-other, best_at-found}
use Rattle.trove_spec.proofs.candidates.best_candidate.Goals.{in-Some+then-is_wanted, in-Some+else-is_wanted, in_default}
use Rattle.trove_spec.proofs.candidates.best_candidate.Goals as goal

pub loop-place-preserved : goal.loop-place-preserved
loop-place-preserved c =
    let system = c.args.system.now in
    let troves = c.args.catalogue.now.troves in
    let places = c.args.places.now in
    let i = c.loop-place.place-index in
    let here = get_or places i 0 in
    let wanted = is_wanted (option_copied c.args.label) (option_copied c.args.version) system c.args.newest.now in
    let within : i < length places = omega arith in
    let longer = ap (λ (l : List ℕ). best system (filter wanted (troves_at troves l))) (sym (take_more places i 0 within)) in
    elim c.match-trove_at.branch [
      | in-Some+then-is_wanted w ↦
          let x = w.in-Some.trove.now in
          let passes : wanted x ≡ true = sym w.is_wanted.ensures ∙ w.if-is_wanted.true in
          ap option_copied w.found-is ∙ ap (λ (t : TroveParts). Some t) (w.better.ensures ∙ ap (λ (o : Option TroveParts). kept system o x) c.loop-place.invariant)
          ∙ sym (best_at-found system wanted troves (take i places) here x (sym w.in-Some.ensures) passes) ∙ longer
      | in-Some+else-is_wanted w ↦
          let x = w.in-Some.trove.now in
          let fails : wanted x ≡ false = sym w.is_wanted.ensures ∙ w.if-is_wanted.false in
          ap option_copied w.found-is ∙ c.loop-place.invariant ∙ sym (best_at-other system wanted troves (take i places) here x (sym w.in-Some.ensures) fails) ∙ longer
      | in_default w ↦ ap option_copied w.found-is ∙ c.loop-place.invariant ∙ sym (best_at-none system wanted troves (take i places) here (sym w.in_default.ensures)) ∙ longer
    ]
