use Rattle.std.proofs.Common.{◌≡◌, ◌+◌, ◌<◌, List, [], ◌∷◌, ◌++◌, length, take, get_or, map, Vec, Bor, Option, slice_get, sym, ap, ◌∙◌, arith}
use Rattle.std.specs.List.{cons_option}
use Rattle.std.specs.declared.alloc.Global.{Global}
use Rattle.std.proofs.lemmas.List.{take_more}
use Rattle.repo_index.specs.trove-stream.declared.parts.TroveParts.{TroveParts}
use Rattle.repo_index.specs.Places.{troves_at}
use Rattle.repo_index.proofs.PlacesLaws.{at-push}
use Rattle.std.proofs.Common.{append-nil}
use Rattle.trove_spec.proofs.InOrder.{now_of}
use Rattle.trove_spec.proofs.expanding.troves_at.Goals.{in-Some+in_ok-add_trove, in_default}
use Rattle.trove_spec.proofs.expanding.troves_at.Goals as goal

pub loop-place-preserved : goal.loop-place-preserved
loop-place-preserved c =
    let troves = c.args.catalogue.now.troves in
    let places = c.args.places.now in
    let i = c.loop-place.place-index in
    let here = get_or places i 0 in
    let old = c.loop-place.troves.items in
    let within : i < length places = omega arith in
    let longer : troves_at troves (take (i + 1) places) ≡ troves_at troves (take i places) ++ cons_option (slice_get troves here) [] =
    ap (troves_at troves) (take_more places i 0 within) ∙ at-push troves (take i places) here in
    elim c.match-trove_at.branch [
      | in-Some+in_ok-add_trove w ↦
          let x = w.in-Some.trove in
          ap (λ (v : Vec (Bor TroveParts) Global). map now_of v.items) w.troves-is
          ∙ w.in_ok-add_trove.ensures.once
          ∙ ap (λ (l : List TroveParts). l ++ x.now ∷ []) c.loop-place.invariant
          ∙ ap (λ (o : Option TroveParts). troves_at troves (take i places) ++ cons_option o []) w.in-Some.ensures
          ∙ sym longer
      | in_default w ↦
          ap (λ (v : Vec (Bor TroveParts) Global). map now_of v.items) w.troves-is
          ∙ c.loop-place.invariant
          ∙ sym (append-nil (troves_at troves (take i places)))
          ∙ ap (λ (o : Option TroveParts). troves_at troves (take i places) ++ cons_option o []) w.in_default.ensures
          ∙ sym longer
    ]
