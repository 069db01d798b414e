use Rattle.std.proofs.Common.{List, ℕ, length, take, get_or, ap, sym, ◌∙◌, ◌∷◌, [], arith, length-append}
use Rattle.std.proofs.lemmas.List.{take_more}
use Rattle.repo_load.specs.trove-parts.Id.{id_bytes}
use Rattle.repo_load.specs.trove-parts.declared.id.TroveId.{TroveId}
use Rattle.repo_mirror.specs.Requests.{ids_bytes}
use Rattle.repo_serve.specs.Reply.{id_of}
use Rattle.repo_serve.specs.declared.ids.Extent.{Extent}
use Rattle.repo_serve.proofs.PlacedIds.{bytes_more, ids_at, none_more, one_more}
use Rattle.repo_serve.proofs.ids.extent_of.Goals as goal
use Rattle.repo_serve.proofs.ids.extent_of.Goals.{in-Some+in_ok-extent, in_default}

pub loop-place-preserved : goal.loop-place-preserved
loop-place-preserved c =
    let places = c.args.places.now in
    let i = c.loop-place.place-index in
    let troves = c.args.catalogue.now.troves in
    let before = ids_at troves (take i places) in
    let front = ap (ids_at troves) (take_more places i 0 c.loop-place-test.true) in
    elim c.match-trove_at.branch [
      | in-Some+in_ok-extent w ↦
          let t = w.in-Some.trove.now in
          let ids = front ∙ one_more troves (take i places) (get_or places i 0) t (sym w.in-Some.ensures) in
          let count = ap (λ (l : List TroveId). length l) ids in
          let longer = length-append before (id_of t ∷ []) in
          let bytes = ap (λ (l : List TroveId). length (ids_bytes l)) ids in
          let more = ap (λ (l : List ℕ). length l) (bytes_more before (id_of t)) in
          let sum = length-append (ids_bytes before) (id_bytes (id_of t)) in
          let own = ap (λ (id : TroveId). length (id_bytes id)) w.id.ensures.value in
          let number = ap (λ (e : Extent). e.number) w.extent-is in
          let len = ap (λ (e : Extent). e.len) w.extent-is in (
            omega (arith, number, w.in_ok-extent.ensures.number, c.loop-place.invariant.0, count, longer),
            omega (arith, len, w.in_ok-extent.ensures.len, c.loop-place.invariant.1, bytes, more, sum, own),
            omega (arith, number, len, w.in_ok-extent.ensures.some),
          )
      | in_default w ↦
          let ids = front ∙ none_more troves (take i places) (get_or places i 0) (sym w.in_default.ensures) in
          let count = ap (λ (l : List TroveId). length l) ids in
          let bytes = ap (λ (l : List TroveId). length (ids_bytes l)) ids in
          let number = ap (λ (e : Extent). e.number) w.extent-is in
          let len = ap (λ (e : Extent). e.len) w.extent-is in (
            omega (arith, number, c.loop-place.invariant.0, count),
            omega (arith, len, c.loop-place.invariant.1, bytes),
            omega (arith, number, len, c.loop-place.invariant.2),
          )
    ]
