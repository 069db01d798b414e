use Rattle.std.proofs.Common.{List, ℕ, ◌++◌, take, get_or, ap, sym, ◌∙◌, append_assoc}
use Rattle.std.proofs.lemmas.List.{take_more}
use Rattle.repo_load.specs.trove-parts.Id.{id_bytes}
use Rattle.repo_load.specs.trove-parts.declared.id.TroveId.{TroveId}
use Rattle.repo_mirror.specs.Requests.{ids_bytes}
use Rattle.repo_serve.specs.Reply.{id_of}
use Rattle.repo_serve.proofs.PlacedIds.{bytes_more, ids_at, none_more, one_more}
use Rattle.repo_serve.proofs.ids.put_ids.Goals as goal
use Rattle.repo_serve.proofs.ids.put_ids.Goals.{in-Some+in_ok-put_id, in_default}

pub loop-place-preserved : goal.loop-place-preserved
loop-place-preserved c =
    let places = c.args.places.now in
    let i = c.loop-place.place-index in
    let troves = c.args.catalogue.now.troves in
    let out = c.args.out.now in
    let before = ids_at troves (take i places) in
    let front = ap (ids_at troves) (take_more places i 0 c.loop-place-test.true) in
    elim c.match-trove_at.branch [
      | in-Some+in_ok-put_id w ↦
          let t = w.in-Some.trove.now in
          let ids = front ∙ one_more troves (take i places) (get_or places i 0) t (sym w.in-Some.ensures) in
          let bytes = ap ids_bytes ids ∙ bytes_more before (id_of t) in
          w.out-is ∙ w.in_ok-put_id.ensures.ok ∙ ap (λ (id : TroveId). c.loop-place.out ++ id_bytes id) w.id.ensures.value ∙ ap (λ (l : List ℕ). l ++ id_bytes (id_of t)) c.loop-place.invariant
          ∙ append_assoc out (ids_bytes before) (id_bytes (id_of t)) ∙ ap (λ (l : List ℕ). out ++ l) (sym bytes)
      | in_default w ↦
          let ids = front ∙ none_more troves (take i places) (get_or places i 0) (sym w.in_default.ensures) in
          w.out-is ∙ c.loop-place.invariant ∙ ap (λ (l : List TroveId). out ++ ids_bytes l) (sym ids)
    ]
