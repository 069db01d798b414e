use Rattle.std.proofs.Common.{List, ℕ, [], ◌∷◌, sym, subst}
use Rattle.std.proofs.lemmas.Result.{IfOk-weaker}
use Rattle.update_job.specs.Gone.{IsPlace}
use Rattle.update_job.specs.Places.{ArePlacesFrom, ArePlacesReached}
use Rattle.update_job.proofs.Leaving.{one_start, places_from_one}
use Rattle.update_job.proofs.reaching.places_from.Goals as goal

pub places_reached-requires : goal.places_reached-requires
places_reached-requires c = λ place among. subst (IsPlace c.args.installed.now) (sym (one_start c.args.start place among)) c.requires

pub returns : goal.returns
returns c =
    let list = c.args.installed.now in
    IfOk-weaker c.places_reached.result (λ places. ArePlacesReached list c.new-none.result (c.args.start ∷ []) places) (λ places. ArePlacesFrom list c.args.start places)
    (λ places are. places_from_one list c.args.start places (subst (λ (barred : List ℕ). ArePlacesReached list barred (c.args.start ∷ []) places) c.new-none.ensures.empty are)) c.places_reached.ensures
