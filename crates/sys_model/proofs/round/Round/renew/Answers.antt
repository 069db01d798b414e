use Rattle.std.proofs.Common.{ℕ, List, Contains, refl, sym, subst}
use Rattle.repo_index.specs.trove-stream.declared.parts.TroveParts.{TroveParts}
use Rattle.update_job.specs.Lists.{IsErased}
use Rattle.sys_model.proofs.round.Round.renew.Goals as goal

pub returns : goal.returns
returns c = record {
  places = refl;
  fresh = refl;
  replaced = refl;
  erased = subst (λ (l : List (List ℕ)). IsErased c.args.known.now.installed.now l c.in_ok-self.field-0) c.as_slice.ensures.value c.in_ok-self.ensures;
  comers = λ place t among there. c.in_ok-doubt_places.ensures.all place t (subst (λ (l : List ℕ). Contains l place) (sym c.as_slice-2.ensures.keys) among) there;
  stayers = λ t among. c.in_ok-doubt_places.ensures.still t.id.name (c.in_ok-doubt_troves.ensures.all t (subst (λ (l : List TroveParts). Contains l t) (sym c.troves.ensures.value) among));
}
