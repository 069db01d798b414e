-- A commit joined trove by trove.
use Rattle.std.proofs.Common.{◌≡◌, Bool, List, [], ◌∷◌, ◌++◌, map, All, None, sym, ◌∙◌, ap, subst, append_assoc, append-nil}
use Rattle.std.proofs.lemmas.List.{map-append}
use Rattle.std.proofs.lemmas.List.Elements.{All-push}
use Rattle.repo_index.specs.trove-stream.declared.parts.TroveParts.{TroveParts}
use Rattle.repo_index.specs.Catalogue.{CatalogueParts, found, with_trove}
use Rattle.repo_load.specs.State.{Commit, AreNew, IsCommit}
use Rattle.repo_load.specs.Loading.{kept}
use Rattle.repo_load.proofs.Kept.{back, not_found, same_behind}
use Rattle.repo_index.specs.trove-stream.Forbidden.{IsAllowed}
use Rattle.journal_log.proofs.cny-base.Lists.{all_at}

-- what is kept of these of the troves is added, and those are left
pub record AreJoinedTo (whole : Bool) (old : CatalogueParts) (troves : Commit) (now : CatalogueParts) (left : List TroveParts) : Type 0 where
  pub done : List TroveParts
  pub is : troves ≡ done ++ left
  pub now_is : now ≡ record { commits = old.commits; troves = old.troves ++ map (kept whole) done }
  pub allowed : All IsAllowed done
  pub new_ids : AreNew old.troves done

pub new_push : (before done : List TroveParts) (t : TroveParts) → AreNew before done → found t.id (before ++ done) ≡ None → AreNew before (done ++ t ∷ [])
new_push before [] t all is = (subst (λ (l : List TroveParts). found t.id l ≡ None) (append-nil before) is, tt)
new_push before (u ∷ done) t all is =
    (all.0, new_push (before ++ u ∷ []) done t all.1 (subst (λ (l : List TroveParts). found t.id l ≡ None) (sym (append_assoc before (u ∷ []) done)) is))

new_at : (before done : List TroveParts) (t : TroveParts) (left : List TroveParts) → AreNew before (done ++ t ∷ left) → found t.id (before ++ done) ≡ None
new_at before [] t left all = subst (λ (l : List TroveParts). found t.id l ≡ None) (sym (append-nil before)) all.0
new_at before (u ∷ done) t left all =
    subst (λ (l : List TroveParts). found t.id l ≡ None) (append_assoc before (u ∷ []) done) (new_at (before ++ u ∷ []) done t left all.1)

pub one_joined : (whole : Bool) (old : CatalogueParts) (troves : Commit) (now : CatalogueParts) (left : List TroveParts) (t : TroveParts) (rest : List TroveParts) (new : CatalogueParts)
    → AreJoinedTo whole old troves now left → left ≡ t ∷ rest → IsAllowed t → found t.id now.troves ≡ None → new ≡ with_trove now (kept whole t) → AreJoinedTo whole old troves new rest
one_joined whole old troves now left t rest new so_far next allowed fresh is = record {
  done = so_far.done ++ t ∷ [];
  is = so_far.is ∙ ap (λ (l : List TroveParts). so_far.done ++ l) next ∙ sym (append_assoc so_far.done (t ∷ []) rest);
  now_is = is ∙ ap (λ (c : CatalogueParts). with_trove c (kept whole t)) so_far.now_is
      ∙ ap (λ (l : List TroveParts). record { commits = old.commits; troves = l }) (append_assoc old.troves (map (kept whole) so_far.done) (kept whole t ∷ [])
      ∙ ap (λ (l : List TroveParts). old.troves ++ l) (sym (map-append (kept whole) so_far.done (t ∷ []))));
  allowed = All-push IsAllowed so_far.done t so_far.allowed allowed;
  new_ids = new_push old.troves so_far.done t so_far.new_ids
      (not_found t.id (old.troves ++ map (kept whole) so_far.done) (old.troves ++ so_far.done) (same_behind whole old.troves so_far.done)
      (subst (λ (c : CatalogueParts). found t.id c.troves ≡ None) so_far.now_is fresh));
}

pub not_joined : (whole : Bool) (old : CatalogueParts) (troves : Commit) (now : CatalogueParts) (left : List TroveParts) (t : TroveParts) (rest : List TroveParts)
    → AreJoinedTo whole old troves now left → left ≡ t ∷ rest → (IsAllowed t × (found t.id now.troves ≡ None) → ⊥) → IsCommit old.troves troves → ⊥
not_joined whole old troves now left t rest so_far next never commit =
    let all = so_far.is ∙ ap (λ (l : List TroveParts). so_far.done ++ l) next in
    never (
      all_at IsAllowed so_far.done t rest (subst (All IsAllowed) all commit.allowed),
      subst (λ (c : CatalogueParts). found t.id c.troves ≡ None) (sym so_far.now_is)
          (not_found t.id (old.troves ++ so_far.done) (old.troves ++ map (kept whole) so_far.done)
          (back (old.troves ++ map (kept whole) so_far.done) (old.troves ++ so_far.done) (same_behind whole old.troves so_far.done))
          (new_at old.troves so_far.done t rest (subst (AreNew old.troves) all commit.new_ids))),
    )
