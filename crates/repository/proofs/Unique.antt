-- A change set makes one state of another at most, or is refused for one reason.
use Rattle.std.proofs.Common.{◌≡◌, inl, inr, List, [], ◌∷◌, ◌++◌, All, Option, Some, None, refl, sym, ◌∙◌, ap, subst, append-nil, append_assoc}
use Rattle.std.specs.Prelude.{IsSome}
use Rattle.std.proofs.lemmas.List.Elements.{All-head, All-tail}
use Rattle.repo_load.specs.cny-base.declared.refusal.Refusal.{Refusal}
use Rattle.repo_load.specs.trove-stream.declared.parts.TroveParts.{TroveParts}
use Rattle.change_set.specs.declared.change.ChangeSet.{ChangeSet}
use Rattle.change_set.specs.declared.change.Part.{Part}
use Rattle.repo_load.specs.content-store.Contents.{ContentMap}
use Rattle.change_set.specs.Makes.{MakesTrove}
use Rattle.change_set.proofs.Making as making
use Rattle.change_set.proofs.Making.{lacks_none, lacks_once, makes_once}
use Rattle.repo_index.specs.Catalogue.{found, CatalogueParts}
use Rattle.repo_load.specs.State.{catalogue_of, AreNew, RepositoryState}
use Rattle.repository.specs.Parts.{AreMade, base_among, IsFirstRefused, IsPartRefused, IsTroveRefused, MakeTroves, exists_already, path_reserved}
use Rattle.repository.specs.Steps.{after_commit, IsCommitStep}
use Rattle.repository.specs.Tests.{later_refusal, IsLaterRefused, IsRefused, Passes}
use Rattle.change_rel.proofs.Unique.{LeadsToOne}
use Rattle.change_rel.specs.trove-stream.Forbidden.{IsAllowed}
use Rattle.change_rel.proofs.cny-base.OptionValues.{same_some as some_one}

-- ---- what parts make

module _ (one : LeadsToOne) (committed : List TroveParts) where
  pub make_once : (parts : List Part) (a b : List TroveParts) → MakeTroves committed parts a → MakeTroves committed parts b → a ≡ b
  make_once parts a b x y = making.make_once one (base_among committed) parts a b x y

  made_once : (parts : List Part) (a b : List TroveParts) → AreMade committed parts a → AreMade committed parts b → a ≡ b
  made_once parts a b x y = make_once parts a b x.make y.make

  -- ---- no part is refused where all are made

  fresh_allowed : (before : List TroveParts) (t : TroveParts) (refusal : Refusal) → found t.id before ≡ None → IsAllowed t → IsTroveRefused before t refusal → ⊥
  fresh_allowed before t refusal fresh allowed (exists_already there is) = by (found t.id before) fresh there
    where
      by : (o : Option TroveParts) → o ≡ None → IsSome o → ⊥
      by None none some = absurd (cc some)
      by (Some u) none some = absurd (cc none)
  fresh_allowed before t refusal fresh allowed (path_reserved path free is why) = absurd (cc (allowed, is))

  made_not_refused : (before : List TroveParts) (part : Part) (t : TroveParts) (refusal : Refusal) → MakesTrove (base_among committed) part t → found t.id before ≡ None → IsAllowed t → IsPartRefused committed before part refusal → ⊥
  made_not_refused before part t refusal makes fresh allowed (inl lacks) = lacks_none (base_among committed) part t refusal makes lacks
  made_not_refused before part t refusal makes fresh allowed (inr r) =
      fresh_allowed before t refusal fresh allowed (subst (λ (u : TroveParts). IsTroveRefused before u refusal) (makes_once one (base_among committed) part r.trove t r.makes makes) r.refused)

  -- `done` stands for the troves of the parts before
  none_behind : (done : List TroveParts) (front : List Part) (part : Part) (behind : List Part) (troves all : List TroveParts) (refusal : Refusal)
      → MakeTroves committed front troves → MakeTroves committed (front ++ part ∷ behind) all → AreNew (committed ++ done) all → All IsAllowed all
      → IsPartRefused committed (committed ++ (done ++ troves)) part refusal → ⊥
  none_behind done [] part behind [] [] refusal front made new allowed refused = absurd made
  none_behind done [] part behind [] (t ∷ all) refusal front made new allowed refused =
      made_not_refused (committed ++ done) part t refusal made.0 new.0 (All-head IsAllowed t all allowed)
      (subst (λ (l : List TroveParts). IsPartRefused committed l part refusal) (ap (λ (l : List TroveParts). committed ++ l) (append-nil done)) refused)
  none_behind done [] part behind (u ∷ troves) all refusal front made new allowed refused = absurd front
  none_behind done (p ∷ front) part behind [] all refusal made_front made new allowed refused = absurd made_front
  none_behind done (p ∷ front) part behind (u ∷ troves) [] refusal made_front made new allowed refused = absurd made
  none_behind done (p ∷ front) part behind (u ∷ troves) (t ∷ all) refusal made_front made new allowed refused =
      let same : u ≡ t = makes_once one (base_among committed) p u t made_front.0 made.0 in
      none_behind (done ++ t ∷ []) front part behind troves all refusal made_front.1 made.1
      (subst (λ (l : List TroveParts). AreNew l all) (append_assoc committed done (t ∷ [])) new.1) (All-tail IsAllowed t all allowed)
      (subst (λ (l : List TroveParts). IsPartRefused committed (committed ++ l) part refusal)
      (ap (λ (v : TroveParts). done ++ v ∷ troves) same ∙ sym (append_assoc done (t ∷ []) troves)) refused)

  pub made_apart : (parts : List Part) (troves : List TroveParts) (refusal : Refusal) → AreMade committed parts troves → IsFirstRefused committed parts refusal → ⊥
  made_apart parts troves refusal made first =
      let is = first.is in
      let whole : AreMade committed (first.front ++ first.part ∷ first.behind) troves = subst (λ (l : List Part). AreMade committed l troves) is made in
      none_behind [] first.front first.part first.behind first.troves troves refusal first.made.make whole.make
      (subst (λ (l : List TroveParts). AreNew l troves) (sym (append-nil committed)) whole.new_ids) whole.allowed first.refused

  -- ---- one refusal

  free_or_there : (o : Option TroveParts) → o ≡ None → IsSome o → ⊥
  free_or_there None none some = absurd (cc some)
  free_or_there (Some u) none some = absurd (cc none)

  trove_once : (before : List TroveParts) (t : TroveParts) (a b : Refusal) → IsTroveRefused before t a → IsTroveRefused before t b → a ≡ b
  trove_once before t a b (exists_already there is) (exists_already again also) = is ∙ sym also
  trove_once before t a b (exists_already there is) (path_reserved path free first also) = absurd (free_or_there (found t.id before) free there)
  trove_once before t a b (path_reserved path free first is) (exists_already there also) = absurd (free_or_there (found t.id before) free there)
  trove_once before t a b (path_reserved path free first is) (path_reserved other again second also) =
      let same : path ≡ other = some_one path other (sym first ∙ second) in
      is ∙ cc same ∙ sym also

  part_once : (before : List TroveParts) (part : Part) (a b : Refusal) → IsPartRefused committed before part a → IsPartRefused committed before part b → a ≡ b
  part_once before part a b (inl x) (inl y) = lacks_once (base_among committed) part a b x y
  part_once before part a b (inl x) (inr y) = absurd (lacks_none (base_among committed) part y.trove a y.makes x)
  part_once before part a b (inr x) (inl y) = absurd (lacks_none (base_among committed) part x.trove b x.makes y)
  part_once before part a b (inr x) (inr y) =
      trove_once before y.trove a b (subst (λ (t : TroveParts). IsTroveRefused before t a) (makes_once one (base_among committed) part x.trove y.trove x.makes y.makes) x.refused) y.refused

  -- ---- the first part that is refused

  -- the same place, or one before the other
  data Places (front other : List Part) (part also : Part) : Type 0 where
    here : front ≡ other → part ≡ also → Places front other part also
    before : (more : List Part) → other ≡ front ++ part ∷ more → Places front other part also
    behind : (more : List Part) → front ≡ other ++ also ∷ more → Places front other part also

  places : (front other : List Part) (part also : Part) (rest more : List Part) → front ++ part ∷ rest ≡ other ++ also ∷ more → Places front other part also
  places [] [] part also rest more same = here refl (cc same)
  places [] (q ∷ other) part also rest more same = before other (let first : part ≡ q = cc same in ap (λ (v : Part). v ∷ other) (sym first))
  places (p ∷ front) [] part also rest more same = behind front (let first : p ≡ also = cc same in ap (λ (v : Part). v ∷ front) first)
  places (p ∷ front) (q ∷ other) part also rest more same = by (places front other part also rest more (cc same))
    where
      first : p ≡ q
      first = cc same

      by : Places front other part also → Places (p ∷ front) (q ∷ other) part also
      by (here fronts parts) = here (ap (λ (v : Part). v ∷ front) first ∙ ap (λ (l : List Part). q ∷ l) fronts) parts
      by (before more is) = before more (ap (λ (v : Part). v ∷ other) (sym first) ∙ ap (λ (l : List Part). p ∷ l) is)
      by (behind more is) = behind more (ap (λ (v : Part). v ∷ front) first ∙ ap (λ (l : List Part). q ∷ l) is)

  -- the parts before a refused one are made, so none of them is refused
  never_before : (parts : List Part) (a b : Refusal) (x : IsFirstRefused committed parts a) (y : IsFirstRefused committed parts b) (more : List Part) → y.front ≡ x.front ++ x.part ∷ more → ⊥
  never_before parts a b x y more is =
      made_apart y.front y.troves a y.made (record { front = x.front; troves = x.troves; part = x.part; behind = more; is = is; made = x.made; refused = x.refused })

  first_once : (parts : List Part) (a b : Refusal) → IsFirstRefused committed parts a → IsFirstRefused committed parts b → a ≡ b
  first_once parts a b x y = by (places x.front y.front x.part y.part x.behind y.behind (sym x.is ∙ y.is))
    where
      by : Places x.front y.front x.part y.part → a ≡ b
      by (before more is) = absurd (never_before parts a b x y more is)
      by (behind more is) = absurd (never_before parts b a y x more is)
      by (here fronts same) =
          let troves : x.troves ≡ y.troves = made_once y.front x.troves y.troves (subst (λ (l : List Part). AreMade committed l x.troves) fronts x.made) y.made in
          let moved : IsPartRefused committed (committed ++ y.troves) x.part a = subst (λ (l : List TroveParts). IsPartRefused committed (committed ++ l) x.part a) troves x.refused in
          part_once (committed ++ y.troves) y.part a b (subst (λ (p : Part). IsPartRefused committed (committed ++ y.troves) p a) same moved) y.refused

-- ---- all tests

module _ (one : LeadsToOne) (c : CatalogueParts) (held : ContentMap) (change : ChangeSet) where
  later_once : (a b : Refusal) → IsLaterRefused c held change a → IsLaterRefused c held change b → a ≡ b
  later_once a b x y =
      let same : x.troves ≡ y.troves = made_once one c.troves change.parts x.troves y.troves x.made y.made in
      some_one a b (sym x.fails ∙ ap (later_refusal c held change.contents) same ∙ y.fails)

  refused_once : (a b : Refusal) → IsRefused c held change a → IsRefused c held change b → a ≡ b
  refused_once a b (inl x) (inl y) = first_once one c.troves change.parts a b x y
  refused_once a b (inl x) (inr y) = absurd (made_apart one c.troves change.parts y.troves a y.made x)
  refused_once a b (inr x) (inl y) = absurd (made_apart one c.troves change.parts x.troves b x.made y)
  refused_once a b (inr x) (inr y) = later_once a b x y

  passes_apart : (troves : List TroveParts) (refusal : Refusal) → Passes c held change troves → IsRefused c held change refusal → ⊥
  passes_apart troves refusal passes (inl x) = made_apart one c.troves change.parts troves refusal passes.made x
  passes_apart troves refusal passes (inr x) =
      let same : troves ≡ x.troves = made_once one c.troves change.parts troves x.troves passes.made x.made in
      absurd (cc (sym passes.passed ∙ ap (later_refusal c held change.contents) same ∙ x.fails))

pub one_step : LeadsToOne → (r : RepositoryState) (change : ChangeSet) (a b : RepositoryState) → IsCommitStep r change a → IsCommitStep r change b → a ≡ b
one_step one r change a b x y =
    let c = catalogue_of r.commits in
    let same : x.troves ≡ y.troves = made_once one c.troves change.parts x.troves y.troves x.passes.made y.passes.made in
    x.is ∙ ap (λ (l : List TroveParts). after_commit l change.contents r) same ∙ sym y.is

pub one_refusal : LeadsToOne → (r : RepositoryState) (change : ChangeSet) (a b : Refusal) → IsRefused (catalogue_of r.commits) r.contents change a → IsRefused (catalogue_of r.commits) r.contents change b → a ≡ b
one_refusal one r change a b x y = refused_once one (catalogue_of r.commits) r.contents change a b x y

pub step_apart : LeadsToOne → (r : RepositoryState) (change : ChangeSet) (new : RepositoryState) (refusal : Refusal) → IsCommitStep r change new → IsRefused (catalogue_of r.commits) r.contents change refusal → ⊥
step_apart one r change new refusal step refused = passes_apart one (catalogue_of r.commits) r.contents change step.troves refusal step.passes refused
