-- A commit of a repository gives a repository.
use Rattle.std.proofs.Common.{◌≡◌, ◌≢◌, ◌⊎◌, inl, inr, ⊎_elim, ℕ, ◌+◌, ◌≤◌, Bool, true, false, cond, ◌||◌, List, [], ◌∷◌, ◌++◌, length, All, Option, Some, None, refl, sym, ◌∙◌, ap, subst, arith}
use Rattle.std.specs.Prelude.{nat_lt}
use Rattle.std.specs.List.{list_any}
use Rattle.std.specs.Option.{option_or}
use Rattle.std.proofs.lemmas.Bool.Decides.{nat_tests}
use Rattle.std.proofs.lemmas.List.Folds.{list_any-append}
use Rattle.repo_load.specs.cny-base.declared.limits.TheConstants.{COMMITS_LIMIT}
use Rattle.repo_load.specs.cny-base.declared.refusal.Refusal.TheVariants.{TooLarge}
use Rattle.repo_load.specs.cny-base.declared.refusal.What.TheVariants.{Commits}
use Rattle.sha1.specs.Sha1.{sha1}
use Rattle.repo_load.specs.trove-stream.declared.parts.TroveParts.{TroveParts}
use Rattle.repo_load.specs.trove-stream.Trove.{IsTrove}
use Rattle.change_set.specs.declared.change.Carried.{Carried}
use Rattle.change_set.specs.declared.change.ChangeSet.{ChangeSet}
use Rattle.change_set.specs.declared.change.Part.{Part}
use Rattle.change_set.specs.ChangeSet.{HasContents, IsContentOf, IsPart}
use Rattle.repo_load.specs.content-store.Contents.{ContentMap}
use Rattle.repo_index.specs.Catalogue.{CatalogueParts}
use Rattle.repo_load.specs.State.{catalogue_of, records_content, trove_records, troves_of, IsRepository, RepositoryState}
use Rattle.repo_load.proofs.Following.{troves_push}
use Rattle.repo_load.specs.Steps.{with_commit, MayFollow}
use Rattle.repo_load.proofs.HeldCatalogues.{rules_after}
use Rattle.repository.specs.Parts.{AreMade}
use Rattle.repository.specs.Steps.{after_commit, carried, or_carried, with_contents, IsCommitStep}
use Rattle.repository.specs.Tests.{collides, collision, is_carried, later_refusal, missing_content, missing_ref, refs_of, too_many, Passes}
use Rattle.repository.proofs.Lists.{then_none}
use Rattle.repository.proofs.Making.{made_troves_are, parts_record}
use Rattle.repository.proofs.References.{refs_found}
use Rattle.repository.proofs.Sources.{found_has, no_collision, same_content, sized_carried, troves_source}
use Rattle.change_rel.specs.trove-stream.FilesOf.{files_of}
use Rattle.tree_journal.proofs.tree-disk.ClearLaws.{or_cases as or_either}
use Rattle.change_rel.proofs.cny-base.Bools.{or_left as or_first, or_right as or_second}

-- ---- the tests that passed

pub record PassesAll (c : CatalogueParts) (held : ContentMap) (contents : List Carried) (troves : List TroveParts) : Type 0 where
  pub refs : missing_ref (c.troves ++ troves) (refs_of troves) ≡ None
  pub sources : missing_content c.troves contents (files_of troves) ≡ None
  pub no_collisions : collision held contents ≡ None
  pub few : too_many c.commits ≡ None

pub passed_all : (c : CatalogueParts) (held : ContentMap) (contents : List Carried) (troves : List TroveParts) → troves ≢ [] → later_refusal c held contents troves ≡ None → PassesAll c held contents troves
passed_all c held contents [] full none = absurd (full refl)
passed_all c held contents (t ∷ troves) full none =
    let all : List TroveParts = t ∷ troves in
    let rest = then_none (missing_ref (c.troves ++ all) (refs_of all)) (option_or (missing_content c.troves contents (files_of all)) (option_or (collision held contents) (too_many c.commits))) none in
    let more = then_none (missing_content c.troves contents (files_of all)) (option_or (collision held contents) (too_many c.commits)) rest.1 in
    let last = then_none (collision held contents) (too_many c.commits) more.1 in
    record { refs = rest.0; sources = more.0; no_collisions = last.0; few = last.1 }

below_limit : (n : ℕ) → nat_lt n COMMITS_LIMIT ≡ true → n + 1 ≤ COMMITS_LIMIT
below_limit n is = grind (arith, nat_tests)

pub has_room : (n : ℕ) → too_many n ≡ None → n + 1 ≤ COMMITS_LIMIT
has_room n none = by (nat_lt n COMMITS_LIMIT) refl none
  where
    by : (p : Bool) → nat_lt n COMMITS_LIMIT ≡ p → cond p None (Some (TooLarge Commits COMMITS_LIMIT)) ≡ None → n + 1 ≤ COMMITS_LIMIT
    by true is none = below_limit n is
    by false is none = absurd (cc none)

pub may_follow : (c : CatalogueParts) (parts : List Part) (troves : List TroveParts) → troves ≢ [] → All IsTrove troves → AreMade c.troves parts troves → missing_ref (c.troves ++ troves) (refs_of troves) ≡ None
    → c.commits + 1 ≤ COMMITS_LIMIT → MayFollow c troves
may_follow c parts troves full are made refs few = record {
  few = few;
  commit = record { full = full; troves_are = are; allowed = made.allowed; new_ids = made.new_ids };
  refs = refs_found (c.troves ++ troves) troves refs;
}

-- ---- contents

-- what is held and carried under one name is the same
module _ (r : RepositoryState) (is : IsRepository r) (contents : List Carried) (free : collision r.contents contents ≡ None) where
  agree : (name kept bytes : List ℕ) → r.contents name ≡ Some kept → carried contents name ≡ Some bytes → kept ≡ bytes
  agree name kept bytes held has =
      let c = found_has (λ (content : Carried). collides (r.contents content.name) content ≡ None) name bytes contents (no_collision r.contents contents free) has in
      same_content (r.contents c.0.name) kept c.0 (ap r.contents c.2 ∙ held) c.1 ∙ c.3

  with_held : (name kept : List ℕ) → r.contents name ≡ Some kept → with_contents r.contents contents name ≡ Some kept
  with_held name kept held = ap (λ (o : Option (List ℕ)). or_carried o (carried contents name)) held

  pub held_there : (name : List ℕ) (size : ℕ) → records_content name size (troves_of r.commits) ≡ true → (bytes : List ℕ) × (with_contents r.contents contents name ≡ Some bytes) × (length bytes ≡ size)
  held_there name size h = let there = is.there name size h in (there.0, with_held name there.0 there.1, there.2)

  pub carried_there : (name : List ℕ) (bytes : List ℕ) → carried contents name ≡ Some bytes → with_contents r.contents contents name ≡ Some bytes
  carried_there name bytes has = by (r.contents name) refl
    where
      by : (o : Option (List ℕ)) → r.contents name ≡ o → or_carried (r.contents name) (carried contents name) ≡ Some bytes
      by None none = ap (λ (o : Option (List ℕ)). or_carried o (carried contents name)) none ∙ has
      by (Some kept) held = with_held name kept held ∙ ap Some (agree name kept bytes held has)

-- ---- the state

module _ (r : RepositoryState) (is : IsRepository r) (change : ChangeSet) (has : HasContents change) (troves : List TroveParts) (full : troves ≢ [])
    (are : All IsTrove troves) (passes : Passes (catalogue_of r.commits) r.contents change troves) where
  pub tests : PassesAll (catalogue_of r.commits) r.contents change.contents troves
  tests = passed_all (catalogue_of r.commits) r.contents change.contents troves full passes.passed

  pub follows : MayFollow (catalogue_of r.commits) troves
  follows = may_follow (catalogue_of r.commits) change.parts troves full are passes.made tests.refs (has_room (length r.commits) tests.few)

  abbrev pub after : RepositoryState
  after = with_commit troves (with_contents r.contents change.contents) r

  pub all_troves : troves_of after.commits ≡ troves_of r.commits ++ troves
  all_troves = troves_push r.commits troves

  pub recorded : (name : List ℕ) (size : ℕ) → records_content name size (troves_of after.commits) ≡ (records_content name size (troves_of r.commits) || records_content name size troves)
  recorded name size = ap (records_content name size) all_troves ∙ list_any-append (trove_records name size) (troves_of r.commits) troves

  pub there : (name : List ℕ) (size : ℕ) → records_content name size (troves_of after.commits) ≡ true → (bytes : List ℕ) × (after.contents name ≡ Some bytes) × (length bytes ≡ size)
  there name size h = ⊎_elim
      (λ old. held_there r is change.contents tests.no_collisions name size old)
      (λ new. ⊎_elim
      (λ carries. let c = sized_carried name size change.contents has.rising carries in (c.0, carried_there r is change.contents tests.no_collisions name c.0 c.1, c.2))
      (λ old. held_there r is change.contents tests.no_collisions name size old)
      (or_either (list_any (is_carried name size) change.contents) (records_content name size (troves_of r.commits)) (troves_source (troves_of r.commits) change.contents name size troves tests.sources new)))
      (or_either (records_content name size (troves_of r.commits)) (records_content name size troves) (sym (recorded name size) ∙ h))

  pub named_held : (name bytes : List ℕ) → r.contents name ≡ Some bytes → (sha1 bytes ≡ name) × (records_content name (length bytes) (troves_of after.commits) ≡ true)
  named_held name bytes held =
      let old = is.named name bytes held in
      (old.0, recorded name (length bytes) ∙ or_first (records_content name (length bytes) (troves_of r.commits)) (records_content name (length bytes) troves) old.1)

  pub named_carried : (name bytes : List ℕ) → carried change.contents name ≡ Some bytes → (sha1 bytes ≡ name) × (records_content name (length bytes) (troves_of after.commits) ≡ true)
  named_carried name bytes carries =
      let c = found_has (IsContentOf change.parts) name bytes change.contents has.contents carries in
      let new = parts_record (troves_of r.commits) change.parts troves c.0.name (length c.0.bytes) passes.made.make c.1.recorded in
      let same : records_content name (length bytes) troves ≡ true = (λ i. records_content (sym c.2 i) (length (sym c.3 i)) troves) ∙ new in
      (ap sha1 (sym c.3) ∙ sym c.1.hash ∙ c.2, recorded name (length bytes) ∙ or_second (records_content name (length bytes) (troves_of r.commits)) (records_content name (length bytes) troves) same)

  pub named : (name bytes : List ℕ) → after.contents name ≡ Some bytes → (sha1 bytes ≡ name) × (records_content name (length bytes) (troves_of after.commits) ≡ true)
  named name bytes h = by (r.contents name) refl h
    where
      by : (o : Option (List ℕ)) → r.contents name ≡ o → or_carried o (carried change.contents name) ≡ Some bytes → (sha1 bytes ≡ name) × (records_content name (length bytes) (troves_of after.commits) ≡ true)
      by None none h = named_carried name bytes h
      by (Some kept) held h = named_held name bytes (held ∙ h)

  pub is_after : IsRepository after
  is_after = record { commits_are = rules_after r.commits troves is.commits_are follows; there = there; named = named }

nothing_or_some : (troves : List TroveParts) → (troves ≡ []) ⊎ (troves ≢ [])
nothing_or_some [] = inl refl
nothing_or_some (t ∷ troves) = inr (λ e. absurd (cc e))

pub after_full : (troves : List TroveParts) (contents : List Carried) (r : RepositoryState) → troves ≢ [] → after_commit troves contents r ≡ with_commit troves (with_contents r.contents contents) r
after_full [] contents r full = absurd (full refl)
after_full (t ∷ troves) contents r full = refl

pub step_repository : (r new : RepositoryState) (change : ChangeSet) → IsRepository r → HasContents change → All IsPart change.parts → IsCommitStep r change new → IsRepository new
step_repository r new change is has parts step = ⊎_elim
    (λ none. subst IsRepository (sym (step.is ∙ ap (λ (l : List TroveParts). after_commit l change.contents r) none)) is)
    (λ full. subst IsRepository (sym (step.is ∙ after_full step.troves change.contents r full))
    (is_after r is change has step.troves full (made_troves_are (troves_of r.commits) change.parts step.troves parts step.passes.made.make) step.passes))
    (nothing_or_some step.troves)
