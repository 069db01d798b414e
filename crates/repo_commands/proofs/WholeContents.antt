-- The tests of a commit on contents that are so under each name whose content stands whole: what is damaged, and isn't asked for, doesn't
-- count.
use Rattle.std.proofs.Common.{◌≡◌, ◌⊎◌, ⊎_elim, inl, inr, ℕ, Bool, true, false, cond, List, [], ◌∷◌, ◌++◌, Option, Some, None, refl, sym, ap, ◌∙◌, subst}
use Rattle.std.proofs.lemmas.Bool.{cases_Bool}
use Rattle.std.proofs.lemmas.List.Elements.{All-head, All-tail}
use Rattle.std.specs.Option.{option_or}
use Rattle.cli_call.specs.cny-base.declared.refusal.Refusal.{Refusal}
use Rattle.cli_call.specs.cny-base.declared.stop.Stop.{Stop}
use Rattle.cli_call.specs.cny-base.declared.stop.Stop.TheVariants.{Damaged, Refused}
use Rattle.cli_call.specs.change-set.declared.change.Carried.{Carried}
use Rattle.cli_call.specs.change-set.declared.change.ChangeSet.{ChangeSet}
use Rattle.cli_call.specs.content-store.Contents.{ContentMap}
use Rattle.cli_call.specs.content-store.Store.{content_path, stored}
use Rattle.cli_call.specs.tree-disk.Tree.{Name, Tree}
use Rattle.cli_call.specs.trove-stream.declared.parts.TroveParts.{TroveParts}
use Rattle.repo_index.specs.Catalogue.{CatalogueParts, has_content}
use Rattle.repo_load.specs.Contents.{FindsContent, IsDamagedContent, IsRecorded}
use Rattle.repo_load.specs.Files.{contents_dir}
use Rattle.repository.specs.Order.{kept_stop, later_stop, refusing, source_stop, sources_stop, IsFirstStop}
use Rattle.repository.specs.Outcome.{committed_contents, if_recorded, is_recorded, AreSound}
use Rattle.repository.specs.Steps.{ids_of}
use Rattle.repository.specs.Tests.{collides, collision, files_of, later_refusal, missing_content, missing_ref, refs_of, too_many, IsRefused, Passes}
use Rattle.repository.proofs.Held.{kept_at, recorded_means}

-- ---- tests, one after another

refusing_is : (o : Option Refusal) (r : Refusal) → refusing o ≡ Some (Refused r) → o ≡ Some r
refusing_is None r is = absurd (cc is)
refusing_is (Some w) r is = let same : w ≡ r = cc is in ap Some same

or_refused : (o : Option Refusal) (rest : Option Stop) (then : Option Refusal) (r : Refusal) → (rest ≡ Some (Refused r) → then ≡ Some r) → option_or (refusing o) rest ≡ Some (Refused r) → option_or o then ≡ Some r
or_refused None rest then r more is = more is
or_refused (Some w) rest then r more is = let same : w ≡ r = cc is in ap Some same

both_refused : (o : Option Refusal) (rest : Option Stop) (then last : Option Refusal) (r : Refusal) → (option_or rest (refusing last) ≡ Some (Refused r) → option_or then last ≡ Some r)
    → option_or (option_or (refusing o) rest) (refusing last) ≡ Some (Refused r) → option_or (option_or o then) last ≡ Some r
both_refused None rest then last r more is = more is
both_refused (Some w) rest then last r more is = let same : w ≡ r = cc is in ap Some same

-- no ids are those of no troves
pub no_ids : (troves : List TroveParts) → ids_of troves ≡ [] → troves ≡ []
no_ids [] is = refl
no_ids (t ∷ troves) is = absurd (cc is)

module _ (c : CatalogueParts) (x : Tree) (held : ContentMap) (whole : (name : List ℕ) (found : Option (List ℕ)) → FindsContent c.troves name x found → found ≡ held name) where
  abbrev there : ContentMap
  there = committed_contents c.troves x

  -- ---- one content

  there_some : (name kept : List ℕ) → there name ≡ Some kept → held name ≡ Some kept
  there_some name kept is = by (stored x contents_dir name) refl is
    where
      by : (o : Option (List ℕ)) → stored x contents_dir name ≡ o → if_recorded c.troves name o ≡ Some kept → held name ≡ Some kept
      by None at is = absurd (cc is)
      by (Some bytes) at is = ⊎_elim
          (λ recorded.
          let both : Some bytes ≡ Some kept = sym (ap (λ (p : Bool). cond p (Some bytes) None) recorded) ∙ is in
          let same : bytes ≡ kept = cc both in
          sym (whole name (Some kept) (at ∙ both, subst (IsRecorded c.troves name) same (recorded_means c.troves name bytes recorded))))
          (λ lacks. let none : None ≡ Some kept = sym (ap (λ (p : Bool). cond p (Some bytes) None) lacks) ∙ is in absurd (cc none))
          (cases_Bool (is_recorded c.troves name bytes))

  there_none : (name : List ℕ) → has_content name c.troves ≡ false → held name ≡ None
  there_none name lacks = sym (whole name None lacks)

  -- one whose file isn't damaged
  sound : (k : Carried) → ((path : Name) → IsDamagedContent c.troves k.name x path → ⊥) → there k.name ≡ held k.name
  sound k free = by (there k.name) refl
    where
      by : (o : Option (List ℕ)) → there k.name ≡ o → there k.name ≡ held k.name
      by (Some kept) is = is ∙ sym (there_some k.name kept is)
      by None is = ⊎_elim
          (λ has. absurd (free (content_path contents_dir k.name) (record { here = refl; recorded = has; none = λ bytes at recorded. absurd (cc (kept_at c.troves x k.name bytes (at, recorded), is)) })))
          (λ lacks. is ∙ sym (there_none k.name lacks))
          (cases_Bool (has_content k.name c.troves))

  -- ---- the tests pass

  collision_same : (contents : List Carried) → AreSound contents c.troves x → collision there contents ≡ collision held contents
  collision_same [] free = refl
  collision_same (k ∷ ks) free =
      let first = sound k (All-head (λ (one : Carried). (path : Name) → IsDamagedContent c.troves one.name x path → ⊥) k ks free) in
      let rest = collision_same ks (All-tail (λ (one : Carried). (path : Name) → IsDamagedContent c.troves one.name x path → ⊥) k ks free) in
      λ i. option_or (collides (first i) k) (rest i)

  later_same : (contents : List Carried) (troves : List TroveParts) → ((troves ≡ [] → ⊥) → AreSound contents c.troves x) → later_refusal c there contents troves ≡ later_refusal c held contents troves
  later_same contents [] free = refl
  later_same contents (t ∷ troves) free =
      let same = collision_same contents (free (λ none. absurd (cc none))) in
      ap (λ (o : Option Refusal). option_or (missing_ref (c.troves ++ t ∷ troves) (refs_of (t ∷ troves))) (option_or (missing_content c.troves contents (files_of (t ∷ troves))) (option_or o (too_many c.commits)))) same

  pub passes_whole : (set : ChangeSet) (troves : List TroveParts) → ((troves ≡ [] → ⊥) → AreSound set.contents c.troves x) → Passes c there set troves → Passes c held set troves
  passes_whole set troves free p = record { made = p.made; passed = sym (later_same set.contents troves free) ∙ p.passed }

  -- ---- one fails

  module _ (k : Carried) where
    named : has_content k.name c.troves ≡ true → (o : Option (List ℕ)) → there k.name ≡ o → source_stop c.troves x k ≡ kept_stop o k
    named has o is = ap (λ (p : Bool). cond p (kept_stop (there k.name) k) None) has ∙ ap (λ (kept : Option (List ℕ)). kept_stop kept k) is

    unnamed : has_content k.name c.troves ≡ false → source_stop c.troves x k ≡ None
    unnamed lacks = ap (λ (p : Bool). cond p (kept_stop (there k.name) k) None) lacks

    -- it stops as the contents do; or its file is damaged
    source_at : (source_stop c.troves x k ≡ refusing (collides (held k.name) k)) ⊎ (source_stop c.troves x k ≡ Some (Damaged (content_path contents_dir k.name)))
    source_at = ⊎_elim
        (λ has. by has (there k.name) refl)
        (λ lacks. inl (unnamed lacks ∙ sym (ap (λ (o : Option (List ℕ)). refusing (collides o k)) (there_none k.name lacks))))
        (cases_Bool (has_content k.name c.troves))
      where
        by : has_content k.name c.troves ≡ true → (o : Option (List ℕ)) → there k.name ≡ o → (source_stop c.troves x k ≡ refusing (collides (held k.name) k)) ⊎ (source_stop c.troves x k ≡ Some (Damaged (content_path contents_dir k.name)))
        by has (Some kept) is = inl (named has (Some kept) is ∙ sym (ap (λ (o : Option (List ℕ)). refusing (collides o k)) (there_some k.name kept is)))
        by has None is = inr (named has None is)

  sources_refused : (contents : List Carried) (last : Option Refusal) (r : Refusal) → option_or (sources_stop c.troves x contents) (refusing last) ≡ Some (Refused r) → option_or (collision held contents) last ≡ Some r
  sources_refused [] last r is = refusing_is last r is
  sources_refused (k ∷ ks) last r is = ⊎_elim
      (λ same. both_refused (collides (held k.name) k) (sources_stop c.troves x ks) (collision held ks) last r (sources_refused ks last r)
      (sym (ap (λ (o : Option Stop). option_or (option_or o (sources_stop c.troves x ks)) (refusing last)) same) ∙ is))
      (λ damaged.
      let no' : Some (Damaged (content_path contents_dir k.name)) ≡ Some (Refused r) = sym (ap (λ (o : Option Stop). option_or (option_or o (sources_stop c.troves x ks)) (refusing last)) damaged) ∙ is in absurd (cc no'))
      (source_at k)

  later_refused : (contents : List Carried) (troves : List TroveParts) (r : Refusal) → later_stop c x contents troves ≡ Some (Refused r) → later_refusal c held contents troves ≡ Some r
  later_refused contents [] r is = absurd (cc is)
  later_refused contents (t ∷ troves) r is =
      or_refused (missing_ref (c.troves ++ t ∷ troves) (refs_of (t ∷ troves))) _ _ r
      (or_refused (missing_content c.troves contents (files_of (t ∷ troves))) _ _ r
      (sources_refused contents (too_many c.commits) r))
      is

  pub refused_whole : (set : ChangeSet) (r : Refusal) → IsFirstStop c x set (Refused r) → IsRefused c held set r
  refused_whole set r (inl first) = inl first
  refused_whole set r (inr later) = inr (record { troves = later.troves; made = later.made; fails = later_refused set.contents later.troves r later.fails })
