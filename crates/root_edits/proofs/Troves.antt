-- New troves keep the rules of troves.
use Rattle.std.proofs.Common.{◌≡◌, ◌≤◌, ⊎_elim, ◌⊎◌, inl, inr, Bool, true, false, cond, List, [], ◌∷◌, length, Contains, All, Some, None, true≢false, refl, sym, ap, subst, ◌∙◌, arith}
use Rattle.std.proofs.lemmas.List.Elements.{All-contains}
use Rattle.std.proofs.lemmas.Option.{none-some, same_Some}
use Rattle.update_job.specs.cny-base.Name.{kind_of_name}
use Rattle.update_job.specs.cny-base.declared.name.NameKind.{NameKind}
use Rattle.update_job.specs.cny-base.declared.name.NameKind.TheVariants.{Component, Package, Group}
use Rattle.update_job.specs.trove-parts.declared.id.TroveId.{TroveId}
use Rattle.update_job.specs.trove-parts.Id.{IsTroveId}
use Rattle.update_job.specs.trove-parts.declared.files.FileAt.{FileAt}
use Rattle.update_job.specs.trove-parts.Files.{AreFiles}
use Rattle.update_job.specs.trove-stream.declared.parts.TroveParts.{TroveParts}
use Rattle.update_job.specs.trove-stream.Trove.{IsTrove, KeepsKind, IsComponentOf, HasOtherName}
use Rattle.root_edits.specs.Moved.{keeps_others, is_moving, local_id, local_ref, local_version, AreLocalRefs}
use Rattle.root_edits.proofs.Members.{from_filter}
use Rattle.cny_version.proofs.cny-base.Lists.{all_from, contains_first, nothing_in}

-- what a reference becomes: its new id, or where the others are kept itself
ref_cases : (keeps moves : Bool) (r id : TroveId) → cond moves (Some (local_id r)) (cond keeps (Some r) None) ≡ Some id → (id ≡ local_id r) ⊎ ((keeps ≡ true) × (id ≡ r))
ref_cases keeps true r id is = inl (sym (same_Some (local_id r) id is))
ref_cases true false r id is = inr (refl, sym (same_Some r id is))
ref_cases false false r id is = absurd (none-some id is)

empty_of : {A : Type 0} (xs : List A) → ((x : A) → Contains xs x → ⊥) → xs ≡ []
empty_of [] none = refl
empty_of (x ∷ xs) none = absurd (none x (contains_first x xs))

module _ (troves : List TroveParts) (t : TroveParts) (refs : List TroveId) (are : AreLocalRefs troves t refs) where
  -- each of the new references is one of the old ones, moved or as it was
  ref_from : (kind : NameKind) → kind_of_name t.id.name ≡ kind → (id : TroveId) → Contains refs id → (r : TroveId) × Contains t.refs r × ((id ≡ local_id r) ⊎ ((keeps_others kind ≡ true) × (id ≡ r)))
  ref_from kind is id among =
      let told = from_filter (local_ref (keeps_others (kind_of_name t.id.name)) troves) t.refs id ((are.each id).0 among) in
      let how = ref_cases (keeps_others (kind_of_name t.id.name)) (is_moving troves told.0) told.0 id told.2 in
      (told.0, told.1, ⊎_elim (λ e. inl e) (λ k. inr (ap keeps_others (sym is) ∙ k.0, k.1)) how)

  moved_component : (r id : TroveId) → IsComponentOf t.id r → id ≡ local_id r → IsComponentOf (local_id t.id) id
  moved_component r id is e = subst (λ (i : TroveId). IsComponentOf (local_id t.id) i) (sym e) (record { name = is.name; version = ap local_version is.version; flavor = is.flavor })

  kept_kind : (files : List FileAt) → (t.files ≡ [] → files ≡ []) → (kind : NameKind) → kind_of_name t.id.name ≡ kind → KeepsKind kind t
      → KeepsKind kind (record { id = local_id t.id; files = files; refs = refs; requires_ = t.requires_; provides = t.provides })
  kept_kind files none Component is keeps =
      empty_of refs (λ id among. let from = ref_from Component is id among in nothing_in from.0 (subst (λ (l : List TroveId). Contains l from.0) keeps from.1))
  kept_kind files none Package is keeps = (
    record { files = none keeps.0.files; requires = keeps.0.requires; provides = keeps.0.provides },
    all_from (IsComponentOf (local_id t.id)) refs (λ id among.
        let from = ref_from Package is id among in
        ⊎_elim (λ e. moved_component from.0 id (All-contains (IsComponentOf t.id) t.refs from.0 keeps.1 from.1) e) (λ k. let never = k.0 in absurd (true≢false (sym never))) from.2),
  )
  kept_kind files none Group is keeps = (
    record { files = none keeps.0.files; requires = keeps.0.requires; provides = keeps.0.provides },
    all_from (HasOtherName (local_id t.id)) refs (λ id among.
        let from = ref_from Group is id among in
        let other = All-contains (HasOtherName t.id) t.refs from.0 keeps.1 from.1 in
        ⊎_elim (λ e. λ same. other (ap (λ (i : TroveId). i.name) (sym e) ∙ same)) (λ k. λ same. other (ap (λ (i : TroveId). i.name) (sym k.1) ∙ same)) from.2),
  )

  pub made_is_trove : (files : List FileAt) → IsTrove t → IsTroveId (local_id t.id) → AreFiles files → length files ≤ length t.files → (t.files ≡ [] → files ≡ []) → All IsTroveId refs → length refs ≤ length t.refs
      → IsTrove (record { id = local_id t.id; files = files; refs = refs; requires_ = t.requires_; provides = t.provides })
  made_is_trove files is valid are_files few none valid_refs few_refs = record {
    lists = record {
      id = valid;
      files = are_files;
      refs = record { valid = valid_refs; rising = are.rising };
      requires = is.lists.requires;
      provides = is.lists.provides;
    };
    rules = record {
      limits = record {
        files = (let most = is.rules.limits.files in omega (arith, most, few));
        refs = (let most = is.rules.limits.refs in omega (arith, most, few_refs));
        requires = is.rules.limits.requires;
        provides = is.rules.limits.provides;
      };
      build = is.rules.build;
      kind = kept_kind files none (kind_of_name t.id.name) refl is.rules.kind;
    };
  }
