-- Troves of which the id and all references are moved.
use Rattle.std.proofs.Common.{◌≡◌, ℕ, suc, ◌≤◌, true, List, [], ◌∷◌, length, get_or, map, is_some, Contains, All, Ordering, refl, sym, ap, subst, ◌∙◌}
use Rattle.std.specs.Cmp.Lexicographic.{slice_cmp, texts_ties}
use Rattle.std.specs.List.Sorted.{IsStrictlySortedBy}
use Rattle.std.specs.Ordering.{nat_cmp, ordering_then, is_eq}
use Rattle.std.specs.declared.cmp.Ordering.TheVariants.{Less}
use Rattle.std.proofs.lemmas.Cmp.{tied_itself}
use Rattle.std.proofs.lemmas.List.Elements.{All-map, All-from_recursion, recursion_from_All, Contains-get_or}
use Rattle.repo_index.specs.cny-base.Name.{kind_of_name}
use Rattle.repo_index.specs.cny-base.declared.name.NameKind.{NameKind}
use Rattle.repo_index.specs.cny-base.declared.name.NameKind.TheVariants.{Component, Package, Group}
use Rattle.repo_index.specs.cny-base.declared.limits.TheConstants.{REFS_LIMIT}
use Rattle.repo_index.specs.cny-dep.Canonical.{flavor_text}
use Rattle.cny_version.specs.declared.revision.Revision.{Revision}
use Rattle.cny_version.specs.Label.{LabelParts}
use Rattle.cny_version.specs.Version.{version_text}
use Rattle.repo_index.specs.trove-parts.declared.id.TroveId.{TroveId}
use Rattle.repo_index.specs.trove-parts.Id.{IsTroveId}
use Rattle.repo_index.specs.trove-parts.Order.{id_cmp, id_total}
use Rattle.repo_index.specs.trove-stream.declared.parts.TroveParts.{TroveParts}
use Rattle.repo_index.specs.trove-stream.Trove.{IsTrove, KeepsKind, IsComponentOf, HasOtherName}
use Rattle.repo_shadow.specs.declared.way.Way.{Way}
use Rattle.repo_shadow.specs.Moved.{moved_version, moved_id}
use Rattle.repo_shadow.specs.Steps.{wholly_moved}
use Rattle.repo_shadow.proofs.Versions.{moved_revision}
use Rattle.cny_version.proofs.cny-base.Lists.{contains_first, contains_rest}
use Rattle.trove_spec.proofs.InOrder.{first_decides}
use Rattle.cny_version.proofs.cny-base.Bools.{not_true}
use Rattle.cny_version.proofs.cny-base.ByteLists.{bytes_mean as equal_bytes}

-- ---- ids that strictly rise, no two of one name

names_less : (r s : TroveId) → id_cmp r s ≡ Less → (r.name ≡ s.name → r ≡ s) → slice_cmp nat_cmp r.name s.name ≡ Less
names_less r s less apart =
    first_decides (slice_cmp nat_cmp r.name s.name) (slice_cmp nat_cmp (version_text r.version) (version_text s.version)) (slice_cmp nat_cmp (flavor_text r.flavor) (flavor_text s.flavor)) less
    (not_true (is_eq (slice_cmp nat_cmp r.name s.name)) same)
  where
    same : is_eq (slice_cmp nat_cmp r.name s.name) ≡ true → ⊥
    same tied =
        let equal : r ≡ s = apart (equal_bytes r.name s.name (texts_ties r.name s.name ∙ tied)) in
        let itself : id_cmp r r ≡ Less = ap (λ (id : TroveId). id_cmp r id) equal ∙ less in
        absurd (cc (tied_itself id_total r, itself))

module _ (way : Way) (label : LabelParts) where
  moved_less : (r s : TroveId) → id_cmp r s ≡ Less → (r.name ≡ s.name → r ≡ s) → id_cmp (moved_id way label r) (moved_id way label s) ≡ Less
  moved_less r s less apart =
      ap (λ (o : Ordering). ordering_then
      (ordering_then o (slice_cmp nat_cmp (version_text (moved_version way label r.version)) (version_text (moved_version way label s.version))))
      (slice_cmp nat_cmp (flavor_text r.flavor) (flavor_text s.flavor)))
      (names_less r s less apart)

  moved_rising : (refs : List TroveId) → IsStrictlySortedBy id_cmp refs → ((r s : TroveId) → Contains refs r → Contains refs s → r.name ≡ s.name → r ≡ s)
      → IsStrictlySortedBy id_cmp (map (moved_id way label) refs)
  unfolding IsStrictlySortedBy
  moved_rising [] rising apart = tt
  moved_rising (r ∷ refs) rising apart = (
    recursion_from_All (λ y. id_cmp (moved_id way label r) y ≡ Less) (map (moved_id way label) refs)
        (All-map (λ y. id_cmp (moved_id way label r) y ≡ Less) (moved_id way label) refs
        (λ k d within. moved_less r (get_or refs k d) (All-from_recursion (λ y. id_cmp r y ≡ Less) refs rising.0 k d within)
        (apart r (get_or refs k d) (contains_first r refs) (contains_rest r (get_or refs k d) refs (Contains-get_or refs k d within))))),
    moved_rising refs rising.1 (λ p q at other. apart p q (contains_rest r p refs at) (contains_rest r q refs other)),
  )

  -- ---- the rules of troves

  moved_component : (whole id : TroveId) → IsComponentOf whole id → IsComponentOf (moved_id way label whole) (moved_id way label id)
  moved_component whole id is = record { name = is.name; version = ap (moved_version way label) is.version; flavor = is.flavor }

  moved_kind : (kind : NameKind) (t : TroveParts) → KeepsKind kind t → KeepsKind kind (wholly_moved way label t)
  moved_kind Component t none = ap (map (moved_id way label)) none
  moved_kind Package t keeps = (
    record { files = keeps.0.files; requires = keeps.0.requires; provides = keeps.0.provides },
    All-map (IsComponentOf (moved_id way label t.id)) (moved_id way label) t.refs (λ k d within. moved_component t.id (get_or t.refs k d) (keeps.1 k d within)),
  )
  moved_kind Group t keeps = (
    record { files = keeps.0.files; requires = keeps.0.requires; provides = keeps.0.provides },
    All-map (HasOtherName (moved_id way label t.id)) (moved_id way label) t.refs keeps.1,
  )

  same_length : (refs : List TroveId) → length (map (moved_id way label) refs) ≡ length refs
  same_length [] = refl
  same_length (r ∷ refs) = ap suc (same_length refs)

  pub moved_is_trove : (t : TroveParts) → IsTrove t → IsTroveId (moved_id way label t.id) → All IsTroveId (map (moved_id way label) t.refs)
      → ((r s : TroveId) → Contains t.refs r → Contains t.refs s → r.name ≡ s.name → r ≡ s) → IsTrove (wholly_moved way label t)
  moved_is_trove t is valid refs apart = record {
    lists = record {
      id = valid;
      files = is.lists.files;
      refs = record { valid = refs; rising = moved_rising t.refs is.lists.refs.rising apart };
      requires = is.lists.requires;
      provides = is.lists.provides;
    };
    rules = record {
      limits = record {
        files = is.rules.limits.files;
        refs = subst (λ (n : ℕ). n ≤ REFS_LIMIT) (sym (same_length t.refs)) is.rules.limits.refs;
        requires = is.rules.limits.requires;
        provides = is.rules.limits.provides;
      };
      build = ap (λ (r : Revision). is_some r.build) (moved_revision way label t.id.version) ∙ is.rules.build;
      kind = moved_kind (kind_of_name t.id.name) t is.rules.kind;
    };
  }
