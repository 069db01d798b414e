-- A trove with another version keeps the rules of troves.
use Rattle.std.proofs.Common.{◌≡◌, ℕ, suc, ◌≤◌, if◌then◌else◌, List, [], ◌∷◌, length, get_or, map, is_some, All, Option, Some, None, Ordering, refl, sym, ap, subst, ◌∙◌, arith}
use Rattle.std.specs.Cmp.Lexicographic.{slice_cmp, nat_list_cmp_total}
use Rattle.std.specs.List.Sorted.{IsStrictlySortedBy}
use Rattle.std.specs.Ordering.{nat_cmp, ordering_then}
use Rattle.std.specs.declared.cmp.Ordering.TheVariants.{Less, Equal}
use Rattle.std.proofs.lemmas.Cmp.{tied_itself}
use Rattle.std.proofs.lemmas.List.Elements.{All-map, All-from_recursion, recursion_from_All}
use Rattle.trove_stream.specs.cny-base.Name.{kind_of_name}
use Rattle.trove_stream.specs.cny-base.declared.name.NameKind.{NameKind}
use Rattle.trove_stream.specs.cny-base.declared.name.NameKind.TheVariants.{Component, Package, Group}
use Rattle.trove_stream.specs.cny-base.declared.limits.TheConstants.{REFS_LIMIT}
use Rattle.trove_stream.specs.cny-dep.Canonical.{flavor_text}
use Rattle.cny_version.specs.declared.revision.Revision.{Revision}
use Rattle.cny_version.specs.Made.{next_count}
use Rattle.cny_version.specs.Next.{latest_count, with_count}
use Rattle.cny_version.specs.Version.{depth, version_text, WholeVersion}
use Rattle.trove_stream.specs.trove-parts.declared.id.TroveId.{TroveId}
use Rattle.trove_stream.specs.trove-parts.Id.{IsTroveId}
use Rattle.trove_stream.specs.trove-parts.Order.{id_cmp}
use Rattle.trove_stream.specs.declared.parts.TroveParts.{TroveParts}
use Rattle.trove_stream.specs.Trove.{has_build, IsTrove, KeepsKind, IsComponentOf}
use Rattle.repo_index.specs.Next.{id_with, is_package, latest_revision, next_version, refs_with, trove_with}

-- ---- ids of one version

abbrev text_cmp : List ℕ → List ℕ → Ordering
text_cmp a b = slice_cmp nat_cmp a b

module _ (v : WholeVersion) where
  -- where the versions are one, the order of the ids doesn't depend on it
  same_cmp : (r s : TroveId) → s.version ≡ r.version → id_cmp (id_with v r) (id_with v s) ≡ id_cmp r s
  same_cmp r s one =
      let new : text_cmp (version_text v) (version_text v) ≡ Equal = tied_itself nat_list_cmp_total (version_text v) in
      let itself : text_cmp (version_text r.version) (version_text r.version) ≡ Equal = tied_itself nat_list_cmp_total (version_text r.version) in
      let old : text_cmp (version_text r.version) (version_text s.version) ≡ Equal = ap (λ (w : WholeVersion). text_cmp (version_text r.version) (version_text w)) one ∙ itself in
      ap (λ (o : Ordering). ordering_then (ordering_then (text_cmp r.name s.name) o) (text_cmp (flavor_text r.flavor) (flavor_text s.flavor))) (new ∙ sym old)

  module _ (w : WholeVersion) where
    abbrev HasVersion : TroveId → Type 0
    HasVersion r = r.version ≡ w

    renewed_rising : (refs : List TroveId) → All HasVersion refs → IsStrictlySortedBy id_cmp refs → IsStrictlySortedBy id_cmp (map (id_with v) refs)
    unfolding IsStrictlySortedBy
    renewed_rising [] one rising = tt
    renewed_rising (r ∷ refs) one rising =
        let first : r.version ≡ w = one 0 r (omega arith) in
        let rest : All HasVersion refs = (λ k d within. one (suc k) d (omega (arith, within))) in (
          recursion_from_All (λ y. id_cmp (id_with v r) y ≡ Less) (map (id_with v) refs)
              (All-map (λ y. id_cmp (id_with v r) y ≡ Less) (id_with v) refs
              (λ k d within. same_cmp r (get_or refs k d) (rest k d within ∙ sym first) ∙ All-from_recursion (λ y. id_cmp r y ≡ Less) refs rising.0 k d within)),
          renewed_rising refs rest rising.1,
        )

  -- ---- the rules of troves, by the kind of the name

  abbrev refs_by : NameKind → List TroveId → List TroveId
  refs_by kind refs = if is_package kind then map (id_with v) refs else refs

  abbrev trove_by : NameKind → TroveParts → TroveParts
  trove_by kind t = record { id = id_with v t.id; files = t.files; refs = refs_by kind t.refs; requires_ = t.requires_; provides = t.provides }

  component : (whole id : TroveId) → IsComponentOf whole id → IsComponentOf (id_with v whole) (id_with v id)
  component whole id is = record { name = is.name; version = refl; flavor = is.flavor }

  renewed_kind : (kind : NameKind) (t : TroveParts) → KeepsKind kind t → KeepsKind kind (trove_by kind t)
  renewed_kind Component t none = none
  renewed_kind Package t keeps = (
    record { files = keeps.0.files; requires = keeps.0.requires; provides = keeps.0.provides },
    All-map (IsComponentOf (id_with v t.id)) (id_with v) t.refs (λ k d within. component t.id (get_or t.refs k d) (keeps.1 k d within)),
  )
  renewed_kind Group t keeps = (record { files = keeps.0.files; requires = keeps.0.requires; provides = keeps.0.provides }, keeps.1)

  rising_by : (kind : NameKind) (t : TroveParts) → KeepsKind kind t → IsStrictlySortedBy id_cmp t.refs → IsStrictlySortedBy id_cmp (refs_by kind t.refs)
  rising_by Component t keeps rising = rising
  rising_by Package t keeps rising = renewed_rising t.id.version t.refs (λ k d within. (keeps.1 k d within).version) rising
  rising_by Group t keeps rising = rising

  same_length : (refs : List TroveId) → length (map (id_with v) refs) ≡ length refs
  same_length [] = refl
  same_length (r ∷ refs) = ap suc (same_length refs)

  length_by : (kind : NameKind) (refs : List TroveId) → length (refs_by kind refs) ≡ length refs
  length_by Component refs = refl
  length_by Package refs = same_length refs
  length_by Group refs = refl

  pub renewed_is_trove : (t : TroveParts) → IsTrove t → IsTroveId (id_with v t.id) → All IsTroveId (refs_with v t.id t.refs) → is_some v.revision.build ≡ has_build t.id → IsTrove (trove_with v t)
  renewed_is_trove t is id refs build = record {
    lists = record {
      id = id;
      files = is.lists.files;
      refs = record { valid = refs; rising = rising_by (kind_of_name t.id.name) t is.rules.kind is.lists.refs.rising };
      requires = is.lists.requires;
      provides = is.lists.provides;
    };
    rules = record {
      limits = record {
        files = is.rules.limits.files;
        refs = subst (λ (n : ℕ). n ≤ REFS_LIMIT) (sym (length_by (kind_of_name t.id.name) t.refs)) is.rules.limits.refs;
        requires = is.rules.limits.requires;
        provides = is.rules.limits.provides;
      };
      build = build ∙ is.rules.build;
      kind = renewed_kind (kind_of_name t.id.name) t is.rules.kind;
    };
  }

-- ---- the version that comes next

-- it has a build count where the version has one
by_build : (r : Revision) (build : Option (List ℕ)) (count : List ℕ) → is_some (with_count r build count).build ≡ is_some build
by_build r None count = refl
by_build r (Some numbers) count = refl

pub next_build : (id : TroveId) (troves : List TroveParts) → is_some (next_version id troves).revision.build ≡ has_build id
next_build id troves =
    let r = id.version.revision in
    by_build r r.build (next_count (depth id.version.branch) (latest_count r (latest_revision id troves)))

-- ---- lists
