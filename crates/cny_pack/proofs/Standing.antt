-- Troves keep their rules whoever owns their files, and whatever these hold.
use Rattle.std.proofs.Common.{◌≡◌, ℕ, suc, ◌≤◌, Bool, true, false, cond, List, [], ◌∷◌, ◌++◌, map, length, refl, sym, ap, subst, ◌∙◌}
use Rattle.std.specs.Prelude.{All}
use Rattle.std.specs.List.{AllZip, filter}
use Rattle.std.specs.List.Sorted.{IsStrictlySortedBy}
use Rattle.std.specs.Str.{bytes_eq}
use Rattle.std.proofs.lemmas.List.Elements.{All-nil, All-cons, All-head, All-tail}
use Rattle.tree_disk.specs.Looks.{sees_dir}
use Rattle.tree_disk.specs.Tree.{Name, Tree}
use Rattle.tree_disk.specs.declared.disk.Look.{Look}
use Rattle.tree_disk.specs.declared.disk.Look.TheVariants as look
use Rattle.manifest_troves.specs.cny-base.Name.{kind_of_name}
use Rattle.manifest_troves.specs.cny-base.declared.limits.TheConstants.{FILES_LIMIT}
use Rattle.manifest_troves.specs.cny-base.declared.name.NameKind.{NameKind}
use Rattle.manifest_troves.specs.cny-base.declared.name.NameKind.TheVariants.{Component, Package, Group}
use Rattle.manifest_troves.specs.Policy.{component_of}
use Rattle.manifest_troves.specs.cny-stream.Owner.{OwnerNames}
use Rattle.manifest_troves.specs.cny-stream.Record.{is_dir}
use Rattle.manifest_troves.specs.trove-parts.declared.id.TroveId.{TroveId}
use Rattle.manifest_troves.specs.trove-parts.declared.files.FileAt.{FileAt}
use Rattle.manifest_troves.specs.trove-parts.Files.{IsFileAt, file_cmp, path_of}
use Rattle.manifest_troves.specs.trove-stream.declared.parts.TroveParts.{TroveParts}
use Rattle.manifest_troves.specs.trove-stream.Trove.{IsTrove, KeepsKind, HasRefsAlone}
use Rattle.manifest_troves.specs.declared.lines.DepLine.{DepLine}
use Rattle.manifest_troves.specs.declared.lines.TroveLines.{TroveLines}
use Rattle.manifest_troves.specs.Troves.{AreTroves, troves_of, component_names, component_trove, package_of, package_troves, whole_component, entry_component, falls_to, with_names, name_of_line}
use Rattle.manifest_troves.proofs.Components.{troves_of_kind}
use Rattle.manifest_troves.proofs.cny-stream.Digests.{digest_long}
use Rattle.cny_manifest.specs.Spelling.{Entry, DirEntry, FileEntry, LinkEntry, file_at, IsEntry}
use Rattle.cny_pack.specs.Entries.{flags_at, IsEntryFor, IsEntryOfSight}
use Rattle.cny_pack.specs.Judged.{StandsFor, IsJudged, lines_with}
use Rattle.cny_pack.specs.declared.pattern.Pattern.{Pattern}
use Rattle.cny_pack.specs.declared.plan.Sight.{Sight}
use Rattle.cny_pack.proofs.Planning.{by_bytes, sorted_pull, sorted_put}

-- at one path, of one kind, and valid
pub record Alike (file other : FileAt) : Type 0 where
  pub path : other.path ≡ file.path
  pub kind : is_dir other.rec ≡ is_dir file.rec
  pub valid : IsFileAt other

-- ---- lists of such

alike_filter : (p : FileAt → Bool) → ((f g : FileAt) → Alike f g → p g ≡ p f) → (fs gs : List FileAt) → AllZip Alike fs gs → AllZip Alike (filter p fs) (filter p gs)
alike_filter p same [] [] all = tt
alike_filter p same [] (g ∷ gs) all = absurd all
alike_filter p same (f ∷ fs) [] all = absurd all
alike_filter p same (f ∷ fs) (g ∷ gs) all =
    subst (λ (b : Bool). AllZip Alike (filter p (f ∷ fs)) (cond b (g ∷ filter p gs) (filter p gs))) (sym (same f g all.0)) (at (p f) (alike_filter p same fs gs all.1))
  where
    at : (b : Bool) → AllZip Alike (filter p fs) (filter p gs) → AllZip Alike (cond b (f ∷ filter p fs) (filter p fs)) (cond b (g ∷ filter p gs) (filter p gs))
    at true rest = (all.0, rest)
    at false rest = rest

alike_paths : (fs gs : List FileAt) → AllZip Alike fs gs → map path_of gs ≡ map path_of fs
alike_paths [] [] all = refl
alike_paths [] (g ∷ gs) all = absurd all
alike_paths (f ∷ fs) [] all = absurd all
alike_paths (f ∷ fs) (g ∷ gs) all = ap (λ (p : Name). p ∷ map path_of gs) all.0.path ∙ ap (λ (l : List Name). f.path ∷ l) (alike_paths fs gs all.1)

alike_valid : (fs gs : List FileAt) → AllZip Alike fs gs → All IsFileAt gs
alike_valid [] [] all = All-nil IsFileAt
alike_valid [] (g ∷ gs) all = absurd all
alike_valid (f ∷ fs) [] all = absurd all
alike_valid (f ∷ fs) (g ∷ gs) all = All-cons IsFileAt g gs all.0.valid (alike_valid fs gs all.1)

alike_long : (fs gs : List FileAt) → AllZip Alike fs gs → length gs ≡ length fs
alike_long [] [] all = refl
alike_long [] (g ∷ gs) all = absurd all
alike_long (f ∷ fs) [] all = absurd all
alike_long (f ∷ fs) (g ∷ gs) all = ap (λ (n : ℕ). suc n) (alike_long fs gs all.1)

alike_none : (fs gs : List FileAt) → AllZip Alike fs gs → fs ≡ [] → gs ≡ []
alike_none [] [] all none = refl
alike_none [] (g ∷ gs) all none = absurd all
alike_none (f ∷ fs) gs all none = absurd (cc none)

pub alike_sorted : (fs gs : List FileAt) → AllZip Alike fs gs → IsStrictlySortedBy file_cmp fs → IsStrictlySortedBy file_cmp gs
alike_sorted fs gs all sorted =
    sorted_pull path_of by_bytes gs (subst (λ (l : List Name). IsStrictlySortedBy by_bytes l) (sym (alike_paths fs gs all)) (sorted_put path_of by_bytes fs sorted))

-- ---- troves of such

abbrev trove_with : TroveParts → List FileAt → TroveParts
trove_with t files = record { id = t.id; files = files; refs = t.refs; requires_ = t.requires_; provides = t.provides }

alone : (t : TroveParts) (fs gs : List FileAt) → AllZip Alike fs gs → HasRefsAlone (trove_with t fs) → HasRefsAlone (trove_with t gs)
alone t fs gs all is = record { files = alike_none fs gs all is.files; requires = is.requires; provides = is.provides }

kind_alike : (kind : NameKind) (t : TroveParts) (fs gs : List FileAt) → AllZip Alike fs gs → KeepsKind kind (trove_with t fs) → KeepsKind kind (trove_with t gs)
kind_alike Component t fs gs all is = is
kind_alike Package t fs gs all is = (alone t fs gs all is.0, is.1)
kind_alike Group t fs gs all is = (alone t fs gs all is.0, is.1)

trove_alike : (t : TroveParts) (fs gs : List FileAt) → AllZip Alike fs gs → IsTrove (trove_with t fs) → IsTrove (trove_with t gs)
trove_alike t fs gs all is = record {
  lists = record {
    id = is.lists.id;
    files = record { valid = alike_valid fs gs all; rising = alike_sorted fs gs all is.lists.files.rising };
    refs = is.lists.refs;
    requires = is.lists.requires;
    provides = is.lists.provides;
  };
  rules = record {
    limits = record { files = subst (λ (n : ℕ). n ≤ FILES_LIMIT) (sym (alike_long fs gs all)) is.rules.limits.files; refs = is.rules.limits.refs; requires = is.rules.limits.requires; provides = is.rules.limits.provides };
    build = is.rules.build;
    kind = kind_alike (kind_of_name t.id.name) t fs gs all is.rules.kind;
  };
}

-- ---- all troves of lines

module _ (id : TroveId) (requires_ provides : List DepLine) (fs gs : List FileAt) (all : AllZip Alike fs gs) where
  alike_component : (f g : FileAt) → Alike f g → entry_component id.name g ≡ entry_component id.name f
  alike_component f g is =
      ap (λ (p : Name). id.name ++ 58 ∷ component_of p (is_dir g.rec)) is.path ∙ ap (λ (b : Bool). id.name ++ 58 ∷ component_of f.path b) is.kind

  component_alike : (name : List ℕ) → IsTrove (component_trove (lines_with id requires_ provides fs) name) → IsTrove (component_trove (lines_with id requires_ provides gs) name)
  component_alike name is =
      trove_alike (component_trove (lines_with id requires_ provides fs) name) (filter (falls_to id.name name) fs) (filter (falls_to id.name name) gs)
      (alike_filter (falls_to id.name name) (λ f g like. ap (λ (n : List ℕ). bytes_eq n name) (alike_component f g like)) fs gs all) is

  components_alike : (names : List (List ℕ)) → All IsTrove (map (component_trove (lines_with id requires_ provides fs)) names) → All IsTrove (map (component_trove (lines_with id requires_ provides gs)) names)
  components_alike [] are = All-nil IsTrove
  components_alike (n ∷ names) are =
      All-cons IsTrove (component_trove (lines_with id requires_ provides gs) n) (map (component_trove (lines_with id requires_ provides gs)) names)
      (component_alike n (All-head IsTrove (component_trove (lines_with id requires_ provides fs) n) (map (component_trove (lines_with id requires_ provides fs)) names) are))
      (components_alike names (All-tail IsTrove (component_trove (lines_with id requires_ provides fs) n) (map (component_trove (lines_with id requires_ provides fs)) names) are))

  entries_alike : (xs ys : List FileAt) → AllZip Alike xs ys → map (entry_component id.name) ys ≡ map (entry_component id.name) xs
  entries_alike [] [] is = refl
  entries_alike [] (y ∷ ys) is = absurd is
  entries_alike (x ∷ xs) [] is = absurd is
  entries_alike (x ∷ xs) (y ∷ ys) is =
      ap (λ (n : List ℕ). n ∷ map (entry_component id.name) ys) (alike_component x y is.0) ∙ ap (λ (l : List (List ℕ)). entry_component id.name x ∷ l) (entries_alike xs ys is.1)

  names_alike : component_names (lines_with id requires_ provides gs) ≡ component_names (lines_with id requires_ provides fs)
  names_alike = ap (λ (l : List (List ℕ)). with_names (with_names (with_names [] l) (map name_of_line requires_)) (map name_of_line provides)) (entries_alike fs gs all)

  pub troves_alike : AreTroves (lines_with id requires_ provides fs) → AreTroves (lines_with id requires_ provides gs)
  troves_alike are = at (kind_of_name id.name) refl
    where
      l : TroveLines
      l = lines_with id requires_ provides fs

      m : TroveLines
      m = lines_with id requires_ provides gs

      at : (kind : NameKind) → kind_of_name id.name ≡ kind → All IsTrove (troves_of m)
      at Component is =
          subst (All IsTrove) (sym (troves_of_kind (lines_with id requires_ provides gs) Component is))
          (All-cons IsTrove (whole_component (lines_with id requires_ provides gs)) []
          (trove_alike (whole_component (lines_with id requires_ provides fs)) fs gs all
          (All-head IsTrove (whole_component (lines_with id requires_ provides fs)) [] (subst (All IsTrove) (troves_of_kind (lines_with id requires_ provides fs) Component is) are)))
          (All-nil IsTrove))
      at Package is =
          let names : List (List ℕ) = component_names (lines_with id requires_ provides fs) in
          let old : All IsTrove (package_troves (lines_with id requires_ provides fs) names) = subst (All IsTrove) (troves_of_kind (lines_with id requires_ provides fs) Package is) are in
          subst (All IsTrove) (sym (troves_of_kind (lines_with id requires_ provides gs) Package is))
          (subst (λ (ns : List (List ℕ)). All IsTrove (package_troves (lines_with id requires_ provides gs) ns)) (sym names_alike)
          (All-cons IsTrove (package_of id names) (map (component_trove (lines_with id requires_ provides gs)) names)
          (All-head IsTrove (package_of id names) (map (component_trove (lines_with id requires_ provides fs)) names) old)
          (components_alike names (All-tail IsTrove (package_of id names) (map (component_trove (lines_with id requires_ provides fs)) names) old))))
      at Group is = subst (All IsTrove) (troves_of_kind (lines_with id requires_ provides fs) Group is ∙ sym (troves_of_kind (lines_with id requires_ provides gs) Group is)) are

-- ---- what stands for what was seen

alike_files : (sights : List Sight) (files others : List FileAt) → AllZip StandsFor sights files → AllZip StandsFor sights others → All IsFileAt others → AllZip Alike files others
alike_files [] [] [] first next valid = tt
alike_files [] [] (o ∷ os) first next valid = absurd next
alike_files [] (f ∷ fs) os first next valid = absurd first
alike_files (s ∷ ss) [] os first next valid = absurd first
alike_files (s ∷ ss) (f ∷ fs) [] first next valid = absurd next
alike_files (s ∷ ss) (f ∷ fs) (o ∷ os) first next valid = (
  record { path = next.0.path ∙ sym first.0.path; kind = next.0.kind ∙ sym first.0.kind; valid = All-head IsFileAt o os valid },
  alike_files ss fs os first.1 next.1 (All-tail IsFileAt o os valid),
)

-- where those of some files break the rules, those of all files do
pub unjudged : (id : TroveId) (requires_ provides : List DepLine) (sights : List Sight) (files : List FileAt) → AllZip StandsFor sights files → All IsFileAt files → (AreTroves (lines_with id requires_ provides files) → ⊥)
    → IsJudged id requires_ provides sights → ⊥
unjudged id requires_ provides sights files stand valid broken judged =
    broken (troves_alike id requires_ provides judged.files files (alike_files sights judged.files files judged.stand stand valid) judged.troves)

-- ---- and its entry

module _ (owns : Name → OwnerNames → Type 0) (config : List Pattern) (tells : Bool) (t : Tree) where
  alike_entry : (sight : Sight) (file : FileAt) (entry : Entry) → StandsFor sight file → IsEntryFor owns config tells t sight.path sight.look entry → IsEntry true entry → Alike file (file_at entry)
  alike_entry sight file entry stands is valid = at sight.look refl is
    where
      at : (look : Look) → sight.look ≡ look → IsEntryFor owns config tells t sight.path look entry → Alike file (file_at entry)
      at look.Nothing same none = absurd none
      at (look.Dir mode) same named =
          let one : IsEntry true (DirEntry sight.path mode named.0) = subst (IsEntry true) named.2 valid in
          subst (λ (e : Entry). Alike file (file_at e)) (sym named.2)
          (record { path = sym stands.path; kind = sym (stands.kind ∙ ap sees_dir same); valid = record { path = one.0; rec = (one.1, one.2) } })
      at (look.File mode size) same named =
          let one : IsEntry true (FileEntry sight.path mode named.0 (flags_at config sight.path) named.1) = subst (IsEntry true) named.4 valid in
          subst (λ (e : Entry). Alike file (file_at e)) (sym named.4)
          (record { path = sym stands.path; kind = sym (stands.kind ∙ ap sees_dir same); valid = record { path = one.0; rec = (one.1, one.3, digest_long named.1, one.2) } })
      at (look.Link target) same is =
          let one : IsEntry true (LinkEntry sight.path target) = subst (IsEntry true) is valid in
          subst (λ (e : Entry). Alike file (file_at e)) (sym is)
          (record { path = sym stands.path; kind = sym (stands.kind ∙ ap sees_dir same); valid = record { path = one.0; rec = one.1 } })

  pub alike_entries : (sights : List Sight) (files : List FileAt) (entries : List Entry) → AllZip StandsFor sights files → AllZip (IsEntryOfSight owns config tells t) sights entries → All (IsEntry true) entries
      → AllZip Alike files (map file_at entries)
  alike_entries [] [] [] stand are valid = tt
  alike_entries [] [] (e ∷ es) stand are valid = absurd are
  alike_entries [] (f ∷ fs) es stand are valid = absurd stand
  alike_entries (s ∷ ss) [] es stand are valid = absurd stand
  alike_entries (s ∷ ss) (f ∷ fs) [] stand are valid = absurd are
  alike_entries (s ∷ ss) (f ∷ fs) (e ∷ es) stand are valid =
      (alike_entry s f e stand.0 are.0 (All-head (IsEntry true) e es valid), alike_entries ss fs es stand.1 are.1 (All-tail (IsEntry true) e es valid))
