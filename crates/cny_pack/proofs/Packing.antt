-- What is written is a manifest, and that of the tree.
use Rattle.std.proofs.Common.{◌≡◌, ◌≢◌, ℕ, Bool, true, false, IsTrue, ◌||◌, List, [], ◌∷◌, ◌++◌, map, flat_map, Option, Some, None, refl, sym, ap, subst, ◌∙◌, append_assoc, append-nil, codes}
use Rattle.std.specs.Prelude.{All}
use Rattle.std.specs.FinMap as tree
use Rattle.std.specs.Io.KnownBytes.{Appends}
use Rattle.std.specs.List.{AllZip}
use Rattle.std.specs.List.Sorted.{IsStrictlySortedBy}
use Rattle.std.proofs.lemmas.Grind.{flat_map-append}
use Rattle.std.proofs.lemmas.List.Elements.{All-nil, All-cons, All-head, All-tail}
use Rattle.tree_disk.specs.cny-base.Path.{root}
use Rattle.tree_disk.specs.cny-base.declared.node.Node.{Node}
use Rattle.tree_disk.specs.cny-base.declared.node.Node.TheVariants as node
use Rattle.tree_disk.specs.Rows.{look_of, seen_as, bytes_of}
use Rattle.tree_disk.specs.Tree.{Name, Tree, same_name}
use Rattle.tree_disk.specs.declared.disk.Look.{Look}
use Rattle.tree_disk.specs.declared.disk.Look.TheVariants as look
use Rattle.manifest_troves.specs.cny-base.Name.{kind_of_name}
use Rattle.manifest_troves.specs.cny-base.declared.name.NameKind.{NameKind}
use Rattle.manifest_troves.specs.cny-base.declared.name.NameKind.TheVariants.{Component, Package, Group}
use Rattle.manifest_troves.specs.cny-stream.Owner.{OwnerNames}
use Rattle.manifest_troves.specs.trove-parts.declared.id.TroveId.{TroveId}
use Rattle.manifest_troves.specs.trove-parts.Files.{path_of}
use Rattle.manifest_troves.specs.trove-parts.Id.{IsTroveId}
use Rattle.cny_manifest.specs.Body.{Body, is_group_kind}
use Rattle.cny_manifest.specs.Grammar.{IsLine}
use Rattle.cny_manifest.specs.Lines.{with_feed}
use Rattle.cny_manifest.specs.Spelling.{Entry, FileEntry, file_at, contents_in, entry_items, IsEntry, KeepsToKind, magic_line, name_line, version_line, ref_line}
use Rattle.cny_pack.specs.Causes.{sight_path, is_there, IsSightIn, AreSightsOf}
use Rattle.cny_pack.specs.Entries.{flags_at, entry_text, entries_text, IsEntryFor, IsEntryOfSight, GivesAll}
use Rattle.cny_pack.specs.Head.{IsHead}
use Rattle.cny_pack.specs.Judged.{IsJudged}
use Rattle.cny_pack.specs.Packs.{IsPack, entry_path, has_entry, IsEntryIn, AreNodes, WritesPack}
use Rattle.cny_pack.specs.Plan.{unfit_of, fits}
use Rattle.cny_pack.specs.Walk.{stands}
use Rattle.cny_pack.specs.declared.head.Head.{Head}
use Rattle.cny_pack.specs.declared.head.Words.{Words}
use Rattle.cny_pack.specs.declared.pattern.Pattern.{Pattern}
use Rattle.cny_pack.specs.declared.plan.Rules.{Rules}
use Rattle.cny_pack.specs.declared.plan.Sight.{Sight}
use Rattle.cny_pack.proofs.Planning.{by_bytes, some_there, sorted_pull}
use Rattle.cny_pack.proofs.Standing.{troves_alike, alike_entries}

-- ---- the bytes

flat_twice : (entries : List Entry) → entries_text entries ≡ flat_map with_feed (flat_map (entry_items true) entries)
flat_twice [] = refl
flat_twice (e ∷ entries) = ap (λ (l : List ℕ). entry_text e ++ l) (flat_twice entries) ∙ sym (flat_map-append with_feed (entry_items true e) (flat_map (entry_items true) entries))

whole_text : (first middle : List (List ℕ)) (last : List ℕ) → flat_map with_feed first ++ (flat_map with_feed middle ++ with_feed last) ≡ flat_map with_feed ((first ++ middle) ++ last ∷ [])
whole_text first middle last =
    ap (λ (l : List ℕ). flat_map with_feed first ++ (flat_map with_feed middle ++ l)) (sym (append-nil (with_feed last)))
    ∙ ap (λ (l : List ℕ). flat_map with_feed first ++ l) (sym (flat_map-append with_feed middle (last ∷ [])))
    ∙ sym (flat_map-append with_feed first (middle ++ last ∷ []))
    ∙ ap (flat_map with_feed) (sym (append_assoc first middle (last ∷ [])))

-- ---- paths

zip_path : (owns : Name → OwnerNames → Type 0) (config : List Pattern) (tells : Bool) (t : Tree) (sight : Sight) (entry : Entry) → IsEntryFor owns config tells t sight.path sight.look entry → entry_path entry ≡ sight.path
zip_path owns config tells t sight entry is = at sight.look is
  where
    at : (look : Look) → IsEntryFor owns config tells t sight.path look entry → entry_path entry ≡ sight.path
    at look.Nothing none = absurd none
    at (look.Dir mode) named = ap entry_path named.2
    at (look.File mode size) named = ap entry_path named.4
    at (look.Link target) same = ap entry_path same

zip_paths : (owns : Name → OwnerNames → Type 0) (config : List Pattern) (tells : Bool) (t : Tree) (sights : List Sight) (entries : List Entry) → AllZip (IsEntryOfSight owns config tells t) sights entries
    → map path_of (map file_at entries) ≡ map sight_path sights
zip_paths owns config tells t [] [] are = refl
zip_paths owns config tells t [] (e ∷ es) are = absurd are
zip_paths owns config tells t (s ∷ ss) [] are = absurd are
zip_paths owns config tells t (s ∷ ss) (e ∷ es) are =
    ap (λ (p : Name). p ∷ map path_of (map file_at es)) (zip_path owns config tells t s e are.0) ∙ ap (λ (l : List Name). s.path ∷ l) (zip_paths owns config tells t ss es are.1)

-- ---- the manifest

no_refs_kind : (kind : NameKind) (b : Body) → is_group_kind kind ≡ false → b.refs ≡ [] → KeepsToKind kind b
no_refs_kind Component b other none = none
no_refs_kind Package b other none = none
no_refs_kind Group b other none = absurd (cc other)

abbrev body_with : Head → List Entry → Body
body_with head entries =
    record {
      owners = true;
      id = head.id;
      refs = [];
      requires_ = head.requires_;
      provides = head.provides;
      files = map file_at entries;
      contents = flat_map contents_in entries;
    }

pub pack_is : (owns : Name → OwnerNames → Type 0) (config : List Pattern) (tells : Bool) (t : Tree) (words : Words) (head : Head) (sights : List Sight) (entries : List Entry) → IsHead words head → IsJudged head.id head.requires_ head.provides sights
    → IsStrictlySortedBy by_bytes (map sight_path sights) → AllZip (IsEntryOfSight owns config tells t) sights entries → All (IsEntry true) entries
    → IsPack words entries (head.text ++ (entries_text entries ++ with_feed (codes "end")))
unfolding IsStrictlySortedBy
pack_is owns config tells t words head sights entries head_is judged sorted are valid =
    let h = head_is.lines in
    let items : List (List ℕ) = flat_map (entry_items true) entries in
    let first : List (List ℕ) = magic_line true ∷ name_line head.id.name ∷ version_line h.version ∷ (h.flavor ++ (h.required ++ h.provided)) in
    let all : List (List ℕ) = magic_line true ∷ name_line head.id.name ∷ version_line h.version ∷ (h.flavor ++ (h.required ++ (h.provided ++ items))) in
    let same : first ++ items ≡ all =
    ap (λ (l : List (List ℕ)). magic_line true ∷ name_line head.id.name ∷ version_line h.version ∷ l)
    (append_assoc h.flavor (h.required ++ h.provided) items ∙ ap (λ (l : List (List ℕ)). h.flavor ++ l) (append_assoc h.required h.provided items)) in
    record {
      body = body_with head entries;
      spelled = record {
        items = all;
        are = record {
          version = h.version;
          flavor = h.flavor;
          requires_ = h.required;
          provides = h.provided;
          entries = entries;
          name_fits = h.name_fits;
          version_is = h.version_is;
          version_fits = h.version_fits;
          flavor_is = h.flavor_is;
          refs_fit = All-nil (λ (id : TroveId). IsLine (ref_line id));
          requires_are = h.requires_are;
          provides_are = h.provides_are;
          entries_are = valid;
          files_are = refl;
          contents_are = refl;
          spelled = refl;
        };
        lists = record {
          name = h.named;
          kind = no_refs_kind (kind_of_name head.id.name) (body_with head entries) h.no_group refl;
          refs = record { valid = All-nil IsTroveId; rising = tt };
          requires_ = h.requires_own;
          provides = h.provides_own;
          files = sorted_pull path_of by_bytes (map file_at entries) (subst (λ (l : List Name). IsStrictlySortedBy by_bytes l) (sym (zip_paths owns config tells t sights entries are)) sorted);
        };
        troves = troves_alike head.id head.requires_ head.provides judged.files (map file_at entries) (alike_entries owns config tells t sights judged.files entries judged.stand are valid) judged.troves;
        spelled =
            ap (λ (l : List ℕ). l ++ (entries_text entries ++ with_feed (codes "end"))) h.spelled
            ∙ ap (λ (l : List ℕ). flat_map with_feed first ++ (l ++ with_feed (codes "end"))) (flat_twice entries)
            ∙ whole_text first items (codes "end")
            ∙ ap (λ (l : List (List ℕ)). flat_map with_feed (l ++ codes "end" ∷ [])) same;
      };
      owners = refl;
      says = head_is.says;
      files = refl;
      contents = refl;
    }

-- ---- the nodes of a tree that is told

module _ (owns : Name → OwnerNames → Type 0) (rules : Rules) (tells : Bool) (t : Tree) (told : IsTrue tells) where
  entry_in : (path : Name) (n : Node) (entry : Entry) → tree.get t path ≡ Some n → path ≢ root → unfit_of path (look_of t path) ≡ None → IsEntryFor owns rules.config.now tells t path (seen_as (Some n)) entry → IsEntryIn owns rules t entry
  entry_in path (node.Dir mode) entry is other fit named =
      subst (IsEntryIn owns rules t) (sym named.2) (record { node = node.Dir mode; stands = is; not_root = other; fits = fit; is = (named.0, named.1, refl) })
  entry_in path (node.File mode bytes) entry is other fit named =
      let same : named.1 ≡ bytes = named.3.told told ∙ ap bytes_of is in
      subst (IsEntryIn owns rules t) (sym named.4) (record {
        node = node.File mode bytes;
        stands = is;
        not_root = other;
        fits = fit;
        is = (named.0, named.2, ap (λ (l : List ℕ). FileEntry path mode named.0 (flags_at rules.config.now path) l) same);
      })
  entry_in path (node.Link target) entry is other fit same =
      subst (IsEntryIn owns rules t) (sym same) (record { node = node.Link target; stands = is; not_root = other; fits = fit; is = refl })

  one_in : (sight : Sight) (entry : Entry) → IsSightIn t sight → IsEntryFor owns rules.config.now tells t sight.path sight.look entry → IsEntryIn owns rules t entry
  one_in sight entry here is =
      let found = some_there (tree.get t sight.path) here.here in
      entry_in sight.path found.0 entry found.1 here.not_root here.fits (subst (λ (l : Look). IsEntryFor owns rules.config.now tells t sight.path l entry) (here.seen ∙ ap seen_as found.1) is)

  each_in : (sights : List Sight) (entries : List Entry) → All (IsSightIn t) sights → AllZip (IsEntryOfSight owns rules.config.now tells t) sights entries → All (IsEntryIn owns rules t) entries
  each_in [] [] was are = All-nil (IsEntryIn owns rules t)
  each_in [] (e ∷ es) was are = absurd are
  each_in (s ∷ ss) [] was are = absurd are
  each_in (s ∷ ss) (e ∷ es) was are =
      All-cons (IsEntryIn owns rules t) e es (one_in s e (All-head (IsSightIn t) s ss was) are.0) (each_in ss es (All-tail (IsSightIn t) s ss was) are.1)

  has_there : (p : Name) (sights : List Sight) (entries : List Entry) → AllZip (IsEntryOfSight owns rules.config.now tells t) sights entries → has_entry entries p ≡ is_there p sights
  has_there p [] [] are = refl
  has_there p [] (e ∷ es) are = absurd are
  has_there p (s ∷ ss) [] are = absurd are
  has_there p (s ∷ ss) (e ∷ es) are =
      ap (λ (q : Name). same_name p q || has_entry es p) (zip_path owns rules.config.now tells t s e are.0) ∙ ap (λ (b : Bool). same_name p s.path || b) (has_there p ss es are.1)

  pub are_nodes : (sights : List Sight) (entries : List Entry) → AreSightsOf rules.skip t sights → AllZip (IsEntryOfSight owns rules.config.now tells t) sights entries → AreNodes owns rules t entries
  are_nodes sights entries of are = record {
    each = each_in sights entries of.each are;
    all = λ p here other may. has_there p sights entries are ∙ of.all p here other may;
  }

-- ---- all that was written

pub pack_written : (owns : Name → OwnerNames → Type 0) (rules : Rules) (tells : Bool) (t u : Tree) (words : Words) (head : Head) (sights : List Sight) (text : List ℕ) (old new : Option (List ℕ)) → IsHead words head
    → (IsTrue tells → AreSightsOf rules.skip t sights) → IsStrictlySortedBy by_bytes (map sight_path sights) → (IsTrue tells → u ≡ t) → text ≡ head.text → IsJudged head.id head.requires_ head.provides sights
    → GivesAll owns rules.config.now tells u text sights old new → WritesPack owns rules tells t words old new
pack_written owns rules tells t u words head sights text old new head_is of rise same text_is judged all = record {
  bytes = head.text ++ (entries_text all.entries ++ with_feed (codes "end"));
  entries = all.entries;
  given = subst (λ (l : List ℕ). Appends old new (l ++ (entries_text all.entries ++ with_feed (codes "end")))) text_is all.given;
  is = pack_is owns rules.config.now tells u words head sights all.entries head_is judged rise all.are all.valid;
  nodes = λ told. are_nodes owns rules tells t told sights all.entries (of told) (subst (λ (x : Tree). AllZip (IsEntryOfSight owns rules.config.now tells x) sights all.entries) (same told) all.are);
}
