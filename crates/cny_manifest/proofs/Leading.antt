-- A spelling leads, item by item, to its value.
use Rattle.std.proofs.Common.{◌≡◌, ℕ, suc, ◌<◌, Bool, true, false, ◌&&◌, ◌==◌, List, [], ◌∷◌, ◌++◌, length, map, flat_map, refl, sym, ap, subst, ◌∙◌, append_assoc, append-nil, arith, codes, inl, inr, Ordering}
use Rattle.std.specs.Prelude.{not, All, ◌⊎◌}
use Rattle.std.specs.List.{list_all}
use Rattle.std.specs.List.Sorted.{IsStrictlySortedBy}
use Rattle.std.specs.Ordering.{is_lt}
use Rattle.std.specs.Str.{IsUtf8, is_utf8}
use Rattle.std.proofs.lemmas.Bool.{le-leb}
use Rattle.std.proofs.lemmas.Str.{IsUtf8-append, IsUtf8-nil, IsUtf8-from_ascii, is_utf8-from_IsUtf8}
use Rattle.std.proofs.lemmas.Str.Ascii.{IsAscii-nil, IsAscii-cons}
use Rattle.manifest_troves.specs.cny-base.Name.{kind_of_name}
use Rattle.manifest_troves.specs.cny-base.Number.{octal_text}
use Rattle.manifest_troves.specs.cny-base.declared.limits.TheConstants.{CONTENT_LIMIT}
use Rattle.manifest_troves.specs.cny-base.declared.name.NameKind.{NameKind}
use Rattle.manifest_troves.specs.cny-base.declared.name.NameKind.TheVariants.{Component, Package, Group}
use Rattle.cny_dep.specs.declared.parts.Parts.{Parts}
use Rattle.cny_dep.specs.Canonical.{flavor_text}
use Rattle.cny_version.specs.Version.{WholeVersion, version_text}
use Rattle.manifest_troves.specs.trove-parts.declared.id.TroveId.{TroveId}
use Rattle.manifest_troves.specs.trove-parts.Id.{IsTroveId, in_brackets, id_text_of}
use Rattle.manifest_troves.specs.trove-parts.Order.{id_cmp}
use Rattle.manifest_troves.proofs.trove-parts.IdFields.{fields_utf8}
use Rattle.manifest_troves.specs.trove-parts.declared.files.FileAt.{FileAt}
use Rattle.manifest_troves.specs.trove-parts.Files.{file_cmp}
use Rattle.manifest_troves.specs.change-set.declared.change.Carried.{Carried}
use Rattle.manifest_troves.specs.declared.lines.DepLine.{DepLine}
use Rattle.cny_manifest.specs.declared.entries.DirLine.{DirLine}
use Rattle.cny_manifest.specs.declared.entries.FileLine.{FileLine}
use Rattle.cny_manifest.specs.declared.words.Word.TheVariants as word
use Rattle.cny_manifest.specs.declared.words.WholeLine.TheVariants as whole
use Rattle.cny_manifest.specs.Body.{Body, body_of, with_flavor, with_ref, with_requirement, with_provided, is_empty, is_above, is_above_path, is_group_kind, is_own_by, dep_line_cmp, can_have_flavor, can_refer, can_require, can_provide, can_record}
use Rattle.cny_manifest.specs.Grammar.{Progress, AtMagic, AtName, AtVersion, InBody, InContent, InTarget, Ended, IsLine, Lead, IsManifest}
use Rattle.cny_manifest.specs.Lines.{word_at}
use Rattle.cny_manifest.specs.Spelling.{magic_line, ref_line, IsFlavorPart, IsDepLine, AreDepLines, Entry, DirEntry, FileEntry, LinkEntry, file_at, contents_in, entry_items, owner_words, IsEntry, KeepsToKind, IsOwnLine, HasRisingLists, AreItems, IsSpelling}
use Rattle.cny_manifest.proofs.FieldTexts.{without_all}
use Rattle.cny_manifest.proofs.LineTexts.{magic_again, name_again, version_again, word_again, dep_again, dir_again, file_again, file_fields, target_again, path_again, file_next_again}
use Rattle.cny_manifest.proofs.Adding.{above_path_is, no_entries, with_spelled}
use Rattle.cny_version.proofs.cny-base.Bools.{both as both_true}
use Rattle.cny_version.proofs.cny-base.Again.{not_true as is_not}

-- ---- leads

pub lead_then : (p : Progress) (xs : List (List ℕ)) (q : Progress) (ys : List (List ℕ)) (r : Progress) → Lead p xs q → Lead q ys r → Lead p (xs ++ ys) r
lead_then p [] q ys r first later = subst (λ (o : Progress). Lead o ys r) (sym first) later
lead_then p (x ∷ xs) q ys r first later = (first.0, first.1, lead_then first.0 xs q ys r first.2 later)

-- ---- elements

pub head_of : {X : Type 0} (P : X → Type 0) (x : X) (xs : List X) → All P (x ∷ xs) → P x
head_of P x xs all = all 0 x (omega arith)

pub tail_of : {X : Type 0} (P : X → Type 0) (x : X) (xs : List X) → All P (x ∷ xs) → All P xs
tail_of P x xs all k d lt = all (suc k) d (omega arith)

-- in a rising list each element is above the one before it
pub above_of : {K : Type 0} (R : K → K → Ordering) (xs : List K) (y : K) (ys : List K) → IsStrictlySortedBy R (xs ++ y ∷ ys) → is_above R xs y ≡ true
unfolding IsStrictlySortedBy
above_of R [] y ys rising = refl
above_of R (x ∷ []) y ys rising = ap is_lt rising.0.0
above_of R (x ∷ z ∷ xs) y ys rising = above_of R (z ∷ xs) y ys rising.1

-- ---- lines without values

abbrev pub no_feed : ℕ → Bool
no_feed b = not (b == 10)

pub plain_line : (text : List ℕ) → length text < 2049 → list_all no_feed text ≡ true → IsLine text
plain_line text short all = record { short = short; no_feed = without_all 10 no_feed (λ b h. is_not (b == 10) h) text all }

pub magic_is_line : (owners : Bool) → IsLine (magic_line owners)
magic_is_line true = plain_line (codes "manifest 2") (omega arith) refl
magic_is_line false = plain_line (codes "manifest 1") (omega arith) refl

-- ---- the flavor

pub flavor_can : (owners : Bool) (name : List ℕ) (version : WholeVersion) → can_have_flavor (body_of owners name version) ≡ true
unfolding can_have_flavor
flavor_can owners name version = refl

pub flavor_leads : (owners : Bool) (name : List ℕ) (version : WholeVersion) (parts : Parts) (lines : List (List ℕ)) → IsFlavorPart parts lines
    → Lead (InBody (body_of owners name version)) lines (InBody (with_flavor (body_of owners name version) parts))
flavor_leads owners name version parts [] is = ap (λ (p : Parts). InBody (with_flavor (body_of owners name version) p)) (sym is)
flavor_leads owners name version parts (line ∷ []) is = (
  InBody (with_flavor (body_of owners name version) parts),
  record {
    fits = is.3;
    item = inr (word.Whole whole.Flavor, is.0, ap word_at is.2 ∙ word_again (word.Whole whole.Flavor) is.0, (parts, is.1, flavor_can owners name version, refl));
  },
  refl,
)
flavor_leads owners name version parts (line ∷ more ∷ lines) is = absurd is

-- ---- references

brackets_utf8 : (text : List ℕ) → IsUtf8 text → IsUtf8 (in_brackets text)
brackets_utf8 [] is = IsUtf8-nil
brackets_utf8 (b ∷ bs) is =
    IsUtf8-append (91 ∷ []) ((b ∷ bs) ++ 93 ∷ []) (IsUtf8-from_ascii (91 ∷ []) (IsAscii-cons 91 [] (omega arith) IsAscii-nil))
    (IsUtf8-append (b ∷ bs) (93 ∷ []) is (IsUtf8-from_ascii (93 ∷ []) (IsAscii-cons 93 [] (omega arith) IsAscii-nil)))

id_utf8 : (id : TroveId) → IsTroveId id → is_utf8 (id_text_of id) ≡ true
id_utf8 id is =
    let parts = fields_utf8 id is in
    is_utf8-from_IsUtf8 (id_text_of id)
    (IsUtf8-append id.name (61 ∷ (version_text id.version ++ in_brackets (flavor_text id.flavor))) parts.name
    (IsUtf8-append (61 ∷ []) (version_text id.version ++ in_brackets (flavor_text id.flavor)) (IsUtf8-from_ascii (61 ∷ []) (IsAscii-cons 61 [] (omega arith) IsAscii-nil))
    (IsUtf8-append (version_text id.version) (in_brackets (flavor_text id.flavor)) parts.version (brackets_utf8 (flavor_text id.flavor) parts.flavor))))

ref_can : (b : Body) (id : TroveId) → is_group_kind (kind_of_name b.id.name) ≡ true → is_above id_cmp b.refs id ≡ true → can_refer b id ≡ true
unfolding can_refer
ref_can b id group above = both_true (is_group_kind (kind_of_name b.id.name)) (is_above id_cmp b.refs id) group above

no_refs : (b : Body) → Lead (InBody b) [] (InBody (record b { refs = b.refs ++ [] }))
no_refs b = ap (λ (l : List TroveId). InBody (record b { refs = l })) (sym (append-nil b.refs))

ref_leads : (b : Body) (ids : List TroveId) → is_group_kind (kind_of_name b.id.name) ≡ true → IsStrictlySortedBy id_cmp (b.refs ++ ids) → All IsTroveId ids → All (λ id. IsLine (ref_line id)) ids
    → Lead (InBody b) (map ref_line ids) (InBody (record b { refs = b.refs ++ ids }))
ref_leads b [] group rising valid fit = no_refs b
ref_leads b (id ∷ ids) group rising valid fit =
    let is : IsTroveId id = head_of IsTroveId id ids valid in (
      InBody (with_ref b id),
      record {
        fits = head_of (λ (x : TroveId). IsLine (ref_line x)) id ids fit;
        item = inr (
          word.Whole whole.Ref,
          id_text_of id,
          word_again (word.Whole whole.Ref) (id_text_of id),
          (id, record { utf8 = id_utf8 id is; valid = is; spelled = refl }, ref_can b id group (above_of id_cmp b.refs id ids rising), refl),
        );
      },
      subst (λ (l : List TroveId). Lead (InBody (with_ref b id)) (map ref_line ids) (InBody (record b { refs = l }))) (append_assoc b.refs (id ∷ []) ids)
          (ref_leads (with_ref b id) ids group (subst (λ (l : List TroveId). IsStrictlySortedBy id_cmp l) (sym (append_assoc b.refs (id ∷ []) ids)) rising)
          (tail_of IsTroveId id ids valid) (tail_of (λ (x : TroveId). IsLine (ref_line x)) id ids fit)),
    )

pub group_or_none : (kind : NameKind) (b : Body) → KeepsToKind kind b → (is_group_kind kind ≡ true) ⊎ (b.refs ≡ [])
group_or_none Component b kept = inr kept
group_or_none Package b kept = inr kept
group_or_none Group b kept = inl refl

pub refs_lead : (b : Body) (ids : List TroveId) → (is_group_kind (kind_of_name b.id.name) ≡ true) ⊎ (ids ≡ []) → IsStrictlySortedBy id_cmp (b.refs ++ ids) → All IsTroveId ids → All (λ id. IsLine (ref_line id)) ids
    → Lead (InBody b) (map ref_line ids) (InBody (record b { refs = b.refs ++ ids }))
refs_lead b ids (inl group) rising valid fit = ref_leads b ids group rising valid fit
refs_lead b ids (inr none) rising valid fit = subst (λ (l : List TroveId). Lead (InBody b) (map ref_line l) (InBody (record b { refs = b.refs ++ l }))) (sym none) (no_refs b)

-- ---- dependencies

pub require_can : (b : Body) (dep : DepLine) → is_own_by (kind_of_name b.id.name) b.id.name dep.name ≡ true → is_empty b.provides ≡ true → is_empty b.files ≡ true → is_above dep_line_cmp b.requires_ dep ≡ true
    → can_require b dep ≡ true
unfolding can_require
require_can b dep own provides files above =
    both_true (is_own_by (kind_of_name b.id.name) b.id.name dep.name) (is_empty b.provides && (is_empty b.files && is_above dep_line_cmp b.requires_ dep)) own
    (both_true (is_empty b.provides) (is_empty b.files && is_above dep_line_cmp b.requires_ dep) provides (both_true (is_empty b.files) (is_above dep_line_cmp b.requires_ dep) files above))

pub requires_lead : (b : Body) (deps : List DepLine) (lines : List (List ℕ)) → AreDepLines (codes "requires") deps lines → is_empty b.provides ≡ true → is_empty b.files ≡ true → All (IsOwnLine b.id.name) deps
    → IsStrictlySortedBy dep_line_cmp (b.requires_ ++ deps) → Lead (InBody b) lines (InBody (record b { requires_ = b.requires_ ++ deps }))
requires_lead b [] [] are provides files own rising = ap (λ (l : List DepLine). InBody (record b { requires_ = l })) (sym (append-nil b.requires_))
requires_lead b [] (line ∷ lines) are provides files own rising = absurd are
requires_lead b (dep ∷ deps) [] are provides files own rising = absurd are
requires_lead b (dep ∷ deps) (line ∷ lines) are provides files own rising =
    let is : IsOwnLine b.id.name dep = head_of (IsOwnLine b.id.name) dep deps own in
    let l : IsDepLine (codes "requires") dep line = are.0 in (
      InBody (with_requirement b dep),
      record {
        fits = l.fits;
        item = inr (
          word.Whole whole.Requires,
          dep.name ++ 32 ∷ l.text,
          ap word_at l.spelled ∙ word_again (word.Whole whole.Requires) (dep.name ++ 32 ∷ l.text),
          (dep, dep_again l.text dep l.is is.0, require_can b dep is.1 provides files (above_of dep_line_cmp b.requires_ dep deps rising), refl),
        );
      },
      subst (λ (x : List DepLine). Lead (InBody (with_requirement b dep)) lines (InBody (record b { requires_ = x }))) (append_assoc b.requires_ (dep ∷ []) deps)
          (requires_lead (with_requirement b dep) deps lines are.1 provides files (tail_of (IsOwnLine b.id.name) dep deps own)
          (subst (λ (x : List DepLine). IsStrictlySortedBy dep_line_cmp x) (sym (append_assoc b.requires_ (dep ∷ []) deps)) rising)),
    )

pub provide_can : (b : Body) (dep : DepLine) → is_own_by (kind_of_name b.id.name) b.id.name dep.name ≡ true → is_empty b.files ≡ true → is_above dep_line_cmp b.provides dep ≡ true → can_provide b dep ≡ true
unfolding can_provide
provide_can b dep own files above =
    both_true (is_own_by (kind_of_name b.id.name) b.id.name dep.name) (is_empty b.files && is_above dep_line_cmp b.provides dep) own
    (both_true (is_empty b.files) (is_above dep_line_cmp b.provides dep) files above)

pub provides_lead : (b : Body) (deps : List DepLine) (lines : List (List ℕ)) → AreDepLines (codes "provides") deps lines → is_empty b.files ≡ true → All (IsOwnLine b.id.name) deps
    → IsStrictlySortedBy dep_line_cmp (b.provides ++ deps) → Lead (InBody b) lines (InBody (record b { provides = b.provides ++ deps }))
provides_lead b [] [] are files own rising = ap (λ (l : List DepLine). InBody (record b { provides = l })) (sym (append-nil b.provides))
provides_lead b [] (line ∷ lines) are files own rising = absurd are
provides_lead b (dep ∷ deps) [] are files own rising = absurd are
provides_lead b (dep ∷ deps) (line ∷ lines) are files own rising =
    let is : IsOwnLine b.id.name dep = head_of (IsOwnLine b.id.name) dep deps own in
    let l : IsDepLine (codes "provides") dep line = are.0 in (
      InBody (with_provided b dep),
      record {
        fits = l.fits;
        item = inr (
          word.Whole whole.Provides,
          dep.name ++ 32 ∷ l.text,
          ap word_at l.spelled ∙ word_again (word.Whole whole.Provides) (dep.name ++ 32 ∷ l.text),
          (dep, dep_again l.text dep l.is is.0, provide_can b dep is.1 files (above_of dep_line_cmp b.provides dep deps rising), refl),
        );
      },
      subst (λ (x : List DepLine). Lead (InBody (with_provided b dep)) lines (InBody (record b { provides = x }))) (append_assoc b.provides (dep ∷ []) deps)
          (provides_lead (with_provided b dep) deps lines are.1 files (tail_of (IsOwnLine b.id.name) dep deps own)
          (subst (λ (x : List DepLine). IsStrictlySortedBy dep_line_cmp x) (sym (append_assoc b.provides (dep ∷ []) deps)) rising)),
    )

-- ---- entries

record_can : (b : Body) (path : List ℕ) → not (is_group_kind (kind_of_name b.id.name)) ≡ true → is_above_path b.files path ≡ true → can_record b path ≡ true
unfolding can_record
record_can b path other above = both_true (not (is_group_kind (kind_of_name b.id.name))) (is_above_path b.files path) other above

-- with the contents of an entry that isn't a file's
no_content : (b : Body) (files : List FileAt) → ◌≡◌ {A = Progress} (InBody (record b { files = files; contents = b.contents ++ [] })) (InBody (record b { files = files }))
no_content b files = ap (λ (c : List Carried). InBody (record b { files = files; contents = c })) (append-nil b.contents)

entry_leads : (b : Body) (entry : Entry) → can_record b (file_at entry).path ≡ true → IsEntry b.owners entry → Lead (InBody b) (entry_items b.owners entry) (InBody (with_spelled b entry))
entry_leads b (DirEntry path mode owner) can is =
    let line : DirLine = record { mode = mode; owner = owner; path = path } in
    let fields : List ℕ = octal_text mode ++ 32 ∷ (owner_words b.owners owner ++ path) in
    let entry : Entry = DirEntry path mode owner in (
      InBody (with_spelled b entry),
      record {
        fits = is.3;
        item = inr (word.Whole whole.Dir, fields, word_again (word.Whole whole.Dir) fields, (line, dir_again b.owners mode owner path is.1 is.2 is.0, can, no_content b (b.files ++ file_at entry ∷ [])));
      },
      refl,
    )
entry_leads b (FileEntry path mode owner flags content) can is =
    let line : FileLine = record { mode = mode; size = length content; owner = owner; flags = flags; path = path } in
    let fields : List ℕ = file_fields b.owners line in (
      InContent b line,
      record {
        fits = is.4;
        item = inr (
          word.File,
          fields,
          word_again word.File fields,
          (line, file_next_again b fields line (file_again b.owners line is.1 is.3 is.2 is.0) can, le-leb (length content) CONTENT_LIMIT is.3, refl),
        );
      },
      (InBody (with_spelled b (FileEntry path mode owner flags content)), record { fits = tt; item = (refl, refl) }, refl),
    )
entry_leads b (LinkEntry path target) can is =
    let entry : Entry = LinkEntry path target in (
      InTarget b path,
      record {
        fits = is.2;
        item = inr (word.Link, path, word_again word.Link path, (path, path_again b path is.0 can, refl, refl));
      },
      (InBody (with_spelled b entry), record { fits = is.3; item = (target, target_again target is.1, refl, no_content b (b.files ++ file_at entry ∷ [])) }, refl),
    )

abbrev pub with_entries : Body → List Entry → Body
with_entries b entries = record b { files = b.files ++ map file_at entries; contents = b.contents ++ flat_map contents_in entries }

nothing_recorded : (b : Body) → Lead (InBody b) [] (InBody (with_entries b []))
nothing_recorded b =
    ap (λ (l : List FileAt). InBody (record b { files = l })) (sym (append-nil b.files))
    ∙ ap (λ (l : List Carried). InBody (record b { files = b.files ++ []; contents = l })) (sym (append-nil b.contents))

recorded_next : (b : Body) (entry : Entry) (entries : List Entry) → with_entries (with_spelled b entry) entries ≡ with_entries b (entry ∷ entries)
recorded_next b entry entries =
    ap (λ (l : List FileAt). record b { files = l; contents = (b.contents ++ contents_in entry) ++ flat_map contents_in entries }) (append_assoc b.files (file_at entry ∷ []) (map file_at entries))
    ∙ ap (λ (l : List Carried). record b { files = b.files ++ map file_at (entry ∷ entries); contents = l }) (append_assoc b.contents (contents_in entry) (flat_map contents_in entries))

each_leads : (b : Body) (entries : List Entry) → not (is_group_kind (kind_of_name b.id.name)) ≡ true → IsStrictlySortedBy file_cmp (b.files ++ map file_at entries) → All (IsEntry b.owners) entries
    → Lead (InBody b) (flat_map (entry_items b.owners) entries) (InBody (with_entries b entries))
each_leads b [] other rising are = nothing_recorded b
each_leads b (entry ∷ entries) other rising are =
    let file : FileAt = file_at entry in
    let above : is_above_path b.files file.path ≡ true = sym (above_path_is b.files file.path file.rec) ∙ above_of file_cmp b.files file (map file_at entries) rising in
    lead_then (InBody b) (entry_items b.owners entry) (InBody (with_spelled b entry)) (flat_map (entry_items b.owners) entries) (InBody (with_entries b (entry ∷ entries)))
    (entry_leads b entry (record_can b file.path other above) (head_of (IsEntry b.owners) entry entries are))
    (subst (λ (c : Body). Lead (InBody (with_spelled b entry)) (flat_map (entry_items b.owners) entries) (InBody c)) (recorded_next b entry entries)
    (each_leads (with_spelled b entry) entries other (subst (λ (l : List FileAt). IsStrictlySortedBy file_cmp l) (sym (append_assoc b.files (file ∷ []) (map file_at entries))) rising)
    (tail_of (IsEntry b.owners) entry entries are)))

pub other_or_none : (kind : NameKind) (b : Body) (entries : List Entry) → KeepsToKind kind b → b.files ≡ map file_at entries → (not (is_group_kind kind) ≡ true) ⊎ (entries ≡ [])
other_or_none Component b entries kept are = inl refl
other_or_none Package b entries kept are = inl refl
other_or_none Group b entries kept are = inr (no_entries entries (sym kept.2 ∙ are))

pub entries_lead : (b : Body) (entries : List Entry) → (not (is_group_kind (kind_of_name b.id.name)) ≡ true) ⊎ (entries ≡ []) → IsStrictlySortedBy file_cmp (b.files ++ map file_at entries) → All (IsEntry b.owners) entries
    → Lead (InBody b) (flat_map (entry_items b.owners) entries) (InBody (with_entries b entries))
entries_lead b entries (inl other) rising are = each_leads b entries other rising are
entries_lead b entries (inr none) rising are = subst (λ (l : List Entry). Lead (InBody b) (flat_map (entry_items b.owners) l) (InBody (with_entries b l))) (sym none) (nothing_recorded b)

-- ---- the whole

pub body_leads : (items : List (List ℕ)) (b : Body) → AreItems items b → HasRisingLists b → Lead AtMagic items (InBody b)
body_leads items b are lists =
    let kind = kind_of_name b.id.name in
    let one : Body = with_flavor (body_of b.owners b.id.name b.id.version) b.id.flavor in
    let two : Body = record one { refs = b.refs } in
    let three : Body = record two { requires_ = b.requires_ } in
    let four : Body = record three { provides = b.provides } in
    let rising : IsStrictlySortedBy file_cmp (map file_at are.entries) = subst (λ (l : List FileAt). IsStrictlySortedBy file_cmp l) are.files_are lists.files in
    let entries : Lead (InBody four) (flat_map (entry_items b.owners) are.entries) (InBody (record b { files = map file_at are.entries; contents = flat_map contents_in are.entries })) =
    entries_lead four are.entries (other_or_none kind b are.entries lists.kind are.files_are) rising are.entries_are in
    let same : record b { files = map file_at are.entries; contents = flat_map contents_in are.entries } ≡ b =
    ap (λ (l : List FileAt). record b { files = l; contents = flat_map contents_in are.entries }) (sym are.files_are) ∙ ap (λ (l : List Carried). record b { contents = l }) (sym are.contents_are) in
    let rest : Lead (InBody (body_of b.owners b.id.name b.id.version)) (are.flavor ++ (map ref_line b.refs ++ (are.requires_ ++ (are.provides ++ flat_map (entry_items b.owners) are.entries)))) (InBody b) =
    lead_then (InBody (body_of b.owners b.id.name b.id.version)) are.flavor (InBody one) (map ref_line b.refs ++ (are.requires_ ++ (are.provides ++ flat_map (entry_items b.owners) are.entries))) (InBody b)
    (flavor_leads b.owners b.id.name b.id.version b.id.flavor are.flavor are.flavor_is)
    (lead_then (InBody one) (map ref_line b.refs) (InBody two) (are.requires_ ++ (are.provides ++ flat_map (entry_items b.owners) are.entries)) (InBody b)
    (refs_lead one b.refs (group_or_none kind b lists.kind) lists.refs.rising lists.refs.valid are.refs_fit)
    (lead_then (InBody two) are.requires_ (InBody three) (are.provides ++ flat_map (entry_items b.owners) are.entries) (InBody b)
    (requires_lead two b.requires_ are.requires_ are.requires_are refl refl lists.requires_.valid lists.requires_.rising)
    (lead_then (InBody three) are.provides (InBody four) (flat_map (entry_items b.owners) are.entries) (InBody b)
    (provides_lead three b.provides are.provides are.provides_are refl lists.provides.valid lists.provides.rising)
    (subst (λ (c : Body). Lead (InBody four) (flat_map (entry_items b.owners) are.entries) (InBody c)) same entries)))) in
    subst (λ (l : List (List ℕ)). Lead AtMagic l (InBody b)) (sym are.spelled) (
      AtName b.owners,
      record { fits = magic_is_line b.owners; item = (b.owners, magic_again b.owners, refl, refl) },
      (
        AtVersion b.owners b.id.name,
        record { fits = are.name_fits; item = (b.id.name, name_again b.id.name lists.name, refl, refl) },
        (InBody (body_of b.owners b.id.name b.id.version), record { fits = are.version_fits; item = (b.id.version, version_again are.version b.id.version are.version_is, refl, refl) }, rest),
      ),
    )

pub spelling_manifest : (bytes : List ℕ) (b : Body) → IsSpelling bytes b → IsManifest bytes b
spelling_manifest bytes b is =
    record {
      texts = is.items ++ codes "end" ∷ [];
      good = lead_then AtMagic is.items (InBody b) (codes "end" ∷ []) (Ended b) (body_leads is.items b is.are is.lists)
          (Ended b, record { fits = plain_line (codes "end") (omega arith) refl; item = inl (refl, is.troves, refl) }, refl);
      spelled = is.spelled;
    }
