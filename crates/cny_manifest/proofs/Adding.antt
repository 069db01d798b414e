-- Good items, one behind the other, are a spelling of what they lead to.
use Rattle.std.proofs.Common.{◌≡◌, ℕ, ◌≤◌, Bool, true, ◌&&◌, List, [], ◌∷◌, ◌++◌, length, map, flat_map, refl, sym, ap, subst, ◌∙◌, append_assoc, append-nil, codes, inl, inr, Ordering}
use Rattle.std.specs.Prelude.{not}
use Rattle.std.specs.Cmp.{IsTotalOrder}
use Rattle.std.specs.Cmp.Lexicographic.{nat_list_cmp_total}
use Rattle.std.specs.List.Sorted.{IsStrictlySortedBy}
use Rattle.std.proofs.lemmas.Bool.{leb-true, true≢false}
use Rattle.std.proofs.lemmas.Cmp.{on_total, then_total}
use Rattle.std.proofs.lemmas.List.{map-append}
use Rattle.std.proofs.lemmas.List.Concat.{flat_map-append}
use Rattle.std.proofs.lemmas.List.Elements.{All-push, All-nil}
use Rattle.sha1.specs.Sha1.{sha1}
use Rattle.manifest_troves.specs.cny-base.Name.{is_name, kind_of_name}
use Rattle.manifest_troves.specs.cny-base.Path.{is_path}
use Rattle.manifest_troves.specs.cny-base.declared.limits.TheConstants.{CONTENT_LIMIT}
use Rattle.manifest_troves.specs.cny-base.declared.name.NameKind.{NameKind}
use Rattle.manifest_troves.specs.cny-base.declared.name.NameKind.TheVariants.{Component, Package, Group}
use Rattle.cny_dep.specs.Dep.{dep_text}
use Rattle.cny_dep.specs.declared.parts.Parts.{Parts}
use Rattle.cny_dep.specs.Canonical.{flavor_text}
use Rattle.cny_version.specs.Version.{WholeVersion}
use Rattle.manifest_troves.specs.cny-stream.declared.record.FileRec.{FileRec}
use Rattle.manifest_troves.specs.cny-stream.declared.record.FileRec.TheVariants as rec
use Rattle.manifest_troves.specs.trove-parts.declared.id.TroveId.{TroveId}
use Rattle.manifest_troves.specs.trove-parts.Id.{IsTroveId}
use Rattle.manifest_troves.specs.trove-parts.Order.{id_cmp, id_total}
use Rattle.manifest_troves.specs.trove-parts.declared.files.FileAt.{FileAt}
use Rattle.manifest_troves.specs.trove-parts.Files.{file_cmp}
use Rattle.manifest_troves.specs.trove-parts.Items.{IsRisingList}
use Rattle.manifest_troves.specs.change-set.declared.change.Carried.{Carried}
use Rattle.manifest_troves.specs.declared.lines.DepLine.{DepLine}
use Rattle.cny_manifest.specs.declared.entries.DirLine.{DirLine}
use Rattle.cny_manifest.specs.declared.entries.FileLine.{FileLine}
use Rattle.cny_manifest.specs.declared.words.Word.{Word}
use Rattle.cny_manifest.specs.declared.words.Word.TheVariants as word
use Rattle.cny_manifest.specs.declared.words.WholeLine.TheVariants as whole
use Rattle.cny_manifest.specs.Body.{Body, body_of, with_flavor, with_ref, with_requirement, with_provided, with_dir, with_link, with_file, is_empty, is_above, is_above_path, is_group_kind, is_own_by, dep_line_cmp, can_have_flavor, can_refer, can_require, can_provide, can_record}
use Rattle.cny_manifest.specs.Grammar.{Progress, AtMagic, AtName, AtVersion, InBody, InContent, InTarget, Ended, IsVersionField, IsFlavorField, IsDepFields, IsWordLine, IsBodyLine, IsLine, IsNext, Lead, IsManifest}
use Rattle.cny_manifest.specs.Lines.{with_feed}
use Rattle.cny_manifest.specs.Made.{CanEnd}
use Rattle.cny_manifest.specs.Spelling.{magic_line, name_line, version_line, ref_line, IsFlavorPart, IsDepLine, AreDepLines, Entry, DirEntry, FileEntry, LinkEntry, file_at, contents_in, dir_line, file_line, link_line, entry_items, IsOwnerHere, IsEntry, KeepsToKind, IsOwnLine, HasRisingLists, AreItems, IsSpelling}
use Rattle.cny_manifest.proofs.LineTexts.{magic_takes, name_takes, version_takes, word_text, word_takes, dep_takes, dir_takes, file_takes, target_takes, path_takes, file_next_takes}
use Rattle.manifest_troves.proofs.trove-parts.Orders.{file_total}
use Rattle.manifest_troves.specs.Troves.{name_of_line}
use Rattle.cny_dep.proofs.Sorted.{all_above}
use Rattle.cny_version.proofs.cny-base.Doubling.{both}
use Rattle.cny_version.proofs.cny-base.Orders.{less_is}
use Rattle.cny_version.proofs.cny-base.Sorted.{rising_nil as sorted_nil}

-- ---- orders

abbrev text_of_line : DepLine → List ℕ
text_of_line line = dep_text line.dep

pub dep_line_total : IsTotalOrder dep_line_cmp
dep_line_total = then_total (on_total name_of_line nat_list_cmp_total) (on_total text_of_line nat_list_cmp_total)

-- ---- rising lists

module _ {K : Type 0} {R : K → K → Ordering} (o : IsTotalOrder R) where
  -- one more element, above the last
  pub rising_push : (xs : List K) (y : K) → IsStrictlySortedBy R xs → is_above R xs y ≡ true → IsStrictlySortedBy R (xs ++ y ∷ [])
  unfolding IsStrictlySortedBy
  rising_push [] y rising above = (tt, tt)
  rising_push (x ∷ []) y rising above = ((less_is (R x y) above, tt), (tt, tt))
  rising_push (x ∷ z ∷ xs) y rising above =
      let rest = rising_push (z ∷ xs) y rising.1 above in
      ((rising.0.0, all_above o x z (xs ++ y ∷ []) rising.0.0 rest.0), rest)

pub above_path_is : (files : List FileAt) (path : List ℕ) (rec : FileRec) → is_above file_cmp files (record { path = path; rec = rec }) ≡ is_above_path files path
above_path_is [] path rec = refl
above_path_is (file ∷ []) path rec = refl
above_path_is (file ∷ next ∷ files) path rec = above_path_is (next ∷ files) path rec

pub rising_more : {K : Type 0} {R : K → K → Ordering} (P : K → Type 0) (o : IsTotalOrder R) (xs : List K) (y : K) → IsRisingList P R xs → P y → is_above R xs y ≡ true → IsRisingList P R (xs ++ y ∷ [])
rising_more P o xs y is valid above = record { valid = All-push P xs y is.valid valid; rising = rising_push o xs y is.rising above }

pub rising_nil : {K : Type 0} (P : K → Type 0) (R : K → K → Ordering) → IsRisingList P R []
rising_nil P R = record { valid = All-nil P; rising = sorted_nil R }

-- ---- lists of lines

abbrev five : List (List ℕ) → List (List ℕ) → List (List ℕ) → List (List ℕ) → List (List ℕ) → List (List ℕ)
five fl rf rq pv en = fl ++ (rf ++ (rq ++ (pv ++ en)))

to_entries : (fl rf rq pv en s : List (List ℕ)) → five fl rf rq pv en ++ s ≡ five fl rf rq pv (en ++ s)
to_entries fl rf rq pv en s =
    append_assoc fl (rf ++ (rq ++ (pv ++ en))) s
    ∙ ap (λ (l : List (List ℕ)). fl ++ l) (append_assoc rf (rq ++ (pv ++ en)) s
    ∙ ap (λ (l : List (List ℕ)). rf ++ l) (append_assoc rq (pv ++ en) s
    ∙ ap (λ (l : List (List ℕ)). rq ++ l) (append_assoc pv en s)))

to_provides : (fl rf rq pv en s : List (List ℕ)) → en ≡ [] → five fl rf rq pv en ++ s ≡ five fl rf rq (pv ++ s) en
to_provides fl rf rq pv en s none =
    subst (λ (e : List (List ℕ)). five fl rf rq pv e ++ s ≡ five fl rf rq (pv ++ s) e) (sym none)
    (to_entries fl rf rq pv [] s ∙ ap (λ (l : List (List ℕ)). fl ++ (rf ++ (rq ++ l))) (sym (append-nil (pv ++ s))))

to_requires : (fl rf rq pv en s : List (List ℕ)) → pv ≡ [] → en ≡ [] → five fl rf rq pv en ++ s ≡ five fl rf (rq ++ s) pv en
to_requires fl rf rq pv en s no_pv none =
    subst (λ (p : List (List ℕ)). five fl rf rq p en ++ s ≡ five fl rf (rq ++ s) p en) (sym no_pv)
    (subst (λ (e : List (List ℕ)). five fl rf rq [] e ++ s ≡ five fl rf (rq ++ s) [] e) (sym none)
    (to_entries fl rf rq [] [] s ∙ ap (λ (l : List (List ℕ)). fl ++ (rf ++ l)) (sym (append-nil (rq ++ s)))))

to_refs : (fl rf rq pv en s : List (List ℕ)) → rq ≡ [] → pv ≡ [] → en ≡ [] → five fl rf rq pv en ++ s ≡ five fl (rf ++ s) rq pv en
to_refs fl rf rq pv en s no_rq no_pv none =
    subst (λ (r : List (List ℕ)). five fl rf r pv en ++ s ≡ five fl (rf ++ s) r pv en) (sym no_rq)
    (subst (λ (p : List (List ℕ)). five fl rf [] p en ++ s ≡ five fl (rf ++ s) [] p en) (sym no_pv)
    (subst (λ (e : List (List ℕ)). five fl rf [] [] e ++ s ≡ five fl (rf ++ s) [] [] e) (sym none)
    (to_entries fl rf [] [] [] s ∙ ap (λ (l : List (List ℕ)). fl ++ l) (sym (append-nil (rf ++ s))))))

to_flavor : (rf rq pv en s : List (List ℕ)) → rf ≡ [] → rq ≡ [] → pv ≡ [] → en ≡ [] → five [] rf rq pv en ++ s ≡ five s rf rq pv en
to_flavor rf rq pv en s no_rf no_rq no_pv none =
    subst (λ (f : List (List ℕ)). five [] f rq pv en ++ s ≡ five s f rq pv en) (sym no_rf)
    (subst (λ (r : List (List ℕ)). five [] [] r pv en ++ s ≡ five s [] r pv en) (sym no_rq)
    (subst (λ (p : List (List ℕ)). five [] [] [] p en ++ s ≡ five s [] [] p en) (sym no_pv)
    (subst (λ (e : List (List ℕ)). five [] [] [] [] e ++ s ≡ five s [] [] [] e) (sym none)
    (sym (append-nil s)))))

-- behind the first three lines
abbrev heads : Bool → List ℕ → List ℕ → List (List ℕ) → List (List ℕ)
heads owners name version rest = magic_line owners ∷ name_line name ∷ version_line version ∷ rest

behind_heads : (owners : Bool) (name version : List ℕ) (items rest more s : List (List ℕ)) → items ≡ heads owners name version rest → rest ++ s ≡ more → items ++ s ≡ heads owners name version more
behind_heads owners name version items rest more s is e = ap (λ (l : List (List ℕ)). l ++ s) is ∙ ap (heads owners name version) e

-- ---- what is empty

pub empty_is : {A : Type 0} (xs : List A) → is_empty xs ≡ true → xs ≡ []
empty_is [] e = refl
empty_is (x ∷ xs) e = absurd cc

pub no_dep_lines : (of : List ℕ) (deps : List DepLine) (lines : List (List ℕ)) → AreDepLines of deps lines → deps ≡ [] → lines ≡ []
no_dep_lines of [] [] are e = refl
no_dep_lines of [] (line ∷ lines) are e = absurd are
no_dep_lines of (dep ∷ deps) lines are e = absurd cc

pub no_entries : (entries : List Entry) → [] ≡ map file_at entries → entries ≡ []
no_entries [] e = refl
no_entries (entry ∷ entries) e = absurd cc

none_recorded : (b : Body) (entries : List Entry) → b.files ≡ [] → b.files ≡ map file_at entries → flat_map (entry_items b.owners) entries ≡ []
none_recorded b entries none are = ap (flat_map (entry_items b.owners)) (no_entries entries (sym none ∙ are))

dep_lines_push : (of : List ℕ) (deps : List DepLine) (lines : List (List ℕ)) (dep : DepLine) (line : List ℕ) → AreDepLines of deps lines → IsDepLine of dep line → AreDepLines of (deps ++ dep ∷ []) (lines ++ line ∷ [])
dep_lines_push of [] [] dep line are is = (is, tt)
dep_lines_push of [] (x ∷ lines) dep line are is = absurd are
dep_lines_push of (x ∷ deps) [] dep line are is = absurd are
dep_lines_push of (x ∷ deps) (y ∷ lines) dep line are is = (are.0, dep_lines_push of deps lines dep line are.1 is)

-- ---- one line more

abbrev pub IsSoFar : List (List ℕ) → Body → Type 0
IsSoFar items b = AreItems items b × HasRisingLists b

flavor_kind : (kind : NameKind) (b : Body) (parts : Parts) → KeepsToKind kind b → KeepsToKind kind (with_flavor b parts)
flavor_kind Component b parts kept = kept
flavor_kind Package b parts kept = kept
flavor_kind Group b parts kept = kept

-- where a flavor may come, none came
no_flavor : (parts : Parts) (lines : List (List ℕ)) → IsFlavorPart parts lines → is_empty (flavor_text parts) ≡ true → lines ≡ []
no_flavor parts [] is none = refl
no_flavor parts (line ∷ []) is none = absurd (true≢false (sym none ∙ is.1.some))
no_flavor parts (line ∷ more ∷ lines) is none = absurd is

pub record NothingYet (b : Body) : Type 0 where
  pub flavor : is_empty (flavor_text b.id.flavor) ≡ true
  pub refs : b.refs ≡ []
  pub requires_ : b.requires_ ≡ []
  pub provides : b.provides ≡ []
  pub files : b.files ≡ []

nothing_yet : (b : Body) → can_have_flavor b ≡ true → NothingYet b
unfolding can_have_flavor
nothing_yet b can =
    let f = both (is_empty (flavor_text b.id.flavor)) (is_empty b.refs && (is_empty b.requires_ && (is_empty b.provides && is_empty b.files))) can in
    let r = both (is_empty b.refs) (is_empty b.requires_ && (is_empty b.provides && is_empty b.files)) f.1 in
    let q = both (is_empty b.requires_) (is_empty b.provides && is_empty b.files) r.1 in
    let p = both (is_empty b.provides) (is_empty b.files) q.1 in
    record { flavor = f.0; refs = empty_is b.refs r.0; requires_ = empty_is b.requires_ q.0; provides = empty_is b.provides p.0; files = empty_is b.files p.1 }

flavor_added : (items : List (List ℕ)) (b : Body) (parts : Parts) (text line : List ℕ) → IsSoFar items b → can_have_flavor b ≡ true → IsFlavorField text parts → line ≡ codes "flavor " ++ text → IsLine line
    → IsSoFar (items ++ line ∷ []) (with_flavor b parts)
flavor_added items b parts text line so can is spelled fits =
    let are = so.0 in
    let lists = so.1 in
    let none = nothing_yet b can in
    let plain : items ≡ heads b.owners b.id.name are.version (five [] (map ref_line b.refs) are.requires_ are.provides (flat_map (entry_items b.owners) are.entries)) =
    subst (λ (l : List (List ℕ)). items ≡ heads b.owners b.id.name are.version (five l (map ref_line b.refs) are.requires_ are.provides (flat_map (entry_items b.owners) are.entries)))
    (no_flavor b.id.flavor are.flavor are.flavor_is none.flavor) are.spelled in (
      record {
        version = are.version;
        flavor = line ∷ [];
        requires_ = are.requires_;
        provides = are.provides;
        entries = are.entries;
        name_fits = are.name_fits;
        version_is = are.version_is;
        version_fits = are.version_fits;
        flavor_is = (text, is, spelled, fits);
        refs_fit = are.refs_fit;
        requires_are = are.requires_are;
        provides_are = are.provides_are;
        entries_are = are.entries_are;
        files_are = are.files_are;
        contents_are = are.contents_are;
        spelled = behind_heads b.owners b.id.name are.version items _ _ (line ∷ []) plain
            (to_flavor (map ref_line b.refs) are.requires_ are.provides (flat_map (entry_items b.owners) are.entries) (line ∷ [])
            (ap (map ref_line) none.refs) (no_dep_lines (codes "requires") b.requires_ are.requires_ are.requires_are none.requires_)
            (no_dep_lines (codes "provides") b.provides are.provides are.provides_are none.provides) (none_recorded b are.entries none.files are.files_are));
      },
      record {
        name = lists.name;
        kind = flavor_kind (kind_of_name b.id.name) b parts lists.kind;
        refs = lists.refs;
        requires_ = lists.requires_;
        provides = lists.provides;
        files = lists.files;
      },
    )

pub record RefAlone (kind : NameKind) (b : Body) (id : TroveId) : Type 0 where
  pub kept : KeepsToKind kind (with_ref b id)
  pub requires_ : b.requires_ ≡ []
  pub provides : b.provides ≡ []
  pub files : b.files ≡ []

ref_kind : (kind : NameKind) (b : Body) (id : TroveId) → is_group_kind kind ≡ true → KeepsToKind kind b → RefAlone kind b id
ref_kind Component b id is kept = absurd cc
ref_kind Package b id is kept = absurd cc
ref_kind Group b id is kept = record { kept = kept; requires_ = kept.0; provides = kept.1; files = kept.2 }

refer_is : (b : Body) (id : TroveId) → can_refer b id ≡ true → (is_group_kind (kind_of_name b.id.name) ≡ true) × (is_above id_cmp b.refs id ≡ true)
unfolding can_refer
refer_is b id can = both (is_group_kind (kind_of_name b.id.name)) (is_above id_cmp b.refs id) can

ref_added : (items : List (List ℕ)) (b : Body) (id : TroveId) (line : List ℕ) → IsSoFar items b → can_refer b id ≡ true → IsTroveId id → line ≡ ref_line id → IsLine line → IsSoFar (items ++ line ∷ []) (with_ref b id)
ref_added items b id line so can valid spelled fits =
    let are = so.0 in
    let lists = so.1 in
    let may = refer_is b id can in
    let alone = ref_kind (kind_of_name b.id.name) b id may.0 lists.kind in (
      record {
        version = are.version;
        flavor = are.flavor;
        requires_ = are.requires_;
        provides = are.provides;
        entries = are.entries;
        name_fits = are.name_fits;
        version_is = are.version_is;
        version_fits = are.version_fits;
        flavor_is = are.flavor_is;
        refs_fit = All-push (λ (x : TroveId). IsLine (ref_line x)) b.refs id are.refs_fit (subst IsLine spelled fits);
        requires_are = are.requires_are;
        provides_are = are.provides_are;
        entries_are = are.entries_are;
        files_are = are.files_are;
        contents_are = are.contents_are;
        spelled = behind_heads b.owners b.id.name are.version items _ _ (line ∷ []) are.spelled
            (to_refs are.flavor (map ref_line b.refs) are.requires_ are.provides (flat_map (entry_items b.owners) are.entries) (line ∷ [])
            (no_dep_lines (codes "requires") b.requires_ are.requires_ are.requires_are alone.requires_)
            (no_dep_lines (codes "provides") b.provides are.provides are.provides_are alone.provides) (none_recorded b are.entries alone.files are.files_are)
            ∙ ap (λ (l : List (List ℕ)). five are.flavor l are.requires_ are.provides (flat_map (entry_items b.owners) are.entries))
            (ap (λ (t : List ℕ). map ref_line b.refs ++ t ∷ []) spelled ∙ sym (map-append ref_line b.refs (id ∷ []))));
      },
      record {
        name = lists.name;
        kind = alone.kept;
        refs = rising_more IsTroveId id_total b.refs id lists.refs valid may.1;
        requires_ = lists.requires_;
        provides = lists.provides;
        files = lists.files;
      },
    )

requirement_kind : (kind : NameKind) (b : Body) (line : DepLine) → is_own_by kind b.id.name line.name ≡ true → KeepsToKind kind b → KeepsToKind kind (with_requirement b line)
requirement_kind Component b line own kept = kept
requirement_kind Package b line own kept = kept
requirement_kind Group b line own kept = absurd cc

provided_kind : (kind : NameKind) (b : Body) (line : DepLine) → is_own_by kind b.id.name line.name ≡ true → KeepsToKind kind b → KeepsToKind kind (with_provided b line)
provided_kind Component b line own kept = kept
provided_kind Package b line own kept = kept
provided_kind Group b line own kept = absurd cc

pub record MayRequire (b : Body) (line : DepLine) : Type 0 where
  pub own : is_own_by (kind_of_name b.id.name) b.id.name line.name ≡ true
  pub provides : b.provides ≡ []
  pub files : b.files ≡ []
  pub above : is_above dep_line_cmp b.requires_ line ≡ true

require_is : (b : Body) (line : DepLine) → can_require b line ≡ true → MayRequire b line
unfolding can_require
require_is b line can =
    let o = both (is_own_by (kind_of_name b.id.name) b.id.name line.name) (is_empty b.provides && (is_empty b.files && is_above dep_line_cmp b.requires_ line)) can in
    let p = both (is_empty b.provides) (is_empty b.files && is_above dep_line_cmp b.requires_ line) o.1 in
    let f = both (is_empty b.files) (is_above dep_line_cmp b.requires_ line) p.1 in
    record { own = o.0; provides = empty_is b.provides p.0; files = empty_is b.files f.0; above = f.1 }

pub record MayProvide (b : Body) (line : DepLine) : Type 0 where
  pub own : is_own_by (kind_of_name b.id.name) b.id.name line.name ≡ true
  pub files : b.files ≡ []
  pub above : is_above dep_line_cmp b.provides line ≡ true

provide_is : (b : Body) (line : DepLine) → can_provide b line ≡ true → MayProvide b line
unfolding can_provide
provide_is b line can =
    let o = both (is_own_by (kind_of_name b.id.name) b.id.name line.name) (is_empty b.files && is_above dep_line_cmp b.provides line) can in
    let f = both (is_empty b.files) (is_above dep_line_cmp b.provides line) o.1 in
    record { own = o.0; files = empty_is b.files f.0; above = f.1 }

requirement_added : (items : List (List ℕ)) (b : Body) (dep : DepLine) (line : List ℕ) → IsSoFar items b → can_require b dep ≡ true → is_name dep.name ≡ true → IsDepLine (codes "requires") dep line
    → IsSoFar (items ++ line ∷ []) (with_requirement b dep)
requirement_added items b dep line so can name is =
    let are = so.0 in
    let lists = so.1 in
    let may = require_is b dep can in (
      record {
        version = are.version;
        flavor = are.flavor;
        requires_ = are.requires_ ++ line ∷ [];
        provides = are.provides;
        entries = are.entries;
        name_fits = are.name_fits;
        version_is = are.version_is;
        version_fits = are.version_fits;
        flavor_is = are.flavor_is;
        refs_fit = are.refs_fit;
        requires_are = dep_lines_push (codes "requires") b.requires_ are.requires_ dep line are.requires_are is;
        provides_are = are.provides_are;
        entries_are = are.entries_are;
        files_are = are.files_are;
        contents_are = are.contents_are;
        spelled = behind_heads b.owners b.id.name are.version items _ _ (line ∷ []) are.spelled
            (to_requires are.flavor (map ref_line b.refs) are.requires_ are.provides (flat_map (entry_items b.owners) are.entries) (line ∷ [])
            (no_dep_lines (codes "provides") b.provides are.provides are.provides_are may.provides) (none_recorded b are.entries may.files are.files_are));
      },
      record {
        name = lists.name;
        kind = requirement_kind (kind_of_name b.id.name) b dep may.own lists.kind;
        refs = lists.refs;
        requires_ = rising_more (IsOwnLine b.id.name) dep_line_total b.requires_ dep lists.requires_ (name, may.own) may.above;
        provides = lists.provides;
        files = lists.files;
      },
    )

provided_added : (items : List (List ℕ)) (b : Body) (dep : DepLine) (line : List ℕ) → IsSoFar items b → can_provide b dep ≡ true → is_name dep.name ≡ true → IsDepLine (codes "provides") dep line
    → IsSoFar (items ++ line ∷ []) (with_provided b dep)
provided_added items b dep line so can name is =
    let are = so.0 in
    let lists = so.1 in
    let may = provide_is b dep can in (
      record {
        version = are.version;
        flavor = are.flavor;
        requires_ = are.requires_;
        provides = are.provides ++ line ∷ [];
        entries = are.entries;
        name_fits = are.name_fits;
        version_is = are.version_is;
        version_fits = are.version_fits;
        flavor_is = are.flavor_is;
        refs_fit = are.refs_fit;
        requires_are = are.requires_are;
        provides_are = dep_lines_push (codes "provides") b.provides are.provides dep line are.provides_are is;
        entries_are = are.entries_are;
        files_are = are.files_are;
        contents_are = are.contents_are;
        spelled = behind_heads b.owners b.id.name are.version items _ _ (line ∷ []) are.spelled
            (to_provides are.flavor (map ref_line b.refs) are.requires_ are.provides (flat_map (entry_items b.owners) are.entries) (line ∷ [])
            (none_recorded b are.entries may.files are.files_are));
      },
      record {
        name = lists.name;
        kind = provided_kind (kind_of_name b.id.name) b dep may.own lists.kind;
        refs = lists.refs;
        requires_ = lists.requires_;
        provides = rising_more (IsOwnLine b.id.name) dep_line_total b.provides dep lists.provides (name, may.own) may.above;
        files = lists.files;
      },
    )

-- ---- one entry more

-- with the entry that it spells
abbrev pub with_spelled : Body → Entry → Body
with_spelled b entry = record b { files = b.files ++ file_at entry ∷ []; contents = b.contents ++ contents_in entry }

entry_kind : (kind : NameKind) (b : Body) (entry : Entry) → not (is_group_kind kind) ≡ true → KeepsToKind kind b → KeepsToKind kind (with_spelled b entry)
entry_kind Component b entry is kept = kept
entry_kind Package b entry is kept = kept
entry_kind Group b entry is kept = absurd cc

record_is : (b : Body) (path : List ℕ) → can_record b path ≡ true → (not (is_group_kind (kind_of_name b.id.name)) ≡ true) × (is_above_path b.files path ≡ true)
unfolding can_record
record_is b path can = both (not (is_group_kind (kind_of_name b.id.name))) (is_above_path b.files path) can

entry_added : (items : List (List ℕ)) (b : Body) (entry : Entry) (path : List ℕ) (rec : FileRec) → IsSoFar items b → can_record b path ≡ true → file_at entry ≡ record { path = path; rec = rec } → IsEntry b.owners entry
    → IsSoFar (items ++ entry_items b.owners entry) (with_spelled b entry)
entry_added items b entry path rec so can at is =
    let are = so.0 in
    let lists = so.1 in
    let may = record_is b path can in (
      record {
        version = are.version;
        flavor = are.flavor;
        requires_ = are.requires_;
        provides = are.provides;
        entries = are.entries ++ entry ∷ [];
        name_fits = are.name_fits;
        version_is = are.version_is;
        version_fits = are.version_fits;
        flavor_is = are.flavor_is;
        refs_fit = are.refs_fit;
        requires_are = are.requires_are;
        provides_are = are.provides_are;
        entries_are = All-push (IsEntry b.owners) are.entries entry are.entries_are is;
        files_are = ap (λ (l : List FileAt). l ++ file_at entry ∷ []) are.files_are ∙ sym (map-append file_at are.entries (entry ∷ []));
        contents_are = ap (λ (l : List Carried). l ++ contents_in entry) are.contents_are
            ∙ ap (λ (l : List Carried). flat_map contents_in are.entries ++ l) (sym (append-nil (contents_in entry)))
            ∙ sym (flat_map-append contents_in are.entries (entry ∷ []));
        spelled = behind_heads b.owners b.id.name are.version items _ _ (entry_items b.owners entry) are.spelled
            (to_entries are.flavor (map ref_line b.refs) are.requires_ are.provides (flat_map (entry_items b.owners) are.entries) (entry_items b.owners entry)
            ∙ ap (λ (l : List (List ℕ)). five are.flavor (map ref_line b.refs) are.requires_ are.provides l)
            (ap (λ (l : List (List ℕ)). flat_map (entry_items b.owners) are.entries ++ l) (sym (append-nil (entry_items b.owners entry)))
            ∙ sym (flat_map-append (entry_items b.owners) are.entries (entry ∷ []))));
      },
      record {
        name = lists.name;
        kind = entry_kind (kind_of_name b.id.name) b entry may.0 lists.kind;
        refs = lists.refs;
        requires_ = lists.requires_;
        provides = lists.provides;
        files = rising_push file_total b.files (file_at entry) lists.files (ap (λ (f : FileAt). is_above file_cmp b.files f) at ∙ above_path_is b.files path rec ∙ may.1);
      },
    )

-- ---- items, one by one

pub record IsFileNext (b : Body) (line : FileLine) : Type 0 where
  pub path : is_path line.path ≡ true
  pub mode : line.mode ≤ 4095
  pub owner : IsOwnerHere b.owners line.owner
  pub size : line.size ≤ CONTENT_LIMIT
  pub can : can_record b line.path ≡ true
  pub fits : IsLine (file_line b.owners line.path line.mode line.owner line.flags line.size)

abbrev pub line_of_file : Bool → FileLine → List ℕ
line_of_file owners line = file_line owners line.path line.mode line.owner line.flags line.size

abbrev pub SoFar : List (List ℕ) → Progress → Type 0
SoFar items AtMagic = items ≡ []
SoFar items (AtName owners) = items ≡ magic_line owners ∷ []
SoFar items (AtVersion owners name) = (items ≡ magic_line owners ∷ name_line name ∷ []) × IsLine (name_line name) × (is_name name ≡ true)
SoFar items (InBody b) = IsSoFar items b
SoFar items (InContent b line) = (before : List (List ℕ)) × IsSoFar before b × (items ≡ before ++ line_of_file b.owners line ∷ []) × IsFileNext b line
SoFar items (InTarget b path) =
    (before : List (List ℕ)) × IsSoFar before b × (items ≡ before ++ link_line path ∷ []) × (is_path path ≡ true) × (can_record b path ≡ true) × IsLine (link_line path)
SoFar items (Ended b) = (before : List (List ℕ)) × IsSoFar before b × CanEnd b × (items ≡ before ++ codes "end" ∷ [])

first_kind : (kind : NameKind) (owners : Bool) (name : List ℕ) (version : WholeVersion) → KeepsToKind kind (body_of owners name version)
first_kind Component owners name version = refl
first_kind Package owners name version = refl
first_kind Group owners name version = (refl, refl, refl)

body_begins : (items : List (List ℕ)) (owners : Bool) (name field text : List ℕ) (version : WholeVersion) → items ≡ magic_line owners ∷ name_line name ∷ [] → IsLine (name_line name) → is_name name ≡ true
    → IsVersionField field version → text ≡ version_line field → IsLine text → IsSoFar (items ++ text ∷ []) (body_of owners name version)
body_begins items owners name field text version is name_fits name_is version_is spelled fits = (
  record {
    version = field;
    flavor = [];
    requires_ = [];
    provides = [];
    entries = [];
    name_fits = name_fits;
    version_is = version_is;
    version_fits = subst IsLine spelled fits;
    flavor_is = refl;
    refs_fit = All-nil (λ (x : TroveId). IsLine (ref_line x));
    requires_are = tt;
    provides_are = tt;
    entries_are = All-nil (IsEntry owners);
    files_are = refl;
    contents_are = refl;
    spelled = ap (λ (l : List (List ℕ)). l ++ text ∷ []) is ∙ ap (λ (t : List ℕ). magic_line owners ∷ name_line name ∷ t ∷ []) spelled;
  },
  record {
    name = name_is;
    kind = first_kind (kind_of_name name) owners name version;
    refs = rising_nil IsTroveId id_cmp;
    requires_ = rising_nil (IsOwnLine name) dep_line_cmp;
    provides = rising_nil (IsOwnLine name) dep_line_cmp;
    files = sorted_nil file_cmp;
  },
)

dep_line_is : (of fields line : List ℕ) (dep : DepLine) → IsDepFields fields dep → line ≡ of ++ 32 ∷ fields → IsLine line → IsDepLine of dep line × (is_name dep.name ≡ true)
dep_line_is of fields line dep is spelled fits =
    let t = dep_takes fields dep is in
    (record { text = t.0; is = t.1; spelled = spelled ∙ ap (λ (l : List ℕ). of ++ 32 ∷ l) t.3; fits = fits }, t.2)

word_added : (items : List (List ℕ)) (b : Body) (w : Word) (fields text : List ℕ) (q : Progress) → IsSoFar items b → text ≡ word_text w ++ 32 ∷ fields → IsLine text → IsWordLine b w fields q → SoFar (items ++ text ∷ []) q
word_added items b (word.Whole whole.Flavor) fields text q so spelled fits is =
    subst (λ (p : Progress). SoFar (items ++ text ∷ []) p) (sym is.3) (flavor_added items b is.0 fields text so is.2 is.1 spelled fits)
word_added items b (word.Whole whole.Ref) fields text q so spelled fits is =
    subst (λ (p : Progress). SoFar (items ++ text ∷ []) p) (sym is.3)
    (ref_added items b is.0 text so is.2 is.1.valid (spelled ∙ ap (λ (l : List ℕ). codes "ref " ++ l) is.1.spelled) fits)
word_added items b (word.Whole whole.Requires) fields text q so spelled fits is =
    let d = dep_line_is (codes "requires") fields text is.0 is.1 spelled fits in
    subst (λ (p : Progress). SoFar (items ++ text ∷ []) p) (sym is.3) (requirement_added items b is.0 text so is.2 d.1 d.0)
word_added items b (word.Whole whole.Provides) fields text q so spelled fits is =
    let d = dep_line_is (codes "provides") fields text is.0 is.1 spelled fits in
    subst (λ (p : Progress). SoFar (items ++ text ∷ []) p) (sym is.3) (provided_added items b is.0 text so is.2 d.1 d.0)
word_added items b (word.Whole whole.Dir) fields text q so spelled fits is =
    let line : DirLine = is.0 in
    let t = dir_takes b.owners fields line is.1 in
    let l : text ≡ dir_line b.owners line.path line.mode line.owner = spelled ∙ ap (λ (f : List ℕ). codes "dir " ++ f) t.spelled in
    let entry : Entry = DirEntry line.path line.mode line.owner in
    let added : IsSoFar (items ++ dir_line b.owners line.path line.mode line.owner ∷ []) (with_spelled b entry) =
    entry_added items b entry line.path (file_at entry).rec so is.2 refl (t.path, t.mode, t.owner, subst IsLine l fits) in
    let same : with_spelled b entry ≡ with_dir b line = ap (λ (c : List Carried). record b { files = b.files ++ file_at entry ∷ []; contents = c }) (append-nil b.contents) in
    subst (λ (p : Progress). SoFar (items ++ text ∷ []) p) (sym is.3)
    (subst (λ (c : Body). IsSoFar (items ++ text ∷ []) c) same
    (subst (λ (x : List ℕ). IsSoFar (items ++ x ∷ []) (with_spelled b entry)) (sym l) added))
word_added items b word.File fields text q so spelled fits is =
    let line : FileLine = is.0 in
    let next = file_next_takes b fields line is.1 in
    let t = file_takes b.owners fields line next.0 in
    let l : text ≡ line_of_file b.owners line = spelled ∙ ap (λ (f : List ℕ). codes "file " ++ f) t.spelled in
    subst (λ (p : Progress). SoFar (items ++ text ∷ []) p) (sym is.3) (
      items,
      so,
      ap (λ (x : List ℕ). items ++ x ∷ []) l,
      record {
        path = t.path;
        mode = t.mode;
        owner = t.owner;
        size = leb-true line.size CONTENT_LIMIT is.2;
        can = next.1;
        fits = subst IsLine l fits;
      },
    )
word_added items b word.Link fields text q so spelled fits is =
    let t = path_takes b fields is.0 is.1 in
    let l : text ≡ link_line is.0 = spelled ∙ ap (λ (f : List ℕ). codes "link " ++ f) t.0 in
    subst (λ (p : Progress). SoFar (items ++ text ∷ []) p) (sym is.3)
    (items, so, ap (λ (x : List ℕ). items ++ x ∷ []) l, t.1, t.2, subst IsLine l fits)

two : (before items : List (List ℕ)) (x y : List ℕ) → items ≡ before ++ x ∷ [] → items ++ y ∷ [] ≡ before ++ x ∷ y ∷ []
two before items x y is = ap (λ (l : List (List ℕ)). l ++ y ∷ []) is ∙ append_assoc before (x ∷ []) (y ∷ [])

item_added : (items : List (List ℕ)) (p : Progress) (text : List ℕ) (q : Progress) → SoFar items p → IsNext p text q → SoFar (items ++ text ∷ []) q
item_added items AtMagic text q so next =
    subst (λ (r : Progress). SoFar (items ++ text ∷ []) r) (sym next.item.3)
    (ap (λ (l : List (List ℕ)). l ++ text ∷ []) so ∙ ap (λ (t : List ℕ). t ∷ []) (magic_takes text next.item.0 next.item.1))
item_added items (AtName owners) text q so next =
    let t = name_takes text next.item.0 next.item.1 in
    subst (λ (r : Progress). SoFar (items ++ text ∷ []) r) (sym next.item.3)
    (ap (λ (l : List (List ℕ)). l ++ text ∷ []) so ∙ ap (λ (x : List ℕ). magic_line owners ∷ x ∷ []) t.0, subst IsLine t.0 next.fits, t.1)
item_added items (AtVersion owners name) text q so next =
    let t = version_takes text next.item.0 next.item.1 in
    subst (λ (r : Progress). SoFar (items ++ text ∷ []) r) (sym next.item.3)
    (body_begins items owners name t.0 text next.item.0 so.0 so.1 so.2 t.1 t.2 next.fits)
item_added items (InBody b) text q so next = body_line next.item
  where
    body_line : IsBodyLine b text q → SoFar (items ++ text ∷ []) q
    body_line (inl end) = subst (λ (r : Progress). SoFar (items ++ text ∷ []) r) (sym end.2) (items, so, end.1, ap (λ (t : List ℕ). items ++ t ∷ []) end.0)
    body_line (inr more) = word_added items b more.0 more.1 text q so (word_takes text more.0 more.1 more.2) next.fits more.3
item_added items (InContent b line) content q so next =
    let is = so.3 in
    let entry : Entry = FileEntry line.path line.mode line.owner line.flags content in
    let long : length content ≡ line.size = next.item.0 in
    let lines : line_of_file b.owners line ≡ file_line b.owners line.path line.mode line.owner line.flags (length content) =
    ap (file_line b.owners line.path line.mode line.owner line.flags) (sym long) in
    let small : length content ≤ CONTENT_LIMIT = subst (λ (n : ℕ). n ≤ CONTENT_LIMIT) (sym long) is.size in
    let added : IsSoFar (so.0 ++ entry_items b.owners entry) (with_spelled b entry) =
    entry_added so.0 b entry line.path (file_at entry).rec so.1 is.can refl (is.path, is.mode, is.owner, small, subst IsLine lines is.fits) in
    let spelled : items ++ content ∷ [] ≡ so.0 ++ entry_items b.owners entry = two so.0 items (line_of_file b.owners line) content so.2 ∙ ap (λ (x : List ℕ). so.0 ++ x ∷ content ∷ []) lines in
    let same : with_spelled b entry ≡ with_file b line content =
    ap (λ (n : ℕ). record b { files = b.files ++ record { path = line.path; rec = rec.File line.mode line.owner line.flags n (sha1 content) } ∷ []; contents = b.contents ++ record { name = sha1 content; bytes = content } ∷ [] }) long in
    subst (λ (r : Progress). SoFar (items ++ content ∷ []) r) (sym next.item.1)
    (subst (λ (c : Body). IsSoFar (items ++ content ∷ []) c) same (subst (λ (l : List (List ℕ)). IsSoFar l (with_spelled b entry)) (sym spelled) added))
item_added items (InTarget b path) text q so next =
    let target = next.item.0 in
    let t = target_takes text target next.item.1 in
    let entry : Entry = LinkEntry path target in
    let added : IsSoFar (so.0 ++ entry_items b.owners entry) (with_spelled b entry) =
    entry_added so.0 b entry path (file_at entry).rec so.1 so.4 refl (so.3, t.1, so.5, subst IsLine t.0 next.fits) in
    let spelled : items ++ text ∷ [] ≡ so.0 ++ entry_items b.owners entry = two so.0 items (link_line path) text so.2 ∙ ap (λ (x : List ℕ). so.0 ++ link_line path ∷ x ∷ []) t.0 in
    let same : with_spelled b entry ≡ with_link b path target = ap (λ (c : List Carried). record b { files = b.files ++ file_at entry ∷ []; contents = c }) (append-nil b.contents) in
    subst (λ (r : Progress). SoFar (items ++ text ∷ []) r) (sym next.item.3)
    (subst (λ (c : Body). IsSoFar (items ++ text ∷ []) c) same (subst (λ (l : List (List ℕ)). IsSoFar l (with_spelled b entry)) (sym spelled) added))
item_added items (Ended b) text q so next = absurd next.item

pub all_added : (items : List (List ℕ)) (p : Progress) (texts : List (List ℕ)) (q : Progress) → SoFar items p → Lead p texts q → SoFar (items ++ texts) q
all_added items p [] q so lead = subst (λ (r : Progress). SoFar (items ++ []) r) lead (subst (λ (l : List (List ℕ)). SoFar l p) (sym (append-nil items)) so)
all_added items p (text ∷ texts) q so lead =
    subst (λ (l : List (List ℕ)). SoFar l q) (append_assoc items (text ∷ []) texts)
    (all_added (items ++ text ∷ []) lead.0 texts q (item_added items p text lead.0 so lead.1) lead.2)

pub manifest_spelled : (bytes : List ℕ) (b : Body) → IsManifest bytes b → IsSpelling bytes b
manifest_spelled bytes b is =
    let all = all_added [] AtMagic is.texts (Ended b) refl is.good in
    record { items = all.0; are = all.1.0; lists = all.1.1; troves = all.2; spelled = is.spelled ∙ ap (flat_map with_feed) all.3 }
