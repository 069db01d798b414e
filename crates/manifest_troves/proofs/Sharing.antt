-- The shares of a package's components, when all lines are taken.
use Rattle.std.proofs.Common.{◌≡◌, ℕ, Bool, true, false, cond, ◌||◌, List, [], ◌∷◌, ◌++◌, map, Option, Some, None, refl, sym, ap, subst, ◌∙◌, append_assoc, append-nil}
use Rattle.std.specs.BTreeMap.{BTreeMap, IsOrdered, is_at, keys}
use Rattle.std.specs.List.{fold, filter, list_any}
use Rattle.std.specs.List.Sorted.{IsStrictlySortedBy}
use Rattle.std.specs.Map.{lookup, keys_of}
use Rattle.std.specs.Option.{unwrap_or}
use Rattle.std.specs.Ordering.{is_eq}
use Rattle.std.specs.Str.{bytes_eq}
use Rattle.std.proofs.lemmas.Bool.{true≢false}
use Rattle.std.proofs.lemmas.Grind.{fold-append}
use Rattle.cny_dep.specs.Dep.{Dependency}
use Rattle.change_set.specs.trove-parts.declared.files.FileAt.{FileAt}
use Rattle.change_set.specs.trove-stream.declared.parts.TroveParts.{TroveParts}
use Rattle.manifest_troves.specs.declared.lines.DepLine.{DepLine}
use Rattle.manifest_troves.specs.declared.lines.TroveLines.{TroveLines}
use Rattle.manifest_troves.specs.declared.lines.DepKind.{DepKind}
use Rattle.manifest_troves.specs.declared.lines.DepKind.TheVariants.{Requires, Provides}
use Rattle.manifest_troves.specs.Shares.{Shared, no_share, plus_file, plus_dep, share_at, plus_if, with_files, with_deps, share_of, named_trove}
use Rattle.manifest_troves.specs.Troves.{entry_component, name_of_line, with_names, names_used, component_names, deps_of, falls_to, is_of, component_trove}
use Rattle.manifest_troves.proofs.Names.{by_bytes, same_test, turned_bytes, names_sorted, none_sorted, has, has_names, has_mapped, or_true}
use Rattle.manifest_troves.proofs.Alike.{same_entries}
use Rattle.change_set.proofs.cny-base.ByteLists.{bytes_mean as bytes_are}
use Rattle.change_set.proofs.cny-base.Bools.{first_false, or_false, second_false}

-- ---- elements that are taken, one after the other

-- a share that is there, or none
abbrev put : Bool → Shared → Option Shared
put true s = Some s
put false s = None

unwrapped : (b : Bool) (s : Shared) → (b ≡ false → s ≡ no_share) → unwrap_or (put b s) no_share ≡ s
unwrapped true s none = refl
unwrapped false s none = sym (none refl)

module _ {A : Type 0} (plus : Shared → A → Shared) (test : A → Bool) where
  abbrev take_one : Option Shared → A → Option Shared
  take_one share x = plus_if plus (test x) x share

  folded : (xs : List A) (b : Bool) (s : Shared) → (b ≡ false → s ≡ no_share) → fold take_one (put b s) xs ≡ put (b || list_any test xs) (fold plus s (filter test xs))
  folded [] b s none = ap (λ (c : Bool). put c s) (sym (or_false b))
  folded (x ∷ xs) b s none = at (test x) (folded xs true (plus s x) (λ e. absurd (true≢false e))) (folded xs b s none)
    where
      at : (t : Bool) → fold take_one (put true (plus s x)) xs ≡ put (true || list_any test xs) (fold plus (plus s x) (filter test xs)) → fold take_one (put b s) xs ≡ put (b || list_any test xs) (fold plus s (filter test xs))
          → fold take_one (plus_if plus t x (put b s)) xs ≡ put (b || (t || list_any test xs)) (fold plus s (cond t (x ∷ filter test xs) (filter test xs)))
      at true taken left =
          ap (λ (o : Shared). fold take_one (Some (plus o x)) xs) (unwrapped b s none)
          ∙ taken
          ∙ ap (λ (c : Bool). put c (fold plus (plus s x) (filter test xs))) (sym (or_true b))
      at false taken left = left

  kept_none : (xs : List A) (b : Bool) (s : Shared) → (b ≡ false → s ≡ no_share) → (b || list_any test xs) ≡ false → fold plus s (filter test xs) ≡ no_share
  kept_none [] b s none e = none (first_false b false e)
  kept_none (x ∷ xs) b s none e = at (test x) refl (λ later. kept_none xs b s none later)
    where
      at : (t : Bool) → test x ≡ t → ((b || list_any test xs) ≡ false → fold plus s (filter test xs) ≡ no_share) → fold plus s (cond t (x ∷ filter test xs) (filter test xs)) ≡ no_share
      at true is left = absurd (true≢false (sym is ∙ first_false (test x) (list_any test xs) (second_false b (test x || list_any test xs) e)))
      at false is left = left (ap (λ (c : Bool). b || (c || list_any test xs)) (sym is) ∙ e)

-- ---- what a share has then

files_in : (s : Shared) (files : List FileAt) → fold plus_file s files ≡ record { files = s.files ++ files; requires_ = s.requires_; provides = s.provides }
files_in s [] = ap (λ (l : List FileAt). record { files = l; requires_ = s.requires_; provides = s.provides }) (sym (append-nil s.files))
files_in s (file ∷ files) =
    files_in (plus_file s file) files
    ∙ ap (λ (l : List FileAt). record { files = l; requires_ = s.requires_; provides = s.provides }) (append_assoc s.files (file ∷ []) files)

abbrev plus_line : DepKind → Shared → DepLine → Shared
plus_line kind s line = plus_dep kind s line.dep

required_in : (s : Shared) (lines : List DepLine) → fold (plus_line Requires) s lines ≡ record { files = s.files; requires_ = s.requires_ ++ deps_of lines; provides = s.provides }
required_in s [] = ap (λ (l : List Dependency). record { files = s.files; requires_ = l; provides = s.provides }) (sym (append-nil s.requires_))
required_in s (line ∷ lines) =
    required_in (plus_dep Requires s line.dep) lines
    ∙ ap (λ (l : List Dependency). record { files = s.files; requires_ = l; provides = s.provides }) (append_assoc s.requires_ (line.dep ∷ []) (deps_of lines))

provided_in : (s : Shared) (lines : List DepLine) → fold (plus_line Provides) s lines ≡ record { files = s.files; requires_ = s.requires_; provides = s.provides ++ deps_of lines }
provided_in s [] = ap (λ (l : List Dependency). record { files = s.files; requires_ = s.requires_; provides = l }) (sym (append-nil s.provides))
provided_in s (line ∷ lines) =
    provided_in (plus_dep Provides s line.dep) lines
    ∙ ap (λ (l : List Dependency). record { files = s.files; requires_ = s.requires_; provides = l }) (append_assoc s.provides (line.dep ∷ []) (deps_of lines))

module _ (whole : List ℕ) (files : List FileAt) (requires_ provides : List DepLine) where
  -- the share of a name
  abbrev pub shared : List ℕ → Shared
  shared name =
      record {
        files = filter (falls_to whole name) files;
        requires_ = deps_of (filter (is_of name) requires_);
        provides = deps_of (filter (is_of name) provides);
      }

  abbrev pub used : List ℕ → Bool
  used name = (list_any (falls_to whole name) files || list_any (is_of name) requires_) || list_any (is_of name) provides

  shared_is : (name : List ℕ) → fold (plus_line Provides) (fold (plus_line Requires) (fold plus_file no_share (filter (falls_to whole name) files)) (filter (is_of name) requires_)) (filter (is_of name) provides) ≡ shared name
  shared_is name =
      ap (λ (s : Shared). fold (plus_line Provides) (fold (plus_line Requires) s (filter (is_of name) requires_)) (filter (is_of name) provides)) (files_in no_share (filter (falls_to whole name) files))
      ∙ ap (λ (s : Shared). fold (plus_line Provides) s (filter (is_of name) provides)) (required_in (record { files = filter (falls_to whole name) files; requires_ = []; provides = [] }) (filter (is_of name) requires_))
      ∙ provided_in (record { files = filter (falls_to whole name) files; requires_ = deps_of (filter (is_of name) requires_); provides = [] }) (filter (is_of name) provides)

  share_is : (name : List ℕ) → share_of whole files requires_ provides name ≡ put (used name) (shared name)
  share_is name =
      let in_files : Bool = list_any (falls_to whole name) files in
      let in_required : Bool = list_any (is_of name) requires_ in
      let first : Shared = fold plus_file no_share (filter (falls_to whole name) files) in
      let second : Shared = fold (plus_line Requires) first (filter (is_of name) requires_) in
      let no_first : in_files ≡ false → first ≡ no_share = λ e. kept_none plus_file (falls_to whole name) files false no_share (λ _. refl) e in
      let no_second : (in_files || in_required) ≡ false → second ≡ no_share = λ e. kept_none (plus_line Requires) (is_of name) requires_ in_files first no_first e in
      ap (λ (o : Option Shared). with_deps Provides name (with_deps Requires name o requires_) provides) (folded plus_file (falls_to whole name) files false no_share (λ _. refl))
      ∙ ap (λ (o : Option Shared). with_deps Provides name o provides) (folded (plus_line Requires) (is_of name) requires_ in_files first no_first)
      ∙ folded (plus_line Provides) (is_of name) provides (in_files || in_required) second no_second
      ∙ ap (put (used name)) (shared_is name)

  -- ---- whose shares there are

  pub used_is : (name : List ℕ) → has name (names_used whole files requires_ provides) ≡ used name
  used_is name =
      has_names name (with_names (with_names [] (map (entry_component whole) files)) (map name_of_line requires_)) (map name_of_line provides)
      ∙ ap (λ (b : Bool). b || has name (map name_of_line provides)) (has_names name (with_names [] (map (entry_component whole) files)) (map name_of_line requires_)
      ∙ ap (λ (b : Bool). b || has name (map name_of_line requires_)) (has_names name [] (map (entry_component whole) files) ∙ has_mapped (entry_component whole) name files))
      ∙ ap (λ (b : Bool). (list_any (falls_to whole name) files || b) || has name (map name_of_line provides)) (has_mapped name_of_line name requires_)
      ∙ ap (λ (b : Bool). (list_any (falls_to whole name) files || list_any (is_of name) requires_) || b) (has_mapped name_of_line name provides)

pub used_sorted : (whole : List ℕ) (files : List FileAt) (requires_ provides : List DepLine) → IsStrictlySortedBy by_bytes (names_used whole files requires_ provides)
used_sorted whole files requires_ provides =
    names_sorted (with_names (with_names [] (map (entry_component whole) files)) (map name_of_line requires_)) (map name_of_line provides)
    (names_sorted (with_names [] (map (entry_component whole) files)) (map name_of_line requires_) (names_sorted [] (map (entry_component whole) files) none_sorted))

-- ---- entries by their names

abbrev pub named : {X : Type 0} → (List ℕ → X) → List (List ℕ) → List (List ℕ × X)
named {X} f names = map {B = List ℕ × X} (λ (n : List ℕ). (n, f n)) names

named_keys : {X : Type 0} (f : List ℕ → X) (names : List (List ℕ)) → keys_of (named f names) ≡ names
named_keys f [] = refl
named_keys f (n ∷ names) = ap (λ (l : List (List ℕ)). n ∷ l) (named_keys f names)

named_found : (f : List ℕ → Shared) (q : List ℕ) (names : List (List ℕ)) → lookup (is_at (by_bytes q)) (named f names) ≡ put (has q names) (f q)
named_found f q [] = refl
named_found f q (n ∷ names) = at (bytes_eq q n) refl (named_found f q names)
  where
    at : (b : Bool) → bytes_eq q n ≡ b → lookup (is_at (by_bytes q)) (named f names) ≡ put (has q names) (f q) → cond (is_eq (by_bytes q n)) (Some (f n)) (lookup (is_at (by_bytes q)) (named f names)) ≡ put (bytes_eq n q || has q names) (f q)
    at true e later =
        let same : q ≡ n = bytes_are q n e in
        rw (sym (same_test q n) ∙ e) (rw (turned_bytes q n true e) (ap (λ (k : List ℕ). Some (f k)) (sym same)))
    at false e later = rw (sym (same_test q n) ∙ e) (rw (turned_bytes q n false e) later)

-- the entries of the shares, when all lines are taken
pub entries_are : (whole : List ℕ) (files : List FileAt) (requires_ provides : List DepLine) (m : BTreeMap (List ℕ) Shared) → IsOrdered by_bytes m
    → ((name : List ℕ) → share_at m name ≡ share_of whole files requires_ provides name)
    → m.entries ≡ named (shared whole files requires_ provides) (names_used whole files requires_ provides)
entries_are whole files requires_ provides m ordered is =
    let names : List (List ℕ) = names_used whole files requires_ provides in
    let f : List ℕ → Shared = shared whole files requires_ provides in
    same_entries m.entries (named f names) ordered
    (subst (IsStrictlySortedBy by_bytes) (sym (named_keys f names)) (used_sorted whole files requires_ provides))
    (λ q. is q ∙ share_is whole files requires_ provides q ∙ ap (λ (b : Bool). put b (f q)) (sym (used_is whole files requires_ provides q)) ∙ sym (named_found f q names))

-- ---- the components of these shares

pub keys_are : (l : TroveLines) (m : BTreeMap (List ℕ) Shared) → m.entries ≡ named (shared l.id.name l.files l.requires_ l.provides) (component_names l) → keys m ≡ component_names l
keys_are l m is = ap keys_of is ∙ named_keys (shared l.id.name l.files l.requires_ l.provides) (component_names l)

mapped : (l : TroveLines) (names : List (List ℕ)) → map (named_trove l.id) (named (shared l.id.name l.files l.requires_ l.provides) names) ≡ map (component_trove l) names
mapped l [] = refl
mapped l (n ∷ names) = ap (λ (ts : List TroveParts). component_trove l n ∷ ts) (mapped l names)

pub components_are : (l : TroveLines) (m : BTreeMap (List ℕ) Shared) → m.entries ≡ named (shared l.id.name l.files l.requires_ l.provides) (component_names l)
    → map (named_trove l.id) m.entries ≡ map (component_trove l) (component_names l)
components_are l m is = ap (map (named_trove l.id)) is ∙ mapped l (component_names l)

-- ---- one line more

pub files_more : (whole name : List ℕ) (share : Option Shared) (files : List FileAt) (file : FileAt)
    → with_files whole name share (files ++ file ∷ []) ≡ plus_if plus_file (falls_to whole name file) file (with_files whole name share files)
files_more whole name share files file = fold-append (λ (s : Option Shared) (f : FileAt). plus_if plus_file (falls_to whole name f) f s) share files (file ∷ [])

pub deps_more : (kind : DepKind) (name : List ℕ) (share : Option Shared) (lines : List DepLine) (line : DepLine)
    → with_deps kind name share (lines ++ line ∷ []) ≡ plus_if (plus_dep kind) (is_of name line) line.dep (with_deps kind name share lines)
deps_more kind name share lines line = fold-append (λ (s : Option Shared) (l : DepLine). plus_if (plus_dep kind) (is_of name l) l.dep s) share lines (line ∷ [])

-- a share that was taken out and put back with one more
pub put_back : {A : Type 0} (plus : Shared → A → Shared) (name other : List ℕ) (x : A) (after between before own : Option Shared) (s : Shared)
    → after ≡ cond (is_at (by_bytes name) other) (Some s) between → between ≡ cond (is_at (by_bytes name) other) None before → s ≡ plus (unwrap_or own no_share) x → (name ≡ other → own ≡ before)
    → after ≡ plus_if plus (bytes_eq name other) x before
put_back {A} plus name other x after between before own s put taken is same = at (bytes_eq name other) refl
  where
    at : (b : Bool) → bytes_eq name other ≡ b → after ≡ plus_if plus (bytes_eq name other) x before
    at true e =
        put ∙ ap (λ (b : Bool). cond b (Some s) between) (sym (same_test name other) ∙ e)
        ∙ ap (λ (t : Shared). Some t) (is ∙ ap (λ (o : Option Shared). plus (unwrap_or o no_share) x) (same (bytes_are name other e)))
        ∙ sym (ap (λ (b : Bool). plus_if plus b x before) e)
    at false e =
        put ∙ ap (λ (b : Bool). cond b (Some s) between) (sym (same_test name other) ∙ e)
        ∙ taken ∙ ap (λ (b : Bool). cond b None before) (sym (same_test name other) ∙ e)
        ∙ sym (ap (λ (b : Bool). plus_if plus b x before) e)
