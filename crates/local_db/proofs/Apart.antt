-- Files at paths of their own, and directories that are shared.
use Rattle.std.proofs.Common.{◌≡◌, ◌⊎◌, ⊎_elim, ℕ, ◌+◌, ◌<◌, Bool, true, false, cond, not, ◌||◌, ◌&&◌, IsTrue, List, [], ◌∷◌, ◌++◌, length, take, get_or, Option, Some, None, All, refl, sym, ◌∙◌, ap, subst, arith, append_assoc}
use Rattle.std.specs.List.{AllPairs}
use Rattle.std.specs.Ordering.{nat_cmp, is_eq}
use Rattle.std.specs.Cmp.Lexicographic.{slice_cmp}
use Rattle.std.specs.Str.{bytes_eq}
use Rattle.std.specs.declared.cmp.Ordering.TheVariants.{Less}
use Rattle.std.proofs.lemmas.Bool.{cases_Bool, false≢true, and_from}
use Rattle.std.proofs.lemmas.List.{flat_map_more, get_or_default, get_or-take, length-take, take_more}
use Rattle.std.proofs.lemmas.List.Elements.{All-append, All-cons, All-contains, All-head, All-more, All-nil, All-push, All-tail, Contains-append_left, Contains-push}
use Rattle.std.proofs.lemmas.List.Quantifiers.{all_pairs_push}
use Rattle.std.proofs.lemmas.Map.Keys.{Less-from_sorted}
use Rattle.std.proofs.lemmas.Slice.Eq.{bytes_eq-Decides}
use Rattle.trove_stream.specs.cny-stream.Record.{is_dir}
use Rattle.trove_stream.specs.trove-parts.declared.files.FileAt.{FileAt}
use Rattle.trove_stream.specs.trove-parts.Files.{file_cmp, AreFiles}
use Rattle.trove_stream.specs.declared.parts.TroveParts.{TroveParts}
use Rattle.tree_journal.specs.tree-disk.Laws.{same_means}
use Rattle.tree_journal.proofs.tree-disk.Laws.{same_itself}
use Rattle.tree_journal.specs.tree-disk.Tree.{Name, same_name}
use Rattle.local_db.specs.Installed.{are_apart, SharesDirsAlone}
use Rattle.local_db.specs.Sharing.{Kinds, kind_at, Records, AreNoted, IsApart, AreApart}
use Rattle.trove_stream.specs.FilesOf.{files_of}
use Rattle.trove_stream.proofs.cny-base.Lists.{all_from as all_of, left_all, right_all}
use Rattle.trove_stream.proofs.cny-base.OptionValues.{same_some}

-- ---- lists

-- ---- two files

pub both_dirs : (b x y : Bool) → IsTrue (not b || (x && y)) → b ≡ true → (x ≡ true) × (y ≡ true)
both_dirs true true true h is = (refl, refl)
both_dirs true true false h is = absurd (false≢true h)
both_dirs true false y h is = absurd (false≢true h)
both_dirs false x y h is = absurd (false≢true is)

pub dirs_apart : (b x y : Bool) → (b ≡ true → (x ≡ true) × (y ≡ true)) → IsTrue (not b || (x && y))
dirs_apart false x y h = refl
dirs_apart true x y h = and_from x y (h refl).0 (h refl).1

pub apart_when : (other file : FileAt) → (other.path ≡ file.path → (is_dir other.rec ≡ true) × (is_dir file.rec ≡ true)) → IsTrue (are_apart other file)
apart_when other file both = dirs_apart (bytes_eq other.path file.path) (is_dir other.rec) (is_dir file.rec) (λ same. both ((bytes_eq-Decides other.path file.path).0 same))

pub when_apart : (other file : FileAt) → IsTrue (are_apart other file) → other.path ≡ file.path → (is_dir other.rec ≡ true) × (is_dir file.rec ≡ true)
when_apart other file apart same = both_dirs (bytes_eq other.path file.path) (is_dir other.rec) (is_dir file.rec) apart ((bytes_eq-Decides other.path file.path).1 same)

-- ---- the map

pub none_some : {A : Type 0} (o : Option A) (x : A) → o ≡ None → o ≡ Some x → ⊥
none_some o x none some = absurd (cc (none, some))

module _ (before : List FileAt) (kinds : Kinds) (file : FileAt) (noted : AreNoted before kinds) where
  pub apart_dirs : kind_at kinds file.path ≡ Some true → is_dir file.rec ≡ true → IsApart before file
  apart_dirs some dir = all_of (λ other. IsTrue (are_apart other file)) before
      (λ other in'. apart_when other file (λ same. (All-contains (λ f. f.path ≡ file.path → is_dir f.rec ≡ true) before other (noted.dirs file.path some) in' same, dir)))

  pub dirs_of_apart : (kind : Bool) → kind_at kinds file.path ≡ Some kind → IsApart before file → (kind ≡ true) × (is_dir file.rec ≡ true)
  dirs_of_apart kind some apart =
      let one = noted.some file.path kind some in
      let both = when_apart one.file file (All-contains (λ other. IsTrue (are_apart other file)) before one.file apart one.in_files) one.at_path in
      (sym one.of_kind ∙ both.0, both.1)

  module _ (new : Kinds) (updated : (q : Name) → kind_at new q ≡ cond (same_name file.path q) (Some (is_dir file.rec)) (kind_at kinds q)) where
    here : (q : Name) → same_name file.path q ≡ true → kind_at new q ≡ Some (is_dir file.rec)
    here q same = updated q ∙ ap (λ b. cond b (Some (is_dir file.rec)) (kind_at kinds q)) same

    there : (q : Name) → same_name file.path q ≡ false → kind_at new q ≡ kind_at kinds q
    there q other = updated q ∙ ap (λ b. cond b (Some (is_dir file.rec)) (kind_at kinds q)) other

    elsewhere : (q : Name) → same_name file.path q ≡ false → file.path ≡ q → ⊥
    elsewhere q other same = false≢true (sym other ∙ ap (same_name file.path) (sym same) ∙ same_itself file.path)

    pub add_noted : (kind_at kinds file.path ≡ None) ⊎ (kind_at kinds file.path ≡ Some true) → AreNoted (before ++ file ∷ []) new
    add_noted prior = record {
      none = λ q none. ⊎_elim
          (λ same. absurd (none_some (kind_at new q) (is_dir file.rec) none (here q same)))
          (λ other. All-push (λ f. f.path ≡ q → ⊥) before file (noted.none q (sym (there q other) ∙ none)) (elsewhere q other))
          (cases_Bool (same_name file.path q));
      some = λ q kind some. ⊎_elim
          (λ same. record {
            file = file;
            in_files = Contains-push before file;
            at_path = same_means file.path q same;
            of_kind = same_some (is_dir file.rec) kind (sym (here q same) ∙ some);
          })
          (λ other. earlier q kind (noted.some q kind (sym (there q other) ∙ some)))
          (cases_Bool (same_name file.path q));
      dirs = λ q some. ⊎_elim
          (λ same. All-push (λ f. f.path ≡ q → is_dir f.rec ≡ true) before file (dirs_before q (same_means file.path q same)) (λ _. same_some (is_dir file.rec) true (sym (here q same) ∙ some)))
          (λ other. All-push (λ f. f.path ≡ q → is_dir f.rec ≡ true) before file (noted.dirs q (sym (there q other) ∙ some)) (λ at. absurd (elsewhere q other at)))
          (cases_Bool (same_name file.path q));
    }
      where
        earlier : (q : Name) (kind : Bool) → Records before q kind → Records (before ++ file ∷ []) q kind
        earlier q kind r = record { file = r.file; in_files = Contains-append_left before (file ∷ []) r.file r.in_files; at_path = r.at_path; of_kind = r.of_kind }

        dirs_before : (q : Name) → file.path ≡ q → All (λ f. f.path ≡ q → is_dir f.rec ≡ true) before
        dirs_before q at = ⊎_elim
            (λ none. all_of (λ f. f.path ≡ q → is_dir f.rec ≡ true) before
            (λ f in' same. absurd (All-contains (λ f. f.path ≡ file.path → ⊥) before f (noted.none file.path none) in' (same ∙ sym at))))
            (λ some. subst (λ (n : Name). All (λ f. f.path ≡ n → is_dir f.rec ≡ true) before) at (noted.dirs file.path some))
            prior

-- the elements up to a place, with the one there
front : {A : Type 0} (xs : List A) (k : ℕ) (x : A) → k < length xs → x ≡ get_or xs k x → take k xs ++ x ∷ [] ≡ take (k + 1) xs
front {A} xs k x within is = ap (λ (y : A). take k xs ++ y ∷ []) is ∙ sym (take_more xs k x within)

-- ---- the files of one trove

abbrev pub AddedFiles : List FileAt → ℕ → Kinds → Kinds → Type 0
AddedFiles files count old new = (before : List FileAt) → AreNoted before old → AreNoted (before ++ take count files) new × AreApart before (take count files)

module _ (files : List FileAt) (k : ℕ) (file : FileAt) (within : k < length files) (is : file ≡ get_or files k file) where
  pub next_added : (before : List FileAt) (new : Kinds) → AreApart before (take k files) → IsApart (before ++ take k files) file → AreNoted ((before ++ take k files) ++ file ∷ []) new
      → AreNoted (before ++ take (k + 1) files) new × AreApart before (take (k + 1) files)
  next_added before new so_far apart noted = (
    subst (λ (l : List FileAt). AreNoted l new) (append_assoc before (take k files) (file ∷ []) ∙ ap (λ (l : List FileAt). before ++ l) (front files k file within is)) noted,
    All-more (IsApart before) files k file within so_far (subst (IsApart before) is (left_all (λ other. IsTrue (are_apart other file)) before (take k files) apart)),
  )

  pub apart_whole : (before : List FileAt) → AreFiles files → AreApart before files → IsApart (before ++ take k files) file
  apart_whole before rising apart =
      All-append (λ other. IsTrue (are_apart other file)) before (take k files)
      (subst (IsApart before) (sym is) (apart k file within))
      (λ i d lt. apart_when (get_or (take k files) i d) file (λ same. absurd (differ i d lt same)))
    where
      differ : (i : ℕ) (d : FileAt) → i < length (take k files) → (get_or (take k files) i d).path ≡ file.path → ⊥
      differ i d lt same =
          let below : i < k = omega (arith, lt, length-take k files) in
          let less : file_cmp (get_or files i d) (get_or files k d) ≡ Less = Less-from_sorted file_cmp files i k d rising.rising below within in
          let low : get_or (take k files) i d ≡ get_or files i d = get_or-take k files i d below in
          let high : file ≡ get_or files k d = is ∙ get_or_default files k file d within in
          let equal : (get_or files i d).path ≡ (get_or files k d).path = ap (λ (f : FileAt). f.path) (sym low) ∙ same ∙ ap (λ (f : FileAt). f.path) high in
          false≢true (sym (ap is_eq less) ∙ ap (λ (n : Name). is_eq (slice_cmp nat_cmp n (get_or files k d).path)) equal ∙ same_itself (get_or files k d).path)

-- ---- the troves

pub record AddedTroves (troves : List TroveParts) (count : ℕ) (kinds : Kinds) : Type 0 where
  pub noted : AreNoted (files_of (take count troves)) kinds
  pub share : AllPairs SharesDirsAlone (take count troves)

swap : {X Y : Type 0} (P : X → Y → Type 0) (xs : List X) (ys : List Y) → All (λ y. All (λ x. P x y) xs) ys → All (λ x. All (λ y. P x y) ys) xs
swap P xs ys all i d lt j e lt' = all j e lt' i d lt

each_file : (P : FileAt → Type 0) (list : List TroveParts) → All P (files_of list) → All (λ (t : TroveParts). All P t.files) list
each_file P [] all = All-nil (λ (t : TroveParts). All P t.files)
each_file P (t ∷ list) all = All-cons (λ (t : TroveParts). All P t.files) t list (left_all P t.files (files_of list) all) (each_file P list (right_all P t.files (files_of list) all))

all_files : (P : FileAt → Type 0) (list : List TroveParts) → All (λ (t : TroveParts). All P t.files) list → All P (files_of list)
all_files P [] all = All-nil P
all_files P (t ∷ list) all = All-append P t.files (files_of list) (All-head (λ (t : TroveParts). All P t.files) t list all) (all_files P list (All-tail (λ (t : TroveParts). All P t.files) t list all))

apart_each : (list : List TroveParts) (u : TroveParts) → AreApart (files_of list) u.files → All (λ (t : TroveParts). SharesDirsAlone t u) list
apart_each list u apart =
    each_file (λ other. All (λ (file : FileAt). IsTrue (are_apart other file)) u.files) list (swap (λ other file. IsTrue (are_apart other file)) (files_of list) u.files apart)

each_apart : (list : List TroveParts) (u : TroveParts) → All (λ (t : TroveParts). SharesDirsAlone t u) list → AreApart (files_of list) u.files
each_apart list u share =
    swap (λ file other. IsTrue (are_apart other file)) u.files (files_of list)
    (all_files (λ other. All (λ (file : FileAt). IsTrue (are_apart other file)) u.files) list share)

module _ (troves : List TroveParts) (k : ℕ) (u : TroveParts) (within : k < length troves) (is : u ≡ get_or troves k u) where
  pub next_trove : (kinds new : Kinds) → AddedTroves troves k kinds → AreApart (files_of (take k troves)) u.files → AreNoted (files_of (take k troves) ++ u.files) new → AddedTroves troves (k + 1) new
  next_trove kinds new so_far apart noted = record {
    noted = subst (λ (l : List FileAt). AreNoted l new) (flat_map_more (λ (t : TroveParts). t.files) [] (take k troves) u ∙ ap files_of (front troves k u within is)) noted;
    share = subst (AllPairs SharesDirsAlone) (front troves k u within is)
        (all_pairs_push SharesDirsAlone (take k troves) u so_far.share (λ i d lt. apart_each (take k troves) u apart i d lt));
  }

  pub apart_all : AllPairs SharesDirsAlone troves → AreApart (files_of (take k troves)) u.files
  apart_all pairs = each_apart (take k troves) u share
    where
      share : All (λ (t : TroveParts). SharesDirsAlone t u) (take k troves)
      share i d lt =
          let below : i < k = omega (arith, lt, length-take k troves) in
          let low : get_or troves i d ≡ get_or (take k troves) i d = sym (get_or-take k troves i d below) in
          let high : get_or troves k d ≡ u = sym (is ∙ get_or_default troves k u d within) in
          subst (λ (t : TroveParts). SharesDirsAlone t u) low (subst (SharesDirsAlone (get_or troves i d)) high (pairs i k d below within))
