-- What is seen at recorded paths.
use Rattle.std.proofs.Common.{◌≡◌, ℕ, suc, ◌==◌, true≢false, ◌+◌, ◌<◌, ◌≤◌, ⊎_elim, inl, inr, Bool, true, false, cond, List, [], ◌∷◌, ◌++◌, length, map, drop, get_or, Contains, Some, None, Option, Ok, Err, refl, sym, ap, subst, ◌∙◌, arith, append-nil, append_assoc}
use Rattle.std.specs.Prelude.{IsTrue, nat_lt, nat_le}
use Rattle.std.specs.Cmp.{first_so}
use Rattle.std.specs.Cmp.Lexicographic.{slice_cmp}
use Rattle.std.specs.FinMap.{get}
use Rattle.std.specs.Ordering.{nat_cmp}
use Rattle.std.specs.Str.{bytes_eq}
use Rattle.std.proofs.lemmas.Bool.Decides.{nat_tests}
use Rattle.std.proofs.lemmas.Map.Keys.{sorted_head, sorted_tail}
use Rattle.std.proofs.lemmas.Slice.Eq.{bytes_eq-Decides}
use Rattle.update_job.specs.cny-base.Target.{is_target}
use Rattle.update_job.specs.cny-stream.declared.record.FileRec.TheVariants as rec
use Rattle.update_job.specs.cny-stream.Owner.{is_owner}
use Rattle.std.specs.List.{cons_option, list_all, AllByRecursion}
use Rattle.std.specs.List.Sorted.{IsStrictlySortedBy}
use Rattle.std.specs.Option.{option_map, option_or}
use Rattle.std.specs.declared.cmp.Ordering.TheVariants.{Less}
use Rattle.std.proofs.lemmas.Bool.{lt-ltb, cases_lt}
use Rattle.std.proofs.lemmas.List.{at_drop_more}
use Rattle.std.proofs.lemmas.List.Elements.{All-contains, Contains-push_cases}
use Rattle.std.proofs.lemmas.Option.{none-some, same_Some}
use Rattle.sha1.specs.Sha1.{sha1}
use Rattle.update_job.specs.cny-base.declared.limits.TheConstants.{CONTENT_LIMIT}
use Rattle.update_job.specs.cny-base.declared.node.Node.{Node}
use Rattle.update_job.specs.cny-base.declared.node.Node.TheVariants as node
use Rattle.update_job.specs.cny-base.declared.refusal.Refusal.{Refusal}
use Rattle.update_job.specs.cny-base.declared.refusal.Refusal.TheVariants as refusal
use Rattle.update_job.specs.cny-base.declared.refusal.What.TheVariants as what
use Rattle.update_job.specs.cny-stream.declared.record.FileRec.{FileRec}
use Rattle.update_job.specs.cny-stream.Record.{IsFileRecord, has_name_and_size}
use Rattle.update_job.specs.trove-parts.declared.files.FileAt.{FileAt}
use Rattle.update_job.specs.trove-parts.Files.{AreFiles, IsFileAt, file_cmp}
use Rattle.update_job.specs.change-set.declared.change.Carried.{Carried}
use Rattle.tree_scan.specs.tree-disk.Tree.{is_byte, is_node, Tree}
use Rattle.root_edits.specs.Standing.{Sight, content_of_node, file_with, owner_of, record_of, sight_of, sights, local_content, local_contents, local_file, local_files, too_large, too_large_node}
use Rattle.root_edits.specs.Steps.{within_limit, Fits, HaveSeen}
use Rattle.root_edits.proofs.Members.{filter_map_push, filter_short, from_filter, rises_cons}
use Rattle.cny_version.proofs.cny-base.Lists.{all_from, contains_first, contains_map, contains_rest, map_push, nothing_in}
use Rattle.cny_version.proofs.cny-base.Bools.{both}
use Rattle.cny_version.proofs.cny-base.Sorted.{rising_nil as rises_none}
use Rattle.cny_version.proofs.cny-base.Below.{equal_test as same_number}
use Rattle.change_rel.proofs.cny-stream.Digests.{digest_long as sha1_length}

-- ---- one more

pub nothing_seen : (told : Bool) (tree : Tree) (before : List Carried) → HaveSeen told tree [] [] before before
nothing_seen told tree before = record {
  seen = [];
  files_are = refl;
  fit = λ s among. absurd (nothing_in s among);
  made_is = refl;
  carried_is = sym (append-nil before);
  told_is = λ tells. refl;
}

pub one_seen : (told : Bool) (tree : Tree) (files : List FileAt) (file : FileAt) (made newer : List FileAt) (before after later : List Carried) (n : Option Node) → HaveSeen told tree files made before after → Fits n
    → newer ≡ made ++ cons_option (local_file (record { file = file; node = n })) [] → later ≡ after ++ cons_option (local_content (record { file = file; node = n })) [] → (IsTrue told → n ≡ get tree file.path)
    → HaveSeen told tree (files ++ file ∷ []) newer before later
one_seen told tree files file made newer before after later n so_far fits longer more is =
    let s : Sight = record { file = file; node = n } in record {
      seen = so_far.seen ++ s ∷ [];
      files_are = map_push (λ (x : Sight). x.file) so_far.seen s ∙ ap (λ (l : List FileAt). l ++ file ∷ []) so_far.files_are;
      fit = λ x among. ⊎_elim (λ there. so_far.fit x there) (λ e. subst (λ (y : Sight). Fits y.node) e fits) (Contains-push_cases so_far.seen s x among);
      made_is = longer ∙ ap (λ (l : List FileAt). l ++ cons_option (local_file s) []) so_far.made_is ∙ sym (filter_map_push local_file so_far.seen s);
      carried_is = more ∙ ap (λ (l : List Carried). l ++ cons_option (local_content s) []) so_far.carried_is
          ∙ append_assoc before (local_contents so_far.seen) (cons_option (local_content s) [])
          ∙ ap (λ (l : List Carried). before ++ l) (sym (filter_map_push local_content so_far.seen s));
      told_is = λ tells.
          let same : s ≡ sight_of tree file = ap (λ (o : Option Node). sight file o) (is tells) in
          ap (λ (l : List Sight). l ++ s ∷ []) (so_far.told_is tells) ∙ ap (λ (x : Sight). sights tree files ++ x ∷ []) same ∙ sym (map_push (sight_of tree) files file);
    }
  where
    sight : FileAt → Option Node → Sight
    sight f o = record { file = f; node = o }

-- ---- files that are too large

pub none_large : (seen : List Sight) → ((s : Sight) → Contains seen s → Fits s.node) → too_large seen ≡ None
none_large [] fit = refl
none_large (s ∷ seen) fit =
    ap (λ (o : Option Refusal). option_or o (too_large seen)) (fit s (contains_first s seen)).small ∙ none_large seen (λ x among. fit x (contains_rest s x seen among))

-- behind paths where none is too large, the first refusal is the next one's
pub large_behind : (seen rest : List Sight) → too_large seen ≡ None → too_large (seen ++ rest) ≡ too_large rest
large_behind [] rest none = refl
large_behind (s ∷ seen) rest none = by (too_large_node s.node) none (large_behind seen rest)
  where
    by : (o : Option Refusal) → option_or o (too_large seen) ≡ None → (too_large seen ≡ None → too_large (seen ++ rest) ≡ too_large rest) → option_or o (too_large (seen ++ rest)) ≡ too_large rest
    by None none later = later none
    by (Some refused) none later = absurd (cc none)

pub large_first : (s : Sight) (rest : List Sight) (refused : Refusal) → too_large_node s.node ≡ Some refused → too_large (s ∷ rest) ≡ Some refused
large_first s rest refused is = ap (λ (o : Option Refusal). option_or o (too_large rest)) is

pub large_in_front : (seen rest : List Sight) (refused : Refusal) → too_large seen ≡ Some refused → too_large (seen ++ rest) ≡ Some refused
large_in_front [] rest refused is = absurd (cc is)
large_in_front (s ∷ seen) rest refused is = by (too_large_node s.node) is (large_in_front seen rest refused)
  where
    by : (o : Option Refusal) → option_or o (too_large seen) ≡ Some refused → (too_large seen ≡ Some refused → too_large (seen ++ rest) ≡ Some refused) → option_or o (too_large (seen ++ rest)) ≡ Some refused
    by None is later = later is
    by (Some r) is later = is

-- ---- records that are made are records

node_dir : (mode : ℕ) → IsTrue (is_node (node.Dir mode)) → mode ≤ 4095
unfolding is_node
node_dir mode is = grind (arith, nat_tests)

node_file : (mode : ℕ) (bytes : List ℕ) → IsTrue (is_node (node.File mode bytes)) → mode ≤ 4095
unfolding is_node
node_file mode bytes is = let first : nat_le mode 4095 ≡ true = first_so (nat_le mode 4095) (list_all is_byte bytes) is in grind (arith, nat_tests)

node_link : (target : List ℕ) → IsTrue (is_node (node.Link target)) → IsTrue (is_target target)
unfolding is_node
node_link target is = is

small_file : (b : Bool) (r : Refusal) → cond b (Some r) None ≡ None → b ≡ false
small_file true r is = absurd (none-some r (sym is))
small_file false r is = refl

pub not_large : (mode : ℕ) (bytes : List ℕ) → too_large_node (Some (node.File mode bytes)) ≡ None → length bytes ≤ CONTENT_LIMIT
not_large mode bytes small =
    let tested = small_file (nat_lt CONTENT_LIMIT (length bytes)) (refusal.TooLarge what.Local (length bytes)) small in
    elim (cases_lt CONTENT_LIMIT (length bytes)) [
      | inl long ↦ absurd (true≢false (sym (lt-ltb CONTENT_LIMIT (length bytes) long) ∙ tested))
      | inr short ↦ short
    ]

owner_valid : (r : FileRec) → IsFileRecord r → IsTrue (is_owner (owner_of r))
owner_valid (rec.Dir mode owner) is = is.1
owner_valid (rec.File mode owner flags size name) is = is.3
owner_valid (rec.Link target) is = refl

pub record_valid : (r : FileRec) (n : Node) → IsFileRecord r → Fits (Some n) → IsFileRecord (record_of r n)
record_valid r (node.Dir mode) is fits = (node_dir mode fits.stands, owner_valid r is)
record_valid r (node.File mode bytes) is fits = (node_file mode bytes fits.stands, not_large mode bytes fits.small, sha1_length bytes, owner_valid r is)
record_valid r (node.Link target) is fits = node_link target fits.stands

-- what a file that is made is of
made_of : (s : Sight) (file : FileAt) → local_file s ≡ Some file → (n : Node) × (s.node ≡ Some n) × (file ≡ file_with s.file n)
made_of s file is = by s.node refl is
  where
    by : (o : Option Node) → s.node ≡ o → option_map (file_with s.file) o ≡ Some file → (n : Node) × (s.node ≡ Some n) × (file ≡ file_with s.file n)
    by None e is = absurd (none-some file is)
    by (Some n) e is = (n, e, sym (same_Some (file_with s.file n) file is))

file_valid : (s : Sight) (file : FileAt) → IsFileAt s.file → Fits s.node → local_file s ≡ Some file → IsFileAt file
file_valid s file is fits made =
    let of = made_of s file made in
    subst IsFileAt (sym of.2) (record { path = is.path; rec = record_valid s.file.rec of.0 is.rec (subst Fits of.1 fits) })

-- ---- the order of files

made_all : (path : List ℕ) (seen : List Sight) → AllByRecursion (λ (f : FileAt). slice_cmp nat_cmp path f.path ≡ Less) (map (λ (s : Sight). s.file) seen)
    → AllByRecursion (λ (f : FileAt). slice_cmp nat_cmp path f.path ≡ Less) (local_files seen)
made_all path [] all = tt
made_all path (s ∷ seen) all = by s.node (made_all path seen all.1)
  where
    by : (o : Option Node) → AllByRecursion (λ (f : FileAt). slice_cmp nat_cmp path f.path ≡ Less) (local_files seen)
        → AllByRecursion (λ (f : FileAt). slice_cmp nat_cmp path f.path ≡ Less) (cons_option (option_map (file_with s.file) o) (local_files seen))
    by None rest = rest
    by (Some n) rest = (all.0, rest)

made_rises : (seen : List Sight) → IsStrictlySortedBy file_cmp (map (λ (s : Sight). s.file) seen) → IsStrictlySortedBy file_cmp (local_files seen)
made_rises [] rises = rises_none file_cmp
made_rises (s ∷ seen) rises =
    let head = sorted_head file_cmp s.file (map (λ (x : Sight). x.file) seen) rises in
    let tail = sorted_tail file_cmp s.file (map (λ (x : Sight). x.file) seen) rises in
    by s.node (made_all s.file.path seen head) (made_rises seen tail)
  where
    by : (o : Option Node) → AllByRecursion (λ (f : FileAt). slice_cmp nat_cmp s.file.path f.path ≡ Less) (local_files seen) → IsStrictlySortedBy file_cmp (local_files seen)
        → IsStrictlySortedBy file_cmp (cons_option (option_map (file_with s.file) o) (local_files seen))
    by None all rest = rest
    by (Some n) all rest = rises_cons file_cmp (file_with s.file n) (local_files seen) all rest

-- the files are those of a trove
pub files_good : (told : Bool) (tree : Tree) (files made : List FileAt) (before after : List Carried) → AreFiles files → HaveSeen told tree files made before after → AreFiles made
files_good told tree files made before after are seen = subst AreFiles (sym seen.made_is) (record {
  valid = all_from IsFileAt (local_files seen.seen) (λ file among.
      let from = from_filter local_file seen.seen file among in
      let there : Contains files from.0.file = subst (λ (l : List FileAt). Contains l from.0.file) seen.files_are (contains_map (λ (s : Sight). s.file) seen.seen from.0 from.1) in
      file_valid from.0 file (All-contains IsFileAt files from.0.file are.valid there) (seen.fit from.0 from.1) from.2);
  rising = made_rises seen.seen (subst (IsStrictlySortedBy file_cmp) (sym seen.files_are) are.rising);
})

length_mapped : (l : List Sight) → length (map (λ (s : Sight). s.file) l) ≡ length l
length_mapped [] = refl
length_mapped (s ∷ l) = ap suc (length_mapped l)

pub files_few : (told : Bool) (tree : Tree) (files made : List FileAt) (before after : List Carried) → HaveSeen told tree files made before after → length made ≤ length files
files_few told tree files made before after seen =
    let made_len = ap (λ (l : List FileAt). length l) seen.made_is in
    let short = filter_short local_file seen.seen in
    let same : length (map (λ (s : Sight). s.file) seen.seen) ≡ length seen.seen = length_mapped seen.seen in
    let of_files = ap (λ (l : List FileAt). length l) seen.files_are in
    omega (arith, made_len, short, same, of_files)

-- ---- contents

-- what is carried of a path: the content of the file there, which its new record has and its old one hasn't
pub record IsCarried (s : Sight) (c : Carried) : Type 0 where
  pub file : FileAt
  pub made : local_file s ≡ Some file
  pub same_path : file.path ≡ s.file.path
  pub hash : c.name ≡ sha1 c.bytes
  pub has : IsTrue (has_name_and_size c.name (length c.bytes) file.rec)
  pub lacks : has_name_and_size c.name (length c.bytes) s.file.rec ≡ false

abbrev carried_as : List ℕ → Carried
carried_as bytes = record { name = sha1 bytes; bytes = bytes }

carried_by : (s : Sight) (mode : ℕ) (bytes : List ℕ) (c : Carried) (b : Bool) → has_name_and_size (sha1 bytes) (length bytes) s.file.rec ≡ b
    → cond b None (Some (carried_as bytes)) ≡ Some c → (has_name_and_size (sha1 bytes) (length bytes) s.file.rec ≡ false) × (c ≡ carried_as bytes)
carried_by s mode bytes c true e is = absurd (none-some c is)
carried_by s mode bytes c false e is = (e, sym (same_Some (carried_as bytes) c is))

pub carried_of : (s : Sight) (c : Carried) → local_content s ≡ Some c → IsCarried s c
carried_of s c is = by s.node refl is
  where
    by : (o : Option Node) → s.node ≡ o → content_of_node s.file.rec o ≡ Some c → IsCarried s c
    by None e is = absurd (none-some c is)
    by (Some (node.Dir mode)) e is = absurd (none-some c is)
    by (Some (node.Link target)) e is = absurd (none-some c is)
    by (Some (node.File mode bytes)) e is =
        let found = carried_by s mode bytes c (has_name_and_size (sha1 bytes) (length bytes) s.file.rec) refl is in
        subst (IsCarried s) (sym found.1) (record {
          file = file_with s.file (node.File mode bytes);
          made = ap (option_map (file_with s.file)) e;
          same_path = refl;
          hash = refl;
          has = both (length bytes == length bytes) (bytes_eq (sha1 bytes) (sha1 bytes)) (same_number (length bytes)) ((bytes_eq-Decides (sha1 bytes) (sha1 bytes)).1 refl);
          lacks = found.0;
        })

-- ---- one path after another

-- the refusal of what stands at a path
within_err : (there : Option Node) (large : Option Refusal) (refused : Refusal) → within_limit there large ≡ Err refused → large ≡ Some refused
within_err there None refused is = absurd (cc is)
within_err there (Some r) refused is = cc is

pub within_ok : (there seen : Option Node) (large : Option Refusal) → within_limit there large ≡ Ok seen → seen ≡ there
within_ok there seen None is = cc is
within_ok there seen (Some r) is = absurd (cc is)

-- a path after those that were seen: its refusal is the first one
pub refused_at : (tree : Tree) (files : List FileAt) (i : ℕ) (file : FileAt) (refused : Refusal) → i < length files → file ≡ get_or files i file
    → too_large (sights tree (drop i files)) ≡ too_large (sights tree files) → within_limit (get tree file.path) (too_large_node (get tree file.path)) ≡ Err refused → too_large (sights tree files) ≡ Some refused
refused_at tree files i file refused within is rest stops =
    sym rest ∙ at_drop_more (λ (l : List FileAt). too_large (sights tree l)) files i file within
    ∙ ap (λ (f : FileAt). too_large (sights tree (f ∷ drop (i + 1) files))) (sym is)
    ∙ large_first (sight_of tree file) (sights tree (drop (i + 1) files)) refused (within_err (get tree file.path) (too_large_node (get tree file.path)) refused stops)

pub rest_at : (tree : Tree) (files : List FileAt) (i : ℕ) (file : FileAt) (seen : Option Node) → i < length files → file ≡ get_or files i file
    → too_large (sights tree (drop i files)) ≡ too_large (sights tree files) → seen ≡ get tree file.path → too_large_node seen ≡ None → too_large (sights tree (drop (i + 1) files)) ≡ too_large (sights tree files)
rest_at tree files i file seen within is rest stands small =
    let here : too_large_node (get tree file.path) ≡ None = ap too_large_node (sym stands) ∙ small in
    sym (ap (λ (o : Option Refusal). option_or o (too_large (sights tree (drop (i + 1) files)))) here)
    ∙ ap (λ (f : FileAt). too_large (sights tree (f ∷ drop (i + 1) files))) is
    ∙ sym (at_drop_more (λ (l : List FileAt). too_large (sights tree l)) files i file within) ∙ rest
