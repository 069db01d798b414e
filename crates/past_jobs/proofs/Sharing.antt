-- Files at paths of their own, and directories that are shared.
use Rattle.std.proofs.Common.{◌≡◌, ◌⊎◌, ⊎_elim, ℕ, ◌<◌, Bool, true, false, cond, IsTrue, List, [], ◌∷◌, length, get_or, Option, Some, None, All, Contains, refl, sym, ◌∙◌, ap, subst, arith}
use Rattle.std.specs.Cmp.Lexicographic.{slice_cmp}
use Rattle.std.specs.List.{AllPairs}
use Rattle.std.specs.List.Sorted.{IsStrictlySortedBy}
use Rattle.std.specs.Ordering.{nat_cmp}
use Rattle.std.specs.declared.cmp.Ordering.TheVariants.{Less}
use Rattle.std.proofs.lemmas.Bool.{cases_lt, and_from}
use Rattle.std.proofs.lemmas.List.{get_or_default}
use Rattle.std.proofs.lemmas.List.Elements.{All-contains, All-contains_itself, All-from_recursion}
use Rattle.std.proofs.lemmas.Map.Keys.{Less-from_sorted, sorted_head, sorted_tail}
use Rattle.std.proofs.lemmas.Option.{none-some}
use Rattle.local_db.specs.cny-stream.declared.record.FileRec.{FileRec}
use Rattle.local_db.specs.cny-stream.declared.record.FileRec.TheVariants as rec
use Rattle.local_db.specs.cny-stream.Record.{is_dir}
use Rattle.local_db.specs.trove-parts.declared.files.FileAt.{FileAt}
use Rattle.local_db.specs.trove-parts.Files.{file_cmp}
use Rattle.local_db.specs.trove-stream.declared.parts.TroveParts.{TroveParts}
use Rattle.local_db.specs.trove-stream.Trove.{IsTrove}
use Rattle.local_db.specs.tree-disk.Tree.{Name, same_name}
use Rattle.tree_scan.specs.declared.mark.Mark.{Mark}
use Rattle.tree_scan.specs.Marks as marks
use Rattle.tree_scan.specs.Marks.{fingerprint_of_record}
use Rattle.local_db.specs.trove-stream.Installed.{by_name, IsRising}
use Rattle.local_db.specs.Installed.{record_at, first_mark, recorded, are_apart, SharesDirsAlone, IsInstalled}
use Rattle.local_db.specs.tree-disk.Laws.{same_means}
use Rattle.local_db.proofs.tree-disk.Laws.{same_itself}
use Rattle.past_jobs.specs.Table.{may_stand}
use Rattle.past_jobs.proofs.Names.{apart_means, one_named}
use Rattle.change_rel.proofs.cny-base.ByteLists.{not_less_itself}
use Rattle.change_rel.proofs.cny-base.Lists.{all_from as all_of, contains_first as first, contains_cases as first_or_later, contains_rest as later, nothing_in}
use Rattle.local_db.proofs.Apart.{apart_when, when_apart}
use Rattle.change_rel.proofs.cny-base.Doubling.{both as both_true}

-- ---- two files

flip_apart : (file other : FileAt) → IsTrue (are_apart file other) → IsTrue (are_apart other file)
flip_apart file other apart = apart_when other file (λ is. let both = when_apart file other apart (sym is) in (both.1, both.0))

-- ---- two troves

pub files_apart : (t u : TroveParts) → SharesDirsAlone t u → (file other : FileAt) → Contains t.files file → Contains u.files other → IsTrue (are_apart file other)
files_apart t u shares file other file_in other_in =
    All-contains (λ (other : FileAt). IsTrue (are_apart file other)) u.files other
    (All-contains (λ (file : FileAt). All (λ (other : FileAt). IsTrue (are_apart file other)) u.files) t.files file shares file_in) other_in

pub shares_dirs : (t u : TroveParts) → ((file other : FileAt) → Contains t.files file → Contains u.files other → IsTrue (are_apart file other)) → SharesDirsAlone t u
shares_dirs t u apart =
    all_of (λ (file : FileAt). All (λ (other : FileAt). IsTrue (are_apart file other)) u.files) t.files
    (λ file file_in. all_of (λ (other : FileAt). IsTrue (are_apart file other)) u.files (λ other other_in. apart file other file_in other_in))

pub shares_back : (t u : TroveParts) → SharesDirsAlone t u → SharesDirsAlone u t
shares_back t u shares = shares_dirs u t (λ file other file_in other_in. flip_apart other file (files_apart t u shares other file other_in file_in))

-- ---- the troves of a list

at_place : (list : List TroveParts) (t d : TroveParts) (k : ℕ) → k < length list → get_or list k t ≡ t → get_or list k d ≡ t
at_place list t d k lt is = get_or_default list k d t lt ∙ is

pub pairs_by_names : (list : List TroveParts) → AllPairs SharesDirsAlone list → (t u : TroveParts) → Contains list t → Contains list u → (t.id.name ≡ u.id.name → ⊥) → SharesDirsAlone t u
pairs_by_names list pairs t u t_in u_in apart =
    let low : get_or list t_in.0 t ≡ t = t_in.2 in
    let high : get_or list u_in.0 t ≡ u = at_place list u t u_in.0 u_in.1 u_in.2 in
    ⊎_elim
    (λ less. subst (SharesDirsAlone t) high (subst (λ (w : TroveParts). SharesDirsAlone w (get_or list u_in.0 t)) low (pairs t_in.0 u_in.0 t less u_in.1)))
    (λ le. ⊎_elim
    (λ more. shares_back u t (subst (SharesDirsAlone u) low (subst (λ (w : TroveParts). SharesDirsAlone w (get_or list t_in.0 t)) high (pairs u_in.0 t_in.0 t more t_in.1))))
    (λ ge. let equal : t_in.0 ≡ u_in.0 = omega arith in absurd (apart (ap (λ (w : TroveParts). w.id.name) (sym low ∙ ap (λ (k : ℕ). get_or list k t) equal ∙ high))))
    (cases_lt u_in.0 t_in.0))
    (cases_lt t_in.0 u_in.0)

pub pairs_from_names : (list : List TroveParts) → IsRising list → ((t u : TroveParts) → Contains list t → Contains list u → (t.id.name ≡ u.id.name → ⊥) → SharesDirsAlone t u) → AllPairs SharesDirsAlone list
pairs_from_names list rises each = λ i j d less lt.
    let low : i < length list = omega (arith, less, lt) in
    let below : by_name (get_or list i d) (get_or list j d) ≡ Less = Less-from_sorted by_name list i j d rises less lt in
    each (get_or list i d) (get_or list j d) (All-contains_itself list i d low) (All-contains_itself list j d lt)
    (λ names. not_less_itself (get_or list j d).id.name (ap (λ (n : Name). slice_cmp nat_cmp n (get_or list j d).id.name) (sym names) ∙ below))

-- ---- records at a path

record Recorder (files : List FileAt) (path : Name) (r : FileRec) : Type 0 where
  file : FileAt
  in_files : Contains files file
  at_path : file.path ≡ path
  of_file : file.rec ≡ r

recorder : (files : List FileAt) (path : Name) (r : FileRec) → record_at files path ≡ Some r → Recorder files path r
recorder [] path r is = absurd (none-some r is)
recorder (x ∷ files) path r is = at (same_name path x.path) refl (recorder files path r)
  where
    at : (b : Bool) → same_name path x.path ≡ b → (record_at files path ≡ Some r → Recorder files path r) → Recorder (x ∷ files) path r
    at true here rest = record {
      file = x;
      in_files = first x files;
      at_path = sym (same_means path x.path here);
      of_file = let e : Some x.rec ≡ Some r = sym (ap (λ (b : Bool). cond b (Some x.rec) (record_at files path)) here) ∙ is in cc e;
    }
    at false off rest =
        let h = rest (sym (ap (λ (b : Bool). cond b (Some x.rec) (record_at files path)) off) ∙ is) in
        record { file = h.file; in_files = later x h.file files h.in_files; at_path = h.at_path; of_file = h.of_file }

no_recorder : (files : List FileAt) (path : Name) → record_at files path ≡ None → (other : FileAt) → Contains files other → other.path ≡ path → ⊥
no_recorder [] path none other in' is = nothing_in other in'
no_recorder (x ∷ files) path none other in' is = at (same_name path x.path) refl (no_recorder files path) (first_or_later x other files in')
  where
    at : (b : Bool) → same_name path x.path ≡ b → (record_at files path ≡ None → (other : FileAt) → Contains files other → other.path ≡ path → ⊥) → (x ≡ other) ⊎ Contains files other → ⊥
    at true here rest place = none-some x.rec (sym none ∙ ap (λ (b : Bool). cond b (Some x.rec) (record_at files path)) here)
    at false off rest place = ⊎_elim
        (λ same. let own : same_name path path ≡ true = same_itself path in
        let off' : same_name path path ≡ false = ap (same_name path) (sym (ap (λ (f : FileAt). f.path) same ∙ is)) ∙ off in absurd (cc (own, off')))
        (λ behind. rest (sym (ap (λ (b : Bool). cond b (Some x.rec) (record_at files path)) off) ∙ none) other behind is)
        place

-- where the paths rise, a file is the one at its path
own_record : (files : List FileAt) → IsStrictlySortedBy file_cmp files → (other : FileAt) → Contains files other → record_at files other.path ≡ Some other.rec
own_record [] rises other in' = absurd (nothing_in other in')
own_record (x ∷ files) rises other in' = ⊎_elim
    (λ same. ap (λ (b : Bool). cond b (Some x.rec) (record_at files other.path)) (ap (same_name other.path) (ap (λ (f : FileAt). f.path) same) ∙ same_itself other.path)
    ∙ ap (λ (f : FileAt). Some f.rec) same)
    (λ behind. at (same_name other.path x.path) refl behind (own_record files (sorted_tail file_cmp x files rises) other behind))
    (first_or_later x other files in')
  where
    at : (b : Bool) → same_name other.path x.path ≡ b → Contains files other → record_at files other.path ≡ Some other.rec → cond b (Some x.rec) (record_at files other.path) ≡ Some other.rec
    at true here behind rest =
        let less : slice_cmp nat_cmp x.path other.path ≡ Less = All-contains (λ (f : FileAt). file_cmp x f ≡ Less) files other (All-from_recursion (λ (f : FileAt). file_cmp x f ≡ Less) files (sorted_head file_cmp x files rises)) behind in
        absurd (not_less_itself x.path (ap (slice_cmp nat_cmp x.path) (sym (same_means other.path x.path here)) ∙ less))
    at false off behind rest = rest

record ListRecorder (list : List TroveParts) (path : Name) (mark : Mark) : Type 0 where
  trove : TroveParts
  rec_ : FileRec
  in_list : Contains list trove
  recorded_is : record_at trove.files path ≡ Some rec_
  mark_is : fingerprint_of_record rec_ ≡ mark

list_recorder : (list : List TroveParts) (path : Name) (mark : Mark) → recorded list path ≡ Some mark → ListRecorder list path mark
list_recorder [] path mark is = absurd (none-some mark is)
list_recorder (t ∷ list) path mark is = at (record_at t.files path) refl (list_recorder list path mark)
  where
    at : (o : Option FileRec) → record_at t.files path ≡ o → (recorded list path ≡ Some mark → ListRecorder list path mark) → ListRecorder (t ∷ list) path mark
    at (Some r) some rest = record {
      trove = t;
      rec_ = r;
      in_list = first t list;
      recorded_is = some;
      mark_is = let e : Some (fingerprint_of_record r) ≡ Some mark = sym (ap (λ (o : Option FileRec). first_mark o (recorded list path)) some) ∙ is in cc e;
    }
    at None none rest =
        let h = rest (sym (ap (λ (o : Option FileRec). first_mark o (recorded list path)) none) ∙ is) in
        record { trove = h.trove; rec_ = h.rec_; in_list = later t h.trove list h.in_list; recorded_is = h.recorded_is; mark_is = h.mark_is }

no_list_recorder : (list : List TroveParts) (path : Name) → recorded list path ≡ None → (u : TroveParts) → Contains list u → record_at u.files path ≡ None
no_list_recorder [] path none u in' = absurd (nothing_in u in')
no_list_recorder (t ∷ list) path none u in' = at (record_at t.files path) refl (no_list_recorder list path) (first_or_later t u list in')
  where
    at : (o : Option FileRec) → record_at t.files path ≡ o → (recorded list path ≡ None → (u : TroveParts) → Contains list u → record_at u.files path ≡ None) → (t ≡ u) ⊎ Contains list u → record_at u.files path ≡ None
    at (Some r) some rest place = absurd (none-some (fingerprint_of_record r) (sym none ∙ ap (λ (o : Option FileRec). first_mark o (recorded list path)) some))
    at None off rest place = ⊎_elim
        (λ same. ap (λ (w : TroveParts). record_at w.files path) (sym same) ∙ off)
        (λ behind. rest (sym (ap (λ (o : Option FileRec). first_mark o (recorded list path)) off) ∙ none) u behind)
        place

-- ---- whether a file may stand

dir_mark : (r : FileRec) → marks.is_dir (fingerprint_of_record r) ≡ is_dir r
dir_mark (rec.Dir mode owner) = refl
dir_mark (rec.File mode owner flags size name) = refl
dir_mark (rec.Link target) = refl

module _ (list : List TroveParts) (installed : IsInstalled list) (file : FileAt) where
  -- what is recorded at the path is a directory, if the list may have another one there
  other_dir : (h : (mark : Mark) → recorded list file.path ≡ Some mark → (is_dir file.rec ≡ true) × (marks.is_dir mark ≡ true))
      → (u : TroveParts) → Contains list u → (other : FileAt) → Contains u.files other → (o : Option Mark) → recorded list file.path ≡ o → file.path ≡ other.path
      → (is_dir file.rec ≡ true) × (is_dir other.rec ≡ true)
  other_dir h u u_in other other_in None none is = absurd (no_recorder u.files file.path (no_list_recorder list file.path none u u_in) other other_in (sym is))
  other_dir h u u_in other other_in (Some mark) some is =
      let w = list_recorder list file.path mark some in
      let one = recorder w.trove.files file.path w.rec_ w.recorded_is in
      let dirs = h mark some in
      let mark_dir : is_dir w.rec_ ≡ true = sym (dir_mark w.rec_) ∙ ap marks.is_dir w.mark_is ∙ dirs.1 in
      (dirs.0, at w one mark_dir (same_name w.trove.id.name u.id.name) refl)
    where
      at : (w : ListRecorder list file.path mark) → (one : Recorder w.trove.files file.path w.rec_) → is_dir w.rec_ ≡ true → (b : Bool) → same_name w.trove.id.name u.id.name ≡ b → is_dir other.rec ≡ true
      at w one mark_dir true names =
          let alike : w.trove ≡ u = one_named list installed.rising w.trove u w.in_list u_in (same_means w.trove.id.name u.id.name names) in
          let rises : IsStrictlySortedBy file_cmp u.files = (All-contains IsTrove list u installed.troves u_in).lists.files.rising in
          let own : record_at u.files file.path ≡ Some other.rec = ap (record_at u.files) is ∙ own_record u.files rises other other_in in
          let there : record_at u.files file.path ≡ Some w.rec_ = ap (λ (v : TroveParts). record_at v.files file.path) (sym alike) ∙ w.recorded_is in
          let equal : w.rec_ ≡ other.rec = cc (own, there) in
          ap is_dir (sym equal) ∙ mark_dir
      at w one mark_dir false names =
          (when_apart one.file other
          (files_apart w.trove u (pairs_by_names list installed.unshared w.trove u w.in_list u_in (apart_means w.trove.id.name u.id.name names)) one.file other one.in_files other_in)
          (one.at_path ∙ is)).1

  pub stands_apart : may_stand (recorded list file.path) file.rec ≡ true → (u : TroveParts) → Contains list u → (other : FileAt) → Contains u.files other → IsTrue (are_apart file other)
  stands_apart may u u_in other other_in = apart_when file other (other_dir (λ mark some. both_true (is_dir file.rec) (marks.is_dir mark) (ap (λ (o : Option Mark). may_stand o file.rec) (sym some) ∙ may)) u u_in other other_in (recorded list file.path) refl)

pub apart_stands : (list : List TroveParts) (file : FileAt) → ((u : TroveParts) → Contains list u → (other : FileAt) → Contains u.files other → IsTrue (are_apart file other)) → may_stand (recorded list file.path) file.rec ≡ true
apart_stands list file apart = at (recorded list file.path) refl
  where
    at : (o : Option Mark) → recorded list file.path ≡ o → may_stand o file.rec ≡ true
    at None none = refl
    at (Some mark) some =
        let w = list_recorder list file.path mark some in
        let one = recorder w.trove.files file.path w.rec_ w.recorded_is in
        let dirs = when_apart file one.file (apart w.trove w.in_list one.file one.in_files) (sym one.at_path) in
        and_from (is_dir file.rec) (marks.is_dir mark) dirs.0 (ap marks.is_dir (sym w.mark_is) ∙ dir_mark w.rec_ ∙ ap is_dir (sym one.of_file) ∙ dirs.1)
