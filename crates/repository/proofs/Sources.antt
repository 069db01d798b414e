-- Contents that are carried, and contents that are missing or collide.
use Rattle.std.proofs.Common.{◌≡◌, ◌⊎◌, ⊎_elim, ℕ, ◌+◌, ◌<◌, ◌≤◌, Bool, true, false, cond, List, [], ◌∷◌, ◌++◌, length, drop, get_or, All, Option, Some, None, refl, sym, ◌∙◌, ap}
use Rattle.std.specs.Prelude.{◌==◌}
use Rattle.std.specs.List.{find, list_any, AllByRecursion}
use Rattle.std.specs.List.Sorted.{IsStrictlySortedBy}
use Rattle.std.specs.declared.cmp.Ordering.TheVariants.{Less}
use Rattle.std.specs.Str.{bytes_eq}
use Rattle.std.specs.Option.{option_or}
use Rattle.std.proofs.lemmas.List.Elements.{All-cons, All-head, All-nil, All-tail}
use Rattle.repo_load.specs.cny-base.declared.refusal.Refusal.TheVariants.{MissingContent}
use Rattle.repo_load.specs.cny-stream.declared.record.FileRec.{FileRec}
use Rattle.repo_load.specs.cny-stream.declared.record.FileRec.TheVariants.{Dir, File, Link}
use Rattle.repo_load.specs.cny-stream.Record.{has_name_and_size}
use Rattle.repo_load.specs.trove-parts.declared.files.FileAt.{FileAt}
use Rattle.repo_load.specs.trove-stream.declared.parts.TroveParts.{TroveParts}
use Rattle.change_set.specs.declared.change.Carried.{Carried}
use Rattle.change_set.specs.ChangeSet.{content_cmp}
use Rattle.repo_load.specs.content-store.Contents.{ContentMap}
use Rattle.repo_load.specs.content-store.Difference.{first_difference}
use Rattle.repo_load.proofs.content-store.Differences.{same_lists}
use Rattle.repo_load.specs.State.{records_content, trove_records}
use Rattle.repository.specs.Steps.{bytes_if_carried, carried}
use Rattle.repository.specs.Tests.{collides, collision, collision_at, has_content_source, is_carried, lacks_content, missing_content}
use Rattle.repository.proofs.Lists.{then_append, then_none}
use Rattle.change_pull.proofs.Sizes.{none_behind}
use Rattle.tree_journal.proofs.tree-disk.Order.{not_before}
use Rattle.change_rel.proofs.cny-base.ByteLists.{same_bytes}
use Rattle.change_rel.specs.trove-stream.FilesOf.{files_of}
use Rattle.tree_journal.proofs.tree-disk.Nodes.{left_true as and_first}
use Rattle.tree_journal.proofs.tree-disk.Laws.{second as and_second}
use Rattle.change_rel.proofs.trove-stream.Members.{drop_all as drop_none}
use Rattle.change_rel.proofs.trove-stream.Merging.{front_at}
use Rattle.tree_journal.proofs.tree-disk.ClearLaws.{or_cases as or_either}
use Rattle.change_rel.proofs.cny-base.Below.{test_equal as same_size}

-- ---- carried contents

abbrev has_name : List ℕ → Carried → Bool
has_name name content = bytes_eq content.name name

-- the content of a name that is carried with a size has that size
pub sized_carried : (name : List ℕ) (size : ℕ) (cs : List Carried) → IsStrictlySortedBy content_cmp cs → list_any (is_carried name size) cs ≡ true → (bytes : List ℕ) × (carried cs name ≡ Some bytes) × (length bytes ≡ size)
unfolding IsStrictlySortedBy
sized_carried name size [] rises h = absurd (cc h)
sized_carried name size (c ∷ cs) rises h = by (has_name name c) refl (sized_carried name size cs rises.1) (or_either (is_carried name size c) (list_any (is_carried name size) cs) h)
  where
    by : (p : Bool) → has_name name c ≡ p → (list_any (is_carried name size) cs ≡ true → (bytes : List ℕ) × (carried cs name ≡ Some bytes) × (length bytes ≡ size)) → (is_carried name size c ≡ true) ⊎ (list_any (is_carried name size) cs ≡ true) → (bytes : List ℕ) × (bytes_if_carried (cond p (Some c) (find (has_name name) cs)) ≡ Some bytes) × (length bytes ≡ size)
    by true same rest either = (
      c.bytes,
      refl,
      ⊎_elim
          (λ here. same_size (length c.bytes) size (and_second (bytes_eq c.name name) (length c.bytes == size) here))
          (λ there. absurd (none_behind c name size cs (same_bytes c.name name same) rises.0 there))
          either,
    )
    by false other rest either = ⊎_elim
        (λ here. absurd (cc (other, and_first (bytes_eq c.name name) (length c.bytes == size) here)))
        rest
        either

-- what is carried under a name is a content of that name
pub found_has : (P : Carried → Type 0) (name bytes : List ℕ) (cs : List Carried) → All P cs → carried cs name ≡ Some bytes → (content : Carried) × P content × (content.name ≡ name) × (content.bytes ≡ bytes)
found_has P name bytes [] all h = absurd (cc h)
found_has P name bytes (c ∷ cs) all h = by (has_name name c) refl h (found_has P name bytes cs (All-tail P c cs all))
  where
    by : (p : Bool) → has_name name c ≡ p → bytes_if_carried (cond p (Some c) (find (has_name name) cs)) ≡ Some bytes → (carried cs name ≡ Some bytes → (content : Carried) × P content × (content.name ≡ name) × (content.bytes ≡ bytes)) → (content : Carried) × P content × (content.name ≡ name) × (content.bytes ≡ bytes)
    by true same h rest = (c, All-head P c cs all, same_bytes c.name name same, cc h)
    by false other h rest = rest h

-- ---- missing contents

pub missing_append : (committed : List TroveParts) (contents : List Carried) (a b : List FileAt)
    → missing_content committed contents (a ++ b) ≡ option_or (missing_content committed contents a) (missing_content committed contents b)
missing_append committed contents [] b = refl
missing_append committed contents (file ∷ a) b =
    ap (option_or (lacks_content committed contents file.rec)) (missing_append committed contents a b)
    ∙ then_append (lacks_content committed contents file.rec) (missing_content committed contents a) (missing_content committed contents b)

module _ (committed : List TroveParts) (contents : List Carried) (name : List ℕ) (size : ℕ) where
  record_source : (rec : FileRec) → lacks_content committed contents rec ≡ None → has_name_and_size name size rec ≡ true → has_content_source committed contents name size ≡ true
  record_source (Dir mode owner) none h = absurd (cc h)
  record_source (File mode owner flags of_size of_name) none h = by (has_content_source committed contents of_name of_size) refl none
    where
      by : (p : Bool) → has_content_source committed contents of_name of_size ≡ p → cond p None (Some (MissingContent of_name)) ≡ None → has_content_source committed contents name size ≡ true
      by true is none =
          let sizes : of_size ≡ size = same_size of_size size (and_first (of_size == size) (bytes_eq of_name name) h) in
          let names : of_name ≡ name = same_bytes of_name name (and_second (of_size == size) (bytes_eq of_name name) h) in
          (λ i. has_content_source committed contents (sym names i) (sym sizes i)) ∙ is
      by false is none = absurd (cc none)
  record_source (Link target) none h = absurd (cc h)

  files_source : (files : List FileAt) → missing_content committed contents files ≡ None → list_any (λ (file : FileAt). has_name_and_size name size file.rec) files ≡ true → has_content_source committed contents name size ≡ true
  files_source [] none h = absurd (cc h)
  files_source (file ∷ files) none h =
      let parts = then_none (lacks_content committed contents file.rec) (missing_content committed contents files) none in
      ⊎_elim
      (λ here. record_source file.rec parts.0 here)
      (λ there. files_source files parts.1 there)
      (or_either (has_name_and_size name size file.rec) (list_any (λ (file : FileAt). has_name_and_size name size file.rec) files) h)

  -- where no content is missing each that is recorded is carried or committed
  pub troves_source : (troves : List TroveParts) → missing_content committed contents (files_of troves) ≡ None → records_content name size troves ≡ true → has_content_source committed contents name size ≡ true
  troves_source [] none h = absurd (cc h)
  troves_source (t ∷ troves) none h =
      let parts = then_none (missing_content committed contents t.files) (missing_content committed contents (files_of troves)) (sym (missing_append committed contents t.files (files_of troves)) ∙ none) in
      ⊎_elim
      (λ here. files_source t.files parts.0 here)
      (λ there. troves_source troves parts.1 there)
      (or_either (trove_records name size t) (records_content name size troves) h)

-- ---- collisions

at_none : (name : List ℕ) (o : Option ℕ) → collision_at name o ≡ None → o ≡ None
at_none name None h = refl
at_none name (Some at) h = absurd (cc h)

pub no_collision : (held : ContentMap) (cs : List Carried) → collision held cs ≡ None → All (λ (content : Carried). collides (held content.name) content ≡ None) cs
no_collision held [] none = All-nil (λ (content : Carried). collides (held content.name) content ≡ None)
no_collision held (c ∷ cs) none =
    let parts = then_none (collides (held c.name) c) (collision held cs) none in
    All-cons (λ (content : Carried). collides (held content.name) content ≡ None) c cs parts.0 (no_collision held cs parts.1)

-- a content that doesn't collide with what is held has its bytes
pub same_content : (held : Option (List ℕ)) (kept : List ℕ) (c : Carried) → held ≡ Some kept → collides held c ≡ None → kept ≡ c.bytes
same_content None kept c is none = absurd (cc is)
same_content (Some bytes) kept c is none =
    let same : bytes ≡ kept = cc is in
    sym same ∙ same_lists bytes c.bytes (at_none c.name (first_difference bytes c.bytes) none)

-- ---- one file after another

pub source_on : (committed : List TroveParts) (contents : List Carried) (files : List FileAt) (i : ℕ) (file : FileAt) → i < length files → file ≡ get_or files i file
    → missing_content committed contents (drop i files) ≡ option_or (lacks_content committed contents file.rec) (missing_content committed contents (drop (i + 1) files))
source_on committed contents files i file lt is = ap (missing_content committed contents) (front_at i files file lt is)

pub source_end : (committed : List TroveParts) (contents : List Carried) (files : List FileAt) (i : ℕ) → length files ≤ i → missing_content committed contents (drop i files) ≡ None
source_end committed contents files i le = ap (missing_content committed contents) (drop_none i files le)

pub sources_on : (committed : List TroveParts) (contents : List Carried) (troves : List TroveParts) (i : ℕ) (t : TroveParts) → i < length troves → t ≡ get_or troves i t
    → missing_content committed contents (files_of (drop i troves)) ≡ option_or (missing_content committed contents t.files) (missing_content committed contents (files_of (drop (i + 1) troves)))
sources_on committed contents troves i t lt is =
    ap (λ (l : List TroveParts). missing_content committed contents (files_of l)) (front_at i troves t lt is) ∙ missing_append committed contents t.files (files_of (drop (i + 1) troves))

pub sources_end : (committed : List TroveParts) (contents : List Carried) (troves : List TroveParts) (i : ℕ) → length troves ≤ i → missing_content committed contents (files_of (drop i troves)) ≡ None
sources_end committed contents troves i le = ap (λ (l : List TroveParts). missing_content committed contents (files_of l)) (drop_none i troves le)
