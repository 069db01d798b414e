-- What follows of contents that are named or damaged.
use Rattle.std.proofs.Common.{◌≡◌, ℕ, ◌&&◌, ◌||◌, Bool, true, false, IsTrue, List, [], ◌∷◌, Some, None, refl, rules}
use Rattle.std.specs.List.{list_any}
use Rattle.std.specs.Prelude.{◌==◌}
use Rattle.std.specs.Str.{bytes_eq}
use Rattle.repo_index.specs.cny-stream.declared.record.FileRec.{FileRec}
use Rattle.repo_index.specs.cny-stream.declared.record.FileRec.TheVariants.{Dir, File, Link}
use Rattle.repo_index.specs.cny-stream.Record.{has_name_and_size}
use Rattle.repo_index.specs.trove-parts.declared.files.FileAt.{FileAt}
use Rattle.repo_index.specs.trove-stream.declared.parts.TroveParts.{TroveParts}
use Rattle.journal_log.specs.tree-disk.Tree.{Name, Tree}
use Rattle.content_store.specs.Contents.{LacksAnswer}
use Rattle.repo_index.specs.Catalogue.{has_content, names_content, is_content, is_file_of}
use Rattle.repo_load.specs.State.{trove_records, records_content}
use Rattle.repo_load.specs.Contents.{FindsContent, IsDamagedContent}

-- the size that is recorded for a name
named_size : (name : List ℕ) (rec : FileRec) → IsTrue (is_content name rec) → (size : ℕ) × IsTrue (has_name_and_size name size rec)
named_size name (Dir mode owner) is = absurd (cc is)
named_size name (File mode owner flags of_size of_name) is = (of_size, both (of_size == of_size) (bytes_eq of_name name) (same of_size) is)
  where
    both : (a b : Bool) → IsTrue a → IsTrue b → IsTrue (a && b)
    both true b one other = other
    both false b one other = absurd (cc one)

    same : (n : ℕ) → IsTrue (n == n)
    same n = search rules
named_size name (Link target) is = absurd (cc is)

any_size : {A : Type 0} (p : ℕ → A → Bool) (q : A → Bool) → ((x : A) → IsTrue (q x) → (size : ℕ) × IsTrue (p size x)) → (xs : List A) → IsTrue (list_any q xs)
    → (size : ℕ) × IsTrue (list_any (p size) xs)
any_size p q so [] is = absurd (cc is)
any_size p q so (x ∷ xs) is = by (q x) refl (any_size p q so xs) is
  where
    left : (a b : Bool) → IsTrue a → IsTrue (a || b)
    left true b one = refl
    left false b one = absurd (cc one)

    right : (a b : Bool) → IsTrue b → IsTrue (a || b)
    right true b one = refl
    right false b one = one

    by : (b : Bool) → q x ≡ b → (IsTrue (list_any q xs) → (size : ℕ) × IsTrue (list_any (p size) xs)) → IsTrue (b || list_any q xs) → (size : ℕ) × IsTrue (list_any (p size) (x ∷ xs))
    by true here rest is = let found = so x here in (found.0, left (p found.0 x) (list_any (p found.0) xs) found.1)
    by false here rest is = let found = rest is in (found.0, right (p found.0 x) (list_any (p found.0) xs) found.1)

pub named_is_recorded : (name : List ℕ) (troves : List TroveParts) → IsTrue (has_content name troves) → (size : ℕ) × IsTrue (records_content name size troves)
named_is_recorded name troves is =
    any_size (λ size t. trove_records name size t) (names_content name)
    (λ t. any_size (λ size (file : FileAt). has_name_and_size name size file.rec) (is_file_of name) (λ file. named_size name file.rec) t.files) troves is

-- a damaged content is no answer to its name
pub damaged_lacks : (troves : List TroveParts) (name : List ℕ) (x : Tree) (path : Name) → IsDamagedContent troves name x path → LacksAnswer (λ other found. FindsContent troves other x found) name
damaged_lacks troves name x path damage (Some bytes) finds = damage.none bytes finds.0 finds.1
damaged_lacks troves name x path damage None none = absurd (cc (none, damage.recorded))
