-- What holds of the contents that are read of a repository: each name has one answer, which is that of the state that the tree stores.
use Rattle.std.proofs.Common.{◌≡◌, ℕ, ◌&&◌, ◌||◌, Bool, true, false, IsTrue, List, [], ◌∷◌, length, Option, Some, None, refl, sym, ◌∙◌, ap}
use Rattle.std.specs.List.{list_any}
use Rattle.std.specs.Prelude.{◌==◌}
use Rattle.std.specs.Str.{bytes_eq}
use Rattle.repo_index.specs.cny-stream.declared.record.FileRec.{FileRec}
use Rattle.repo_index.specs.cny-stream.declared.record.FileRec.TheVariants.{Dir, File, Link}
use Rattle.repo_index.specs.cny-stream.Record.{has_name_and_size}
use Rattle.repo_index.specs.trove-parts.declared.files.FileAt.{FileAt}
use Rattle.repo_index.specs.trove-stream.declared.parts.TroveParts.{TroveParts}
use Rattle.journal_log.specs.tree-disk.Tree.{Tree}
use Rattle.content_store.specs.Store.{stored}
use Rattle.repo_index.specs.Catalogue.{has_content, names_content, is_content, is_file_of}
use Rattle.repo_load.specs.State.{troves_of, trove_records, records_content, RepositoryState}
use Rattle.repo_load.specs.Files.{contents_dir, StoresRepository}
use Rattle.repo_load.specs.Contents.{FindsContent}

-- where a file of this name and size is recorded, one of this name is
and_right : (a b : Bool) → IsTrue (a && b) → IsTrue b
and_right true b is = is
and_right false b is = absurd (cc is)

named_record : (name : List ℕ) (size : ℕ) (rec : FileRec) → IsTrue (has_name_and_size name size rec) → IsTrue (is_content name rec)
named_record name size (Dir mode owner) is = is
named_record name size (File mode owner flags of_size of_name) is = and_right (of_size == size) (bytes_eq of_name name) is
named_record name size (Link target) is = is

any_weaker : {A : Type 0} (p q : A → Bool) → ((x : A) → IsTrue (p x) → IsTrue (q x)) → (xs : List A) → IsTrue (list_any p xs) → IsTrue (list_any q xs)
any_weaker p q so [] is = is
any_weaker p q so (x ∷ xs) is = either (p x) (q x) (list_any p xs) (list_any q xs) (so x) (any_weaker p q so xs) is
  where
    either : (a b c d : Bool) → (IsTrue a → IsTrue b) → (IsTrue c → IsTrue d) → IsTrue (a || c) → IsTrue (b || d)
    either a true c d one other is = refl
    either true false c d one other is = absurd (cc (one refl))
    either false false c d one other is = other is

pub recorded_is_named : (name : List ℕ) (size : ℕ) (troves : List TroveParts) → IsTrue (records_content name size troves) → IsTrue (has_content name troves)
recorded_is_named name size troves is =
    any_weaker (trove_records name size) (names_content name) (λ t. any_weaker (λ (file : FileAt). has_name_and_size name size file.rec) (is_file_of name) (λ file. named_record name size file.rec) t.files) troves is

some_same : (a b : List ℕ) (o : Option (List ℕ)) → o ≡ Some a → o ≡ Some b → a ≡ b
some_same a b None one other = absurd (cc one)
some_same a b (Some c) one other = cc (one, other)

pub one_answer : (troves : List TroveParts) (name : List ℕ) (x : Tree) (a b : Option (List ℕ)) → FindsContent troves name x a → FindsContent troves name x b → a ≡ b
one_answer troves name x (Some a) (Some b) one other = ap Some (some_same a b (stored x contents_dir name) one.0 other.0)
one_answer troves name x (Some a) None one other = absurd (cc (other, recorded_is_named name (length a) troves one.1.recorded))
one_answer troves name x None (Some b) one other = absurd (cc (one, recorded_is_named name (length b) troves other.1.recorded))
one_answer troves name x None None one other = refl

pub same_content : (x : Tree) (r : RepositoryState) (name : List ℕ) (found : Option (List ℕ)) → StoresRepository x r → FindsContent (troves_of r.commits) name x found → found ≡ r.contents name
same_content x r name (Some bytes) stores finds =
    let held = stores.repository.there name (length bytes) finds.1.recorded in
    let same : held.0 ≡ bytes = some_same held.0 bytes (stored x contents_dir name) (stores.contents name held.0 held.1) finds.0 in
    sym (held.1 ∙ ap Some same)
same_content x r name None stores none = by (r.contents name) refl
  where
    by : (o : Option (List ℕ)) → r.contents name ≡ o → None ≡ r.contents name
    by None is = sym is
    by (Some bytes) is =
        absurd (cc (none, recorded_is_named name (length bytes) (troves_of r.commits) (stores.repository.named name bytes is).1))
