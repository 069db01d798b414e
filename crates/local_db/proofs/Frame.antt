-- What doesn't count for a system may change.
use Rattle.std.proofs.Common.{◌≡◌, inl, inr, ⊎_elim, ℕ, true, not, List, [], ◌∷◌, sym, ◌∙◌, ap}
use Rattle.std.specs.FinMap.{get}
use Rattle.sha1.specs.Sha1.{sha1}
use Rattle.trove_stream.specs.cny-base.Reserved.{private_directory, is_reserved}
use Rattle.trove_stream.specs.declared.parts.TroveParts.{TroveParts}
use Rattle.tree_journal.specs.tree-disk.Tree.{Name, Tree, same_name}
use Rattle.tree_journal.proofs.tree-disk.Laws.{same_itself}
use Rattle.tree_journal.specs.journal-log.Own.{StoresSame}
use Rattle.local_db.specs.declared.format.Format.{Format}
use Rattle.local_db.specs.SystemState.{StackItem, SystemState, newest, oldest}
use Rattle.local_db.specs.Names.{database, record_file, saved, is_job_name, is_job_name_of, counts}
use Rattle.content_store.specs.Store.{content_path, file_bytes}
use Rattle.local_db.specs.Stores.{HoldsFile, HoldsItem, HoldsStack, HoldsDatabase, absent, written, StoresIn, StoresSystem}
use Rattle.local_db.proofs.Places.{record_is_job, content_is_job, own_doesnt_count}
use Rattle.trove_stream.proofs.cny-base.Bools.{or_left, or_right}

pub file_stays : (x y : Tree) (name bytes : List ℕ) → get y name ≡ get x name → HoldsFile x name bytes → HoldsFile y name bytes
file_stays x y name bytes same h = ap file_bytes same ∙ h

pub old_stays : (f : Format) (x y : Tree) (after : List TroveParts) (o : StackItem) → ((q : Name) → is_job_name o.number q ≡ true → get y q ≡ get x q)
    → HoldsItem f x after o → HoldsItem f y after o
old_stays f x y after o same h = record {
  bytes = h.bytes;
  file = file_stays x y (record_file o.number) h.bytes (same (record_file o.number) (record_is_job o.number)) h.file;
  text = h.text;
  contents = λ path mode bytes in' is. file_stays x y (content_path (saved o.number) (sha1 bytes)) bytes
      (same (content_path (saved o.number) (sha1 bytes)) (content_is_job o.number (sha1 bytes))) (h.contents path mode bytes in' is);
  fits = h.fits;
}

pub olds_stay : (f : Format) (x y : Tree) (after : List TroveParts) (olds : List StackItem) → ((q : Name) → is_job_name_of olds q ≡ true → get y q ≡ get x q)
    → HoldsStack f x after olds → HoldsStack f y after olds
olds_stay f x y after [] same h = tt
olds_stay f x y after (o ∷ olds) same h = (
  old_stays f x y after o (λ q is. same q (or_left _ _ is)) h.0,
  olds_stay f x y o.list olds (λ q is. same q (or_right (is_job_name o.number q) _ is)) h.1,
)

pub database_stays : (f : Format) (x y : Tree) (list : List TroveParts) (low high : ℕ) → get y database ≡ get x database → HoldsDatabase f x list low high → HoldsDatabase f y list low high
database_stays f x y list low high same (absent none empty a b) = absent (same ∙ none) empty a b
database_stays f x y list low high same (written is file) = written is (file_stays x y _ _ same file)

-- a tree that is equal at all that counts stands for the same system
pub stores_still : (f : Format) (x y : Tree) (s : SystemState) → ((q : Name) → counts s q ≡ true → get y q ≡ get x q) → StoresIn f x s → StoresIn f y s
stores_still f x y s same h = record {
  system = h.system;
  managed = λ q out. same q (or_left _ _ (ap not out)) ∙ h.managed q out;
  list = database_stays f x y s.installed (oldest s.stack) (newest s.stack) (same database (or_right (not (is_reserved database)) _ (or_left _ (is_job_name_of s.stack database) (same_itself database)))) h.list;
  olds = olds_stay f x y s.installed s.stack (λ q is. same q (or_right (not (is_reserved q)) _ (or_right (same_name q database) _ is))) h.olds;
}

-- so the journal's own names don't matter
pub stores_same : (x y : Tree) (s : SystemState) → StoresSame private_directory x y → StoresSystem x s → StoresSystem y s
stores_same x y s same h = ⊎_elim (λ one. inl (by one)) (λ two. inr (by two)) h
  where
    by : {f : Format} → StoresIn f x s → StoresIn f y s
    by {f} h = stores_still f x y s (λ q is. sym (same q (own_doesnt_count s q is))) h
