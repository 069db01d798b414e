-- Which staged file doesn't stand, and the digest of a file that is read in pieces.
use Rattle.std.proofs.Common.{◌≡◌, ⊎_elim, ℕ, ◌+◌, ◌-◌, ◌<◌, ◌≤◌, min, Bool, true, false, ◌&&◌, ◌==◌, IsTrue, List, ◌++◌, length, get_or, take, drop, Option, Some, None, refl, sym, ◌∙◌, ap, subst, arith}
use Rattle.std.proofs.lemmas.Bool.{cases_lt}
use Rattle.std.proofs.lemmas.Bool.Decides.{nat_tests}
use Rattle.std.proofs.lemmas.List.{take_all}
use Rattle.std.proofs.lemmas.List.Elements.{All-contains, All-more}
use Rattle.std.specs.List.{All}
use Rattle.std.specs.Str.{bytes_eq}
use Rattle.sha1.specs.Sha1.{sha1}
use Rattle.journal_log.specs.cny-base.declared.node.Node.{Node}
use Rattle.journal_log.specs.cny-base.declared.node.Node.TheVariants as node
use Rattle.journal_log.specs.tree-disk.Tree.{Name, Tree, is_file}
use Rattle.journal_log.specs.tree-disk.Rows.{bytes_of, seen_as}
use Rattle.journal_log.specs.declared.put.Put.{Put}
use Rattle.journal_log.specs.WriteSet.{Rises}
use Rattle.tree_journal.specs.Staging.{is_content, has_content, AllStaged}
use Rattle.tree_journal.specs.Recovery.{IsStagedPath, IsFirstUnstaged}
use Rattle.tree_journal.specs.Found.{sees_size}
use Rattle.tree_journal.proofs.PutTest.{listed_before}
use Rattle.tree_journal.proofs.Copies.{one_more}
use Rattle.journal_log.proofs.cny-base.ByteLists.{read_front as piece_read}

-- ---- what a look and a digest say of a file

pub other_size : (o : Option Node) (size : ℕ) (name : List ℕ) → sees_size (seen_as o) size ≡ false → false ≡ is_content o size name
other_size None size name is = refl
other_size (Some (node.Dir mode)) size name is = refl
other_size (Some (node.File mode bytes)) size name is = sym (ap (λ (b : Bool). b && bytes_eq (sha1 bytes) name) is)
other_size (Some (node.Link target)) size name is = refl

pub of_size : (o : Option Node) (size : ℕ) → sees_size (seen_as o) size ≡ true → (is_file o ≡ true) × ((length (bytes_of o) == size) ≡ true)
of_size None size is = absurd (cc is)
of_size (Some (node.Dir mode)) size is = absurd (cc is)
of_size (Some (node.File mode bytes)) size is = (refl, is)
of_size (Some (node.Link target)) size is = absurd (cc is)

pub same_size : (o : Option Node) (size : ℕ) (name : List ℕ) → sees_size (seen_as o) size ≡ true → bytes_eq (sha1 (bytes_of o)) name ≡ is_content o size name
same_size None size name is = absurd (cc is)
same_size (Some (node.Dir mode)) size name is = absurd (cc is)
same_size (Some (node.File mode bytes)) size name is = sym (ap (λ (b : Bool). b && bytes_eq (sha1 bytes) name) is)
same_size (Some (node.Link target)) size name is = absurd (cc is)

-- ---- pieces

pub hashed_more : (file old new : List ℕ) (at count : ℕ) → count ≡ min (length old) (length file - at) → new ≡ take count (drop at file) ++ drop count old
    → take at file ++ take count new ≡ take (at + count) file
hashed_more file old new at count most is = ap (λ (l : List ℕ). take at file ++ l) (piece_read file old new at count most is) ∙ one_more file at (length old) count most

pub hashed_all : (file : List ℕ) (at size : ℕ) → length file ≡ size → size ≤ at → take at file ≡ file
hashed_all file at size long le = take_all at file (omega (arith, long, le))

pub piece_is_last : (file : List ℕ) (at size room count : ℕ) → length file ≡ size → count ≡ min room (length file - at) → count ≡ 0 → (0 < size → 0 < room) → size ≤ at
piece_is_last file at size room count long most none some = ⊎_elim
    (λ lt. absurd (omega (arith, lt, most, none, long, some (omega (arith, lt)))))
    (λ le. le) (cases_lt at size)

-- ---- a loop over the writes

module _ (base : Name) (puts items : List Put) (same : items ≡ puts) (tree : Tree) (i : ℕ) where
  pub one_more_stands : (p : Put) → i < length items → p ≡ get_or items i p → has_content base tree p.want ≡ true
      → All (λ (x : Put). IsTrue (has_content base tree x.want)) (take i items) → All (λ (x : Put). IsTrue (has_content base tree x.want)) (take (i + 1) items)
  one_more_stands p lt is stands before = All-more (λ (x : Put). IsTrue (has_content base tree x.want)) items i p lt before (subst (λ (x : Put). IsTrue (has_content base tree x.want)) is stands)

  pub first_unstaged_here : (p : Put) (path : Name) → Rises items → i < length items → p ≡ get_or items i p → IsStagedPath base p.want path → has_content base tree p.want ≡ false
      → All (λ (x : Put). IsTrue (has_content base tree x.want)) (take i items) → IsFirstUnstaged base puts tree path
  first_unstaged_here p path rises lt is here fails before = subst (λ (l : List Put). IsFirstUnstaged base l tree path) same (record {
    write = p;
    listed = (i, lt, sym is);
    here = here;
    fails = fails;
    first = λ q in' less. All-contains (λ (x : Put). IsTrue (has_content base tree x.want)) (take i items) q before (listed_before items rises i p q lt is in' less);
  })

  pub all_stand : length items ≤ i → All (λ (x : Put). IsTrue (has_content base tree x.want)) (take i items) → AllStaged base tree puts
  all_stand le before = subst (AllStaged base tree) same (subst (All (λ (x : Put). IsTrue (has_content base tree x.want))) (take_all i items le) before)

pub size_equal : (o : Option Node) (size : ℕ) → sees_size (seen_as o) size ≡ true → length (bytes_of o) ≡ size
size_equal o size is = let same = (of_size o size is).1 in grind (arith, nat_tests)
