-- Contents that are put one after another, and what else is prepared.
use Rattle.std.proofs.Common.{◌≡◌, ℕ, zero, suc, ◌+◌, ◌<◌, ◌≤◌, true, List, [], ◌∷◌, length, take, get_or, All, Ok, refl, sym, ◌∙◌, ap, subst, arith}
use Rattle.std.proofs.lemmas.List.Elements.{All-contains, All-from_get_or, All-get_or, All-more}
use Rattle.std.specs.List.{AllByRecursion}
use Rattle.std.specs.List.Sorted.{IsStrictlySortedBy}
use Rattle.std.specs.declared.cmp.Ordering.TheVariants.{Less}
use Rattle.sha1.specs.Sha1.{sha1}
use Rattle.repo_load.specs.tree-disk.Tree.{Name, Tree, is_dir}
use Rattle.repo_load.specs.tree-disk.Rows.{is_dir_at}
use Rattle.repo_load.specs.tree-disk.Disk.{DiskModel, IsDisk}
use Rattle.repo_load.specs.tree-disk.Confined.{AgreesExcept}
use Rattle.repo_load.proofs.tree-disk.ConfinedLaws.{confined_start}
use Rattle.change_set.specs.declared.change.Carried.{Carried}
use Rattle.change_set.specs.ChangeSet.{content_cmp}
use Rattle.repo_load.specs.content-store.Store.{content_path, file_bytes, IsContentName}
use Rattle.repo_index.specs.Catalogue.{CatalogueParts, has_content}
use Rattle.repo_load.specs.Counts.{IsUnnamedContent}
use Rattle.repo_load.specs.Files.{contents_dir, repository_base}
use Rattle.repo_load.specs.journal-log.Own.{staged}
use Rattle.repo_load.specs.tree-disk.Clear.{is_within}
use Rattle.tree_journal.proofs.tree-disk.Names.{within_rest}
use Rattle.repo_load.proofs.CountedNames.{content_apart}
use Rattle.repo_load.proofs.content-store.Digests.{digest_is_name}
use Rattle.change_rel.proofs.cny-stream.Digests.{digest_long}
use Rattle.repository.specs.Preparing.{AreStored, IsCarriedName, IsPutName, IsStored, IsUntold}
use Rattle.tree_journal.specs.Preparing.{Prepares}
use Rattle.repository.proofs.Placing.{dir_not_within}
use Rattle.tree_journal.proofs.tree-disk.Order.{not_before}

pub is_name : (content : Carried) → content.name ≡ sha1 content.bytes → IsContentName content.name
is_name content hash = subst IsContentName (sym hash) (digest_is_name content.bytes (digest_long content.bytes))

pub put_is_unnamed : (c : CatalogueParts) (content : Carried) → content.name ≡ sha1 content.bytes → (q : Name) → IsPutName c content q → IsUnnamedContent c q
put_is_unnamed c content hash q put = record { name = content.name; name_is = is_name content hash; unnamed = put.unnamed; within = put.within }

-- a content that some trove records isn't put
pub nothing_put : {D : Type 0} {disk : DiskModel D} (laws : IsDisk disk) (c : CatalogueParts) (content : Carried) (d : D) → has_content content.name c.troves ≡ true → Prepares disk (IsUntold disk.tells) (IsPutName c content) (IsStored c content) d d (Ok tt)
nothing_put laws c content d named = record {
  later = omega arith;
  ends = λ tells unnamed. absurd (cc (named, unnamed));
  confined = λ tells. confined_start laws (IsPutName c content) d;
}

-- ---- distinct names

rec_at : (P : Carried → Type 0) (cs : List Carried) (i : ℕ) (d : Carried) → AllByRecursion P cs → i < length cs → P (get_or cs i d)
rec_at P [] i d all lt = absurd (omega arith)
rec_at P (c ∷ cs) zero d all lt = all.0
rec_at P (c ∷ cs) (suc i) d all lt = rec_at P cs i d all.1 (omega arith)

-- an earlier content has another name
earlier_name : (cs : List Carried) (j i : ℕ) (d : Carried) → IsStrictlySortedBy content_cmp cs → j < i → i < length cs → (get_or cs j d).name ≡ (get_or cs i d).name → ⊥
unfolding IsStrictlySortedBy
earlier_name [] j i d rises before lt same = absurd (omega arith)
earlier_name (c ∷ cs) j zero d rises before lt same = absurd (omega arith)
earlier_name (c ∷ cs) zero (suc i) d rises before lt same = not_before c.name (get_or cs i d).name same (rec_at (λ (e : Carried). content_cmp c e ≡ Less) cs i d rises.0 (omega arith))
earlier_name (c ∷ cs) (suc j) (suc i) d rises before lt same = earlier_name cs j i d rises.1 (omega arith) (omega arith) same

-- what was stored stays where another content is put
stays_stored : (c : CatalogueParts) (one other : Carried) (old new : Tree) → one.name ≡ sha1 one.bytes → other.name ≡ sha1 other.bytes → (one.name ≡ other.name → ⊥) → AgreesExcept (IsPutName c other) new old → IsStored c one old → IsStored c one new
stays_stored c one other old new one_hash other_hash apart agrees was unnamed =
    ap file_bytes (agrees (content_path contents_dir one.name) (λ put. apart (sym (content_apart other.name one.name (is_name other other_hash) (is_name one one_hash) put.within)))) ∙ was unnamed

pub stored_more : (c : CatalogueParts) (cs : List Carried) (i : ℕ) (content : Carried) (old new : Tree) → All (λ (one : Carried). one.name ≡ sha1 one.bytes) cs → IsStrictlySortedBy content_cmp cs → i < length cs → content ≡ get_or cs i content
    → AgreesExcept (IsPutName c content) new old → AreStored c (take i cs) old → IsStored c content new → AreStored c (take (i + 1) cs) new
stored_more c cs i content old new hash rises lt is agrees was now =
    All-more (λ (one : Carried). IsStored c one new) cs i content lt
    (earlier cs i hash rises lt is was)
    (subst (λ (one : Carried). IsStored c one new) is now)
  where
    earlier : (cs : List Carried) (i : ℕ) → All (λ (one : Carried). one.name ≡ sha1 one.bytes) cs → IsStrictlySortedBy content_cmp cs → i < length cs → content ≡ get_or cs i content → AreStored c (take i cs) old → AreStored c (take i cs) new
    earlier cs i hash rises lt is was = All-from_get_or (λ (one : Carried). IsStored c one new) (take i cs) content (λ j within.
        let at : get_or (take i cs) j content ≡ get_or cs j content = taken_at cs i j content (omega (arith, within, long cs i)) in
        let small : j < i = omega (arith, within, long cs i) in
        subst (λ (one : Carried). IsStored c one new) (sym at)
        (stays_stored c (get_or cs j content) content old new
        (All-get_or (λ (one : Carried). one.name ≡ sha1 one.bytes) cs j content (omega (arith, small, lt)) hash)
        (subst (λ (one : Carried). one.name ≡ sha1 one.bytes) (sym is) (All-get_or (λ (one : Carried). one.name ≡ sha1 one.bytes) cs i content lt hash))
        (λ same. earlier_name cs j i content rises small lt (same ∙ ap (λ (one : Carried). one.name) is))
        agrees
        (subst (λ (one : Carried). IsStored c one old) at (All-get_or (λ (one : Carried). IsStored c one old) (take i cs) j content within was))))
      where
        long : (cs : List Carried) (i : ℕ) → length (take i cs) ≤ i
        long [] zero = omega arith
        long [] (suc i) = omega arith
        long (x ∷ cs) zero = omega arith
        long (x ∷ cs) (suc i) = omega (arith, long cs i)

        taken_at : (cs : List Carried) (i j : ℕ) (d : Carried) → j < i → get_or (take i cs) j d ≡ get_or cs j d
        taken_at [] zero j d lt = refl
        taken_at [] (suc i) j d lt = refl
        taken_at (x ∷ cs) zero j d lt = absurd (omega arith)
        taken_at (x ∷ cs) (suc i) zero d lt = refl
        taken_at (x ∷ cs) (suc i) (suc j) d lt = taken_at cs i j d (omega arith)

-- the file of a content is one of a carried content
pub put_is_carried : (c : CatalogueParts) (cs : List Carried) (i : ℕ) (content : Carried) → i < length cs → content ≡ get_or cs i content → (q : Name) → IsPutName c content q → IsCarriedName c cs q
put_is_carried c cs i content lt is q put = record { content = content; among = (i, lt, sym is); put = put }

-- and that of a content that no trove names
pub carried_is_unnamed : (c : CatalogueParts) (cs : List Carried) → All (λ (one : Carried). one.name ≡ sha1 one.bytes) cs → (q : Name) → IsCarriedName c cs q → IsUnnamedContent c q
carried_is_unnamed c cs hash q is = put_is_unnamed c is.content (All-contains (λ (one : Carried). one.name ≡ sha1 one.bytes) cs is.content hash is.among) q is.put

-- the directory stays where contents are put
dir_kept : (c : CatalogueParts) (old new : Tree) → AgreesExcept (IsUnnamedContent c) new old → is_dir_at old contents_dir ≡ true → is_dir_at new contents_dir ≡ true
dir_kept c old new agrees dir = ap is_dir (agrees contents_dir (λ is. absurd (cc (is.within, dir_not_within is.name)))) ∙ dir

pub carried_dir_kept : (c : CatalogueParts) (cs : List Carried) → All (λ (one : Carried). one.name ≡ sha1 one.bytes) cs → (old new : Tree) → AgreesExcept (IsCarriedName c cs) new old → is_dir_at old contents_dir ≡ true
    → is_dir_at new contents_dir ≡ true
carried_dir_kept c cs hash old new agrees dir = dir_kept c old new (λ q out. agrees q (λ is. out (carried_is_unnamed c cs hash q is))) dir

pub hash_at : (cs : List Carried) (i : ℕ) (content : Carried) → i < length cs → content ≡ get_or cs i content → All (λ (one : Carried). one.name ≡ sha1 one.bytes) cs → content.name ≡ sha1 content.bytes
hash_at cs i content lt is all = subst (λ (one : Carried). one.name ≡ sha1 one.bytes) (sym is) (All-get_or (λ (one : Carried). one.name ≡ sha1 one.bytes) cs i content lt all)

-- no file of a content is staged
pub carried_not_staged : (c : CatalogueParts) (cs : List Carried) (q : Name) → is_within (staged repository_base) q ≡ true → IsCarriedName c cs q → ⊥
carried_not_staged c cs q within is =
    let a = within_rest (staged repository_base) q within in
    let b = within_rest (content_path contents_dir is.content.name) q is.put.within in
    let one : 112 ≡ 99 = sym (ap (λ (n : Name). get_or n 12 0) a.1) ∙ ap (λ (n : Name). get_or n 12 0) b.1 in
    omega (arith, one)
