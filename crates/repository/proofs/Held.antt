-- What stands in a tree that stores a repository under the names that troves record, and contents that collide with it.
use Rattle.std.proofs.Common.{◌≡◌, ℕ, ⊎_elim, Bool, true, false, cond, List, length, Option, Some, None, refl, sym, ◌∙◌, ap}
use Rattle.std.proofs.lemmas.Bool.{and_from, and_parts, cases_Bool}
use Rattle.std.proofs.lemmas.Slice.Eq.{bytes_eq-Decides}
use Rattle.std.specs.Str.{bytes_eq}
use Rattle.sha1.specs.Sha1.{sha1}
use Rattle.repo_load.specs.cny-base.declared.refusal.Refusal.TheVariants.{Collision}
use Rattle.repo_load.specs.trove-stream.declared.parts.TroveParts.{TroveParts}
use Rattle.repo_load.specs.tree-disk.Tree.{Name, Tree}
use Rattle.change_set.specs.declared.change.Carried.{Carried}
use Rattle.repo_load.specs.content-store.Difference.{first_difference}
use Rattle.repo_load.specs.content-store.Store.{stored}
use Rattle.repo_index.specs.Catalogue.{has_content}
use Rattle.repo_load.specs.Files.{contents_dir, StoresRepository}
use Rattle.repo_load.specs.State.{records_content, troves_of, RepositoryState}
use Rattle.repo_load.proofs.CountedNames.{recorded_is_named}
use Rattle.repo_load.proofs.ContentsLaws.{named_is_recorded}
use Rattle.repo_load.specs.Contents.{FindsContent, IsDamagedContent, IsRecorded}
use Rattle.repository.specs.Outcome.{committed_contents, if_recorded, is_recorded}
use Rattle.repository.specs.Tests.{collides, collision_at}

-- ---- bytes that are recorded

pub recorded_same : (troves : List TroveParts) (name bytes : List ℕ) → IsRecorded troves name bytes → is_recorded troves name bytes ≡ true
recorded_same troves name bytes is = and_from _ _ ((bytes_eq-Decides (sha1 bytes) name).1 is.named) is.recorded

pub recorded_means : (troves : List TroveParts) (name bytes : List ℕ) → is_recorded troves name bytes ≡ true → IsRecorded troves name bytes
recorded_means troves name bytes is =
    let both = and_parts (bytes_eq (sha1 bytes) name) (records_content name (length bytes) troves) is in record { named = (bytes_eq-Decides (sha1 bytes) name).0 both.0; recorded = both.1 }

kept_one : (troves : List TroveParts) (name bytes : List ℕ) → IsRecorded troves name bytes → if_recorded troves name (Some bytes) ≡ Some bytes
kept_one troves name bytes is = ap (λ (p : Bool). cond p (Some bytes) None) (recorded_same troves name bytes is)

left_out : (troves : List TroveParts) (name bytes : List ℕ) → (IsRecorded troves name bytes → ⊥) → if_recorded troves name (Some bytes) ≡ None
left_out troves name bytes no' = ⊎_elim
    (λ is. absurd (no' (recorded_means troves name bytes is)))
    (λ lacks. ap (λ (p : Bool). cond p (Some bytes) None) lacks)
    (cases_Bool (is_recorded troves name bytes))

-- none where no trove names the content
pub none_named : (troves : List TroveParts) (x : Tree) (name : List ℕ) → has_content name troves ≡ false → committed_contents troves x name ≡ None
none_named troves x name lacks = by (stored x contents_dir name)
  where
    by : (o : Option (List ℕ)) → if_recorded troves name o ≡ None
    by None = refl
    by (Some bytes) = left_out troves name bytes (λ is. absurd (cc (recorded_is_named name (length bytes) troves is.recorded, lacks)))

-- none where its file is damaged
pub none_damaged : (troves : List TroveParts) (x : Tree) (name : List ℕ) (path : Name) → IsDamagedContent troves name x path → committed_contents troves x name ≡ None
none_damaged troves x name path damage = by (stored x contents_dir name) refl
  where
    by : (o : Option (List ℕ)) → stored x contents_dir name ≡ o → if_recorded troves name (stored x contents_dir name) ≡ None
    by None is = ap (if_recorded troves name) is
    by (Some bytes) is = ap (if_recorded troves name) is ∙ left_out troves name bytes (damage.none bytes is)

at_name : (x : Tree) (r : RepositoryState) → StoresRepository x r → (name : List ℕ) → committed_contents (troves_of r.commits) x name ≡ r.contents name
at_name x r h name = by (r.contents name) refl
  where
    never : r.contents name ≡ None → has_content name (troves_of r.commits) ≡ true → ⊥
    never none is =
        let size = named_is_recorded name (troves_of r.commits) is in
        let there = h.repository.there name size.0 size.1 in
        absurd (cc (none, there.1))

    by : (o : Option (List ℕ)) → r.contents name ≡ o → committed_contents (troves_of r.commits) x name ≡ r.contents name
    by (Some bytes) is =
        let named = h.repository.named name bytes is in
        ap (if_recorded (troves_of r.commits) name) (h.contents name bytes is) ∙ kept_one (troves_of r.commits) name bytes (record { named = named.0; recorded = named.1 }) ∙ sym is
    by None is = ⊎_elim
        (λ has. absurd (never is has))
        (λ lacks. none_named (troves_of r.commits) x name lacks ∙ sym is)
        (cases_Bool (has_content name (troves_of r.commits)))

pub held_is : (x : Tree) (r : RepositoryState) → StoresRepository x r → committed_contents (troves_of r.commits) x ≡ r.contents
held_is x r h = λ i name. at_name x r h name i

pub kept_at : (troves : List TroveParts) (x : Tree) (name kept : List ℕ) → FindsContent troves name x (Some kept) → committed_contents troves x name ≡ Some kept
kept_at troves x name kept finds = ap (if_recorded troves name) finds.0 ∙ kept_one troves name kept finds.1

pub collides_at : (troves : List TroveParts) (x : Tree) (c : Carried) (kept : List ℕ) (at : ℕ) → FindsContent troves c.name x (Some kept) → first_difference kept c.bytes ≡ Some at
    → collides (committed_contents troves x c.name) c ≡ Some (Collision c.name at)
collides_at troves x c kept at finds differs = ap (λ (o : Option (List ℕ)). collides o c) (kept_at troves x c.name kept finds) ∙ ap (collision_at c.name) differs
