-- The laws of change sets between troves.
use Rattle.std.proofs.Common.{◌≡◌, ℕ, List, [], ◌∷◌, length, map, All, Contains, Option, Some, None, refl, sym, ap, ◌∙◌, subst}
use Rattle.std.specs.Prelude.{◌↔◌}
use Rattle.std.specs.Cmp.{IsTotalOrder}
use Rattle.std.specs.Cmp.Lexicographic.{nat_list_cmp_total}
use Rattle.std.specs.List.{cons_option}
use Rattle.std.proofs.lemmas.Cmp.{on_total}
use Rattle.std.proofs.lemmas.List.Elements.{All-contains}
use Rattle.repo_load.specs.trove-stream.declared.parts.TroveParts.{TroveParts}
use Rattle.repo_load.specs.trove-stream.declared.rel.RelParts.{RelParts}
use Rattle.change_rel.specs.trove-stream.Leads.{Leads}
use Rattle.change_set.specs.declared.change.Part.{Part}
use Rattle.change_set.specs.declared.change.Part.TheVariants.{Whole, Relative}
use Rattle.change_set.specs.declared.change.Carried.{Carried}
use Rattle.change_set.specs.declared.change.ChangeSet.{ChangeSet}
use Rattle.change_set.specs.ChangeSet.{content_cmp}
use Rattle.repo_load.specs.tree-disk.Tree.{Name, Tree}
use Rattle.repo_load.specs.content-store.Store.{stored}
use Rattle.repo_load.specs.State.{troves_of, RepositoryState}
use Rattle.repo_load.specs.Files.{contents_dir, StoresRepository}
use Rattle.repo_index.specs.Catalogue.{AreCommitted}
use Rattle.repository.specs.Between.{carried_name, old_trove_of, AreContents, ArePartsBetween, HasStored, LeadsBetween, IsPartOf, RecordsContent, SendsContent}
use Rattle.repository.specs.Damage.{IsDamagedBetween}
use Rattle.repository.proofs.BetweenCarrying.{records_sized, sends_records}
use Rattle.change_rel.proofs.cny-base.Lists.{all_from, contains_map, nothing_in, from_map as mapped}
use Rattle.repo_load.proofs.Holding.{some_bytes as same_bytes}
use Rattle.change_rel.proofs.cny-base.Sorted.{same_members}

-- ---- no old troves

whole_part : (t : TroveParts) (part : Option Part) → IsPartOf None t part → part ≡ Some (Whole t)
whole_part t None is = absurd is
whole_part t (Some (Relative rel)) is = absurd is
whole_part t (Some (Whole u)) is = ap (λ (v : TroveParts). Some (Whole v)) is

pub whole_parts : (fresh : List TroveParts) (parts : List Part) → ArePartsBetween [] fresh parts → parts ≡ map Whole fresh
whole_parts [] parts are = are
whole_parts (t ∷ fresh) parts are =
    are.4 ∙ ap (λ (o : Option Part). cons_option o are.1) (whole_part t are.0 are.2) ∙ ap (λ (l : List Part). Whole t ∷ l) (whole_parts fresh are.1 are.3)

pub all_sent : (fresh : List TroveParts) (name : List ℕ) → SendsContent [] fresh name ↔ ((size : ℕ) × RecordsContent fresh name size)
all_sent fresh name = (
  (λ s. sends_records [] fresh name s),
  (λ h. record {
    trove = h.1.trove;
    there = h.1.there;
    sends = (h.1.file, h.1.among, record { size = h.0; content = h.1.content; lacked = λ r. absurd (nothing_in r.0 r.1) });
  }),
)

-- ---- one set

-- one relative trove at most leads from a trove to another
abbrev pub OneRelative : Type 0
OneRelative = (old fresh : TroveParts) (a b : RelParts) → Leads a old fresh → Leads b old fresh → a ≡ b

other_ids : (rel : RelParts) (old fresh : TroveParts) → Leads rel old fresh → old.id ≡ fresh.id → ⊥
other_ids rel old fresh leads same = leads.rel_is.together.two_ids (sym leads.from ∙ same ∙ leads.to)

one_part : OneRelative → (o : Option TroveParts) (fresh : TroveParts) (p q : Option Part) → IsPartOf o fresh p → IsPartOf o fresh q → p ≡ q
one_part one None fresh p q is other = whole_part fresh p is ∙ sym (whole_part fresh q other)
one_part one (Some old) fresh None None is other = refl
one_part one (Some old) fresh None (Some (Relative rel)) is other = absurd (other_ids rel old fresh other is)
one_part one (Some old) fresh None (Some (Whole u)) is other = absurd other
one_part one (Some old) fresh (Some (Relative rel)) None is other = absurd (other_ids rel old fresh is other)
one_part one (Some old) fresh (Some (Relative a)) (Some (Relative b)) is other = ap (λ (r : RelParts). Some (Relative r)) (one old fresh a b is other)
one_part one (Some old) fresh (Some (Relative rel)) (Some (Whole u)) is other = absurd other
one_part one (Some old) fresh (Some (Whole u)) q is other = absurd is

pub one_parts : OneRelative → (old fresh : List TroveParts) (a b : List Part) → ArePartsBetween old fresh a → ArePartsBetween old fresh b → a ≡ b
one_parts one old [] a b are other = are ∙ sym other
one_parts one old (t ∷ fresh) a b are other =
    let first = one_part one (old_trove_of old t) t are.0 other.0 are.2 other.2 in
    let rest = one_parts one old fresh are.1 other.1 are.3 other.3 in
    are.4 ∙ ap (λ (o : Option Part). cons_option o are.1) first ∙ ap (cons_option other.0) rest ∙ sym other.4

content_total : IsTotalOrder content_cmp
content_total = on_total (λ (c : Carried). c.name) nat_list_cmp_total

-- each content is that of its name in this map
abbrev pub AreHeld : (List ℕ → Option (List ℕ)) → List Carried → Type 0
AreHeld held contents = All (λ (c : Carried). held c.name ≡ Some c.bytes) contents

-- a content of the one set is one of the other
in_other : (held : List ℕ → Option (List ℕ)) (old fresh : List TroveParts) (a b : List Carried) → AreContents old fresh a → AreContents old fresh b → AreHeld held a → AreHeld held b → (c : Carried) → Contains a c → Contains b c
in_other held old fresh a b are other stands stands' c among =
    let found = mapped carried_name b c.name ((other.each c.name).1 ((are.each c.name).0 (contains_map carried_name a c among))) in
    let d : Carried = found.0 in
    let own : held c.name ≡ Some c.bytes = All-contains (λ (e : Carried). held e.name ≡ Some e.bytes) a c stands among in
    let its : held d.name ≡ Some d.bytes = All-contains (λ (e : Carried). held e.name ≡ Some e.bytes) b d stands' found.1 in
    let bytes : d.bytes ≡ c.bytes = same_bytes d.bytes c.bytes (held c.name) (ap held (sym found.2) ∙ its) own in
    let same : d ≡ c = λ i. record { name = found.2 i; bytes = bytes i } in
    subst (Contains b) same found.1

pub one_contents : (held : List ℕ → Option (List ℕ)) (old fresh : List TroveParts) (a b : List Carried) → AreContents old fresh a → AreContents old fresh b → AreHeld held a → AreHeld held b → a ≡ b
one_contents held old fresh a b are other stands stands' =
    same_members content_cmp content_total a b are.rising other.rising (in_other held old fresh a b are other stands stands') (in_other held old fresh b a other are stands' stands)

pub one_between : OneRelative → (x : Tree) (old fresh : List TroveParts) (a b : ChangeSet) → LeadsBetween old fresh a → LeadsBetween old fresh b → HasStored x a → HasStored x b → a ≡ b
one_between one x old fresh a b is other stands stands' =
    let parts = one_parts one old fresh a.parts b.parts is.parts other.parts in
    let contents = one_contents (stored x contents_dir) old fresh a.contents b.contents is.contents other.contents stands stands' in
    λ i. record { parts = parts i; contents = contents i }

-- ---- a tree that stores a repository

module _ (x : Tree) (r : RepositoryState) (fresh : List TroveParts) (stores : StoresRepository x r) (committed : AreCommitted (troves_of r.commits) fresh) where
  -- the bytes that it has for a record of one of the troves
  has_bytes : (name : List ℕ) (size : ℕ) → RecordsContent fresh name size → (bytes : List ℕ) × (r.contents name ≡ Some bytes) × (length bytes ≡ size)
  has_bytes name size records = stores.repository.there name size (records_sized (troves_of r.commits) fresh committed name size records)

  pub undamaged : (old : List TroveParts) (path : Name) → IsDamagedBetween old fresh x path → ⊥
  undamaged old path d =
      let one = sends_records old fresh d.name d.sent in
      let held = has_bytes d.name one.0 one.1 in
      d.none held.0 (stores.contents d.name held.0 held.1) (record {
        named = (stores.repository.named d.name held.0 held.1).0;
        sized = λ size records.
            let other = has_bytes d.name size records in ap (λ (l : List ℕ). length l) (same_bytes held.0 other.0 (r.contents d.name) held.1 other.1) ∙ other.2;
      })

  held_content : (old : List TroveParts) (set : ChangeSet) → LeadsBetween old fresh set → HasStored x set → (c : Carried) → Contains set.contents c → r.contents c.name ≡ Some c.bytes
  held_content old set is stands c among =
      let one = sends_records old fresh c.name ((is.contents.each c.name).0 (contains_map carried_name set.contents c among)) in
      let held = has_bytes c.name one.0 one.1 in
      let own = All-contains (λ (e : Carried). stored x contents_dir e.name ≡ Some e.bytes) set.contents c stands among in
      held.1 ∙ ap some_bytes (same_bytes held.0 c.bytes (stored x contents_dir c.name) (stores.contents c.name held.0 held.1) own)
    where
      some_bytes : List ℕ → Option (List ℕ)
      some_bytes bytes = Some bytes

  pub contents_of_state : (old : List TroveParts) (set : ChangeSet) → LeadsBetween old fresh set → HasStored x set → All (λ (content : Carried). r.contents content.name ≡ Some content.bytes) set.contents
  contents_of_state old set is stands = all_from (λ (content : Carried). r.contents content.name ≡ Some content.bytes) set.contents (held_content old set is stands)
