-- The contents of a change set, and where its parts record them.
use Rattle.std.proofs.Common.{◌≡◌, ℕ, ⊎_elim, Bool, true, List, [], ◌∷◌, length, map, All, Contains, Option, Some, None, refl, sym, ap, ◌∙◌, subst, slice_get}
use Rattle.std.specs.Prelude.{◌↔◌, IsTrue}
use Rattle.std.specs.List.{cons_option, list_any, AllByRecursion}
use Rattle.std.specs.List.Sorted.{IsStrictlySortedBy}
use Rattle.std.specs.Option.{option_map_or}
use Rattle.std.specs.declared.cmp.Ordering.TheVariants.{Less}
use Rattle.std.proofs.lemmas.List.Elements.{All-contains}
use Rattle.std.proofs.lemmas.Option.{slice_get-get_or}
use Rattle.repo_load.specs.trove-parts.declared.id.TroveId.{TroveId}
use Rattle.repo_load.specs.trove-parts.Order.{id_eq, id_equiv}
use Rattle.repo_load.specs.trove-parts.declared.files.FileAt.{FileAt}
use Rattle.repo_load.specs.trove-parts.Files.{path_of}
use Rattle.repo_load.specs.trove-stream.declared.parts.TroveParts.{TroveParts}
use Rattle.change_rel.specs.Sending.{content_of, name_cmp, Records}
use Rattle.change_set.specs.declared.change.Part.{Part}
use Rattle.change_set.specs.declared.change.Part.TheVariants.{Whole, Relative}
use Rattle.change_set.specs.declared.change.Carried.{Carried}
use Rattle.change_set.specs.ChangeSet.{content_cmp, has_record, HasContents, IsContentOf}
use Rattle.repo_load.specs.tree-disk.Tree.{Name, Tree}
use Rattle.repo_load.specs.content-store.Store.{content_path, stored}
use Rattle.repo_index.specs.Catalogue.{AreCommitted, has_content, is_file_of, is_file_sized, names_content, records_content, trove_records, HasDistinctIds}
use Rattle.repo_load.specs.Files.{contents_dir}
use Rattle.repo_load.specs.Contents.{IsRecorded}
use Rattle.repository.specs.Between.{carried_name, old_files, old_trove_of, AreContents, ArePartsBetween, AreStoredIn, IsPartOf, IsSoundContent, RecordsContent, SendsContent}
use Rattle.repository.specs.Damage.{IsDamagedBetween}
use Rattle.repository.specs.BetweenSteps.{AllFit, AreNames, HasOther, IsDamagedAmong, IsHashed}
use Rattle.repository.proofs.Members.{named_record, sized_record}
use Rattle.repository.proofs.Searched.{found_is}
use Rattle.change_rel.proofs.cny-base.Lists.{all_from, contains_cases, contains_first, contains_map, nothing_in}
use Rattle.change_rel.proofs.cny-base.Recorded.{any_of}
use Rattle.change_rel.proofs.cny-base.Bools.{or_later}
use Rattle.repo_load.proofs.Holding.{some_bytes as same_bytes}

-- ---- what is sent is recorded

-- one of the new troves records it
pub sends_records : (old fresh : List TroveParts) (name : List ℕ) → SendsContent old fresh name → (size : ℕ) × RecordsContent fresh name size
sends_records old fresh name s = (s.sends.2.size, record { trove = s.trove; there = s.there; file = s.sends.0; among = s.sends.1; content = s.sends.2.content })

pub records_sized : (troves fresh : List TroveParts) → AreCommitted troves fresh → (name : List ℕ) (size : ℕ) → RecordsContent fresh name size → IsTrue (records_content name size troves)
records_sized troves fresh committed name size r =
    any_of (trove_records name size) troves r.trove (committed r.trove r.there) (any_of (is_file_sized name size) r.trove.files r.file r.among (sized_record r.file.rec name size r.content))

records_named : (troves fresh : List TroveParts) → AreCommitted troves fresh → (name : List ℕ) (size : ℕ) → RecordsContent fresh name size → IsTrue (has_content name troves)
records_named troves fresh committed name size r =
    any_of (names_content name) troves r.trove (committed r.trove r.there) (any_of (is_file_of name) r.trove.files r.file r.among (named_record r.file.rec name size r.content))

pub names_committed : (troves old fresh : List TroveParts) (names : List (List ℕ)) → AreCommitted troves fresh → AreNames old fresh names → All (λ (name : List ℕ). has_content name troves ≡ true) names
names_committed troves old fresh names committed are =
    all_from (λ (name : List ℕ). has_content name troves ≡ true) names (λ name among.
    let r = sends_records old fresh name ((are.each name).0 among) in records_named troves fresh committed name r.0 r.1)

-- ---- the order of contents

all_mapped : {A B : Type 0} (f : A → B) (P : B → Type 0) (xs : List A) → AllByRecursion P (map f xs) → AllByRecursion (λ x. P (f x)) xs
all_mapped f P [] all = tt
all_mapped f P (x ∷ xs) all = (all.0, all_mapped f P xs all.1)

pub rising_contents : (contents : List Carried) → IsStrictlySortedBy name_cmp (map carried_name contents) → IsStrictlySortedBy content_cmp contents
unfolding IsStrictlySortedBy
rising_contents [] rises = tt
rising_contents (c ∷ contents) rises = (all_mapped carried_name (λ (name : List ℕ). name_cmp c.name name ≡ Less) contents rises.0, rising_contents contents rises.1)

pub rising_of : (old fresh : List TroveParts) (names : List (List ℕ)) (contents : List Carried) → AreNames old fresh names → map carried_name contents ≡ names → IsStrictlySortedBy content_cmp contents
rising_of old fresh names contents are is = rising_contents contents (subst (λ (l : List (List ℕ)). IsStrictlySortedBy name_cmp l) (sym is) are.rising)

-- ---- damage

-- a content that is damaged for the catalogue is so for the new troves
pub damaged_name : (troves old fresh : List TroveParts) (names : List (List ℕ)) → AreCommitted troves fresh → AreNames old fresh names → (tree : Tree) (path : Name) → IsDamagedAmong troves names tree path → IsDamagedBetween old fresh tree path
damaged_name troves old fresh names committed are tree path d =
    let sent = (are.each d.name).0 d.among in
    let r = sends_records old fresh d.name sent in
    let recorded : (bytes : List ℕ) → IsSoundContent fresh d.name bytes → IsRecorded troves d.name bytes = λ bytes sound. record {
      named = sound.named;
      recorded = subst (λ (n : ℕ). IsTrue (records_content d.name n troves)) (sym (sound.sized r.0 r.1)) (records_sized troves fresh committed d.name r.0 r.1);
    } in
    record { name = d.name; sent = sent; here = d.damaged.here; none = λ bytes stands sound. d.damaged.none bytes stands (recorded bytes sound) }

-- a content that has another size than a record tells
pub damaged_size : (old fresh : List TroveParts) (names : List (List ℕ)) (contents : List Carried) (other : List ℕ) → AreNames old fresh names → map carried_name contents ≡ names → HasOther contents fresh other
    → (tree : Tree) (path : Name) → AreStoredIn tree contents → path ≡ content_path contents_dir other → IsDamagedBetween old fresh tree path
damaged_size old fresh names contents other are is h tree path stands here =
    let o = h.has.has.is in
    let c : Carried = o.content in
    let own : stored tree contents_dir c.name ≡ Some c.bytes = All-contains (λ (d : Carried). stored tree contents_dir d.name ≡ Some d.bytes) contents c stands o.among in
    let told : content_of h.has.file.rec ≡ Some (c.name, h.has.has.size) = h.has.has.content ∙ ap (λ (n : List ℕ). some_content n h.has.has.size) (sym o.named) in
    let r : RecordsContent fresh c.name h.has.has.size = record { trove = h.trove; there = h.there; file = h.has.file; among = h.has.among; content = told } in
    record {
      name = c.name;
      sent = (are.each c.name).0 (subst (λ (l : List (List ℕ)). Contains l c.name) is (contains_map carried_name contents c o.among));
      here = here ∙ ap (content_path contents_dir) (o.is ∙ sym o.named);
      none = λ bytes there sound. o.sized (ap (λ (l : List ℕ). length l) (same_bytes c.bytes bytes (stored tree contents_dir c.name) own there) ∙ sound.sized h.has.has.size r);
    }
  where
    some_content : List ℕ → ℕ → Option (List ℕ × ℕ)
    some_content name size = Some (name, size)

-- ---- the contents that are sent

pub contents_are : (old fresh : List TroveParts) (names : List (List ℕ)) (contents : List Carried) → AreNames old fresh names → map carried_name contents ≡ names → All IsHashed contents → AllFit contents fresh → AreContents old fresh contents
contents_are old fresh names contents are is hashed fit = record {
  rising = rising_of old fresh names contents are is;
  each = λ name. subst (λ (l : List (List ℕ)). Contains l name ↔ SendsContent old fresh name) (sym is) (are.each name);
  sound = all_from (λ (c : Carried). IsSoundContent fresh c.name c.bytes) contents (λ c among. record {
    named = (All-contains IsHashed contents c hashed among).hash;
    sized = λ size r. fit r.trove r.there r.file r.among c.name size r.content c among refl;
  });
}

-- ---- the records of parts

-- troves of one id are one
pub same_trove : (troves : List TroveParts) → HasDistinctIds troves → (t u : TroveParts) → Contains troves t → Contains troves u → t.id ≡ u.id → t ≡ u
same_trove troves distinct t u h g same =
    let at : slice_get troves h.0 ≡ Some t = slice_get-get_or troves h.0 t h.1 ∙ ap (λ (v : TroveParts). Some v) h.2 in
    let other : slice_get troves g.0 ≡ Some u = slice_get-get_or troves g.0 u g.1 ∙ ap (λ (v : TroveParts). Some v) g.2 in
    let one : h.0 ≡ g.0 = distinct h.0 g.0 t u at other (ap (λ (id : TroveId). id_eq id u.id) same ∙ id_equiv.refl u.id) in
    some_trove t u (slice_get troves g.0) (ap (slice_get troves) (sym one) ∙ at) other
  where
    some_trove : (a b : TroveParts) (o : Option TroveParts) → o ≡ Some a → o ≡ Some b → a ≡ b
    some_trove a b None one other = absurd (cc one)
    some_trove a b (Some v) one other = cc (one, other)

module _ (troves old : List TroveParts) (committed : AreCommitted troves old) (distinct : HasDistinctIds troves) where
  -- a part records the content of a file that the old trove of its name lacks
  part_records : (t : TroveParts) → Contains troves t → (file : FileAt) → Contains t.files file → (name : List ℕ) (size : ℕ) → content_of file.rec ≡ Some (name, size)
      → (Records (old_files old t) (path_of file) size name → ⊥) → (part : Option Part) → IsPartOf (old_trove_of old t) t part → (q : Part) × (part ≡ Some q) × IsTrue (has_record name size q)
  part_records t there file among name size content lacked part is = by (old_trove_of old t) refl lacked part is
    where
      sized : IsTrue (is_file_sized name size file)
      sized = sized_record file.rec name size content

      by : (o : Option TroveParts) → old_trove_of old t ≡ o → (Records (option_map_or (λ (u : TroveParts). u.files) o []) (path_of file) size name → ⊥) → (part : Option Part) → IsPartOf o t part
          → (q : Part) × (part ≡ Some q) × IsTrue (has_record name size q)
      by None e lacked None is = absurd is
      by None e lacked (Some (Relative rel)) is = absurd is
      by None e lacked (Some (Whole u)) is = (Whole u, refl, any_of (is_file_sized name size) u.files file (subst (λ (v : TroveParts). Contains v.files file) (sym is) among) sized)
      by (Some b) e lacked (Some (Whole u)) is = absurd is
      by (Some b) e lacked None is =
          let b_in : Contains troves b = committed b (found_is (λ (u : TroveParts). u.id.name) old t.id.name b e).0 in
          let same : b ≡ t = same_trove troves distinct b t b_in there is in
          absurd (lacked (file, subst (λ (v : TroveParts). Contains v.files file) (sym same) among, refl, content))
      by (Some b) e lacked (Some (Relative rel)) is = ⊎_elim
          (λ remains. absurd (lacked (file, remains.0, refl, content)))
          (λ set. (Relative rel, refl, any_of (is_file_sized name size) rel.files_set file set sized))
          ((is.files.result file).0 among)

  cons_first : (test : Part → Bool) (part : Option Part) (q : Part) (rest : List Part) → part ≡ Some q → IsTrue (test q) → IsTrue (list_any test (cons_option part rest))
  cons_first test None q rest is passes = absurd (cc is)
  cons_first test (Some p) q rest is passes = let same : q ≡ p = cc is in any_of test (p ∷ rest) p (contains_first p rest) (ap test (sym same) ∙ passes)

  cons_rest : (test : Part → Bool) (part : Option Part) (rest : List Part) → IsTrue (list_any test rest) → IsTrue (list_any test (cons_option part rest))
  cons_rest test None rest passes = passes
  cons_rest test (Some p) rest passes = or_later (test p) (list_any test rest) passes

  -- one of the parts does
  pub parts_record : (fresh : List TroveParts) (parts : List Part) → ArePartsBetween old fresh parts → (t : TroveParts) → Contains fresh t → Contains troves t → (file : FileAt) → Contains t.files file → (name : List ℕ) (size : ℕ)
      → content_of file.rec ≡ Some (name, size) → (Records (old_files old t) (path_of file) size name → ⊥) → IsTrue (list_any (has_record name size) parts)
  parts_record [] parts are t h there file among name size content lacked = absurd (nothing_in t h)
  parts_record (x ∷ fresh) parts are t h there file among name size content lacked =
      subst (λ (l : List Part). IsTrue (list_any (has_record name size) l)) (sym are.4) (⊎_elim
      (λ e.
      let own : IsPartOf (old_trove_of old t) t are.0 = subst (λ (u : TroveParts). IsPartOf (old_trove_of old u) u are.0) e are.2 in
      let told = part_records t there file among name size content lacked are.0 own in
      cons_first (has_record name size) are.0 told.0 are.1 told.1 told.2)
      (λ later. cons_rest (has_record name size) are.0 are.1 (parts_record fresh are.1 are.3 t later there file among name size content lacked))
      (contains_cases x t fresh h))

  -- so the parts and the contents are a change set
  pub has_contents : (fresh : List TroveParts) (parts : List Part) (contents : List Carried) → AreCommitted troves fresh → ArePartsBetween old fresh parts → AreContents old fresh contents → All IsHashed contents
      → HasContents (record { parts = parts; contents = contents })
  unfolding sends_records
  has_contents fresh parts contents fresh_committed are carried hashed = record {
    contents = all_from (IsContentOf parts) contents (λ c among.
        let own = All-contains IsHashed contents c hashed among in
        let sent = (carried.each c.name).0 (contains_map carried_name contents c among) in
        let r = sends_records old fresh c.name sent in
        let size : length c.bytes ≡ r.0 = (All-contains (λ (d : Carried). IsSoundContent fresh d.name d.bytes) contents c carried.sound among).sized r.0 r.1 in record {
          hash = sym own.hash;
          twenty = own.twenty;
          recorded = subst (λ (n : ℕ). IsTrue (list_any (has_record c.name n) parts)) (sym size)
              (parts_record fresh parts are sent.trove sent.there (fresh_committed sent.trove sent.there) sent.sends.0 sent.sends.1 c.name r.0 sent.sends.2.content sent.sends.2.lacked);
        });
    rising = carried.rising;
  }
