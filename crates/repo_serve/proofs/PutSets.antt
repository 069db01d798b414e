-- The stream of an absolute change set, whose contents are written as they are read.
use Rattle.std.proofs.Common.{◌≡◌, ℕ, ◌+◌, ◌<◌, ◌≤◌, Bool, true, false, ◌&&◌, ◌||◌, cond, List, [], ◌∷◌, ◌++◌, length, get_or, take, map, All, Contains, Some, None, refl, sym, ap, ◌∙◌, subst, arith, append_assoc, append-nil, length-append}
use Rattle.std.specs.Prelude.{◌==◌, IsTrue, flat_map, sum_by}
use Rattle.std.specs.Cmp.Lexicographic.{slice_cmp}
use Rattle.std.specs.Int.{w32, to_be_bytes}
use Rattle.std.specs.List.{list_any}
use Rattle.std.specs.List.Sorted.{IsStrictlySortedBy}
use Rattle.std.specs.Map.{keys_of}
use Rattle.std.specs.Ordering.{nat_cmp}
use Rattle.std.specs.Str.{bytes_eq}
use Rattle.std.proofs.lemmas.Bool.{cond-false}
use Rattle.std.proofs.lemmas.List.{flat_map_more, take_more}
use Rattle.std.proofs.lemmas.List.Elements.{All-push}
use Rattle.std.proofs.lemmas.List.Folds.{list_any-append}
use Rattle.std.proofs.lemmas.Slice.Eq.{bytes_eq-Decides}
use Rattle.cny_stream.specs.Item.{item_bytes}
use Rattle.repo_load.specs.cny-base.declared.limits.TheConstants.{MESSAGE_LIMIT}
use Rattle.repo_load.specs.cny-stream.Record.{has_name_and_size}
use Rattle.repo_load.specs.cny-stream.declared.record.FileRec.{FileRec}
use Rattle.repo_load.specs.cny-stream.declared.record.FileRec.TheVariants.{Dir, File, Link}
use Rattle.repo_load.specs.trove-parts.declared.files.FileAt.{FileAt}
use Rattle.repo_load.specs.trove-stream.declared.parts.TroveParts.{TroveParts}
use Rattle.repo_load.specs.trove-stream.FilesOf.{files_of}
use Rattle.repo_load.specs.tree-disk.Tree.{Name, Tree}
use Rattle.repo_load.specs.content-store.Store.{content_path}
use Rattle.repo_load.specs.Files.{contents_dir}
use Rattle.repo_load.proofs.cny-base.Below.{equal_test}
use Rattle.repo_load.proofs.cny-base.Bools.{and_false, both, or_left, or_right}
use Rattle.repo_load.proofs.cny-base.Lists.{contains_map, from_map, map_push, one_passes}
use Rattle.repo_load.proofs.cny-base.Recorded.{any_of}
use Rattle.repo_index.specs.Catalogue.{has_content, is_content, is_file_of, is_file_sized, names_content, records_content, AreCommitted}
use Rattle.repository.specs.change-set.ChangeSet.{change_bytes, content_bytes, end_bytes, magic, part_bytes}
use Rattle.repository.specs.change-set.declared.change.Carried.{Carried}
use Rattle.repository.specs.change-set.declared.change.ChangeSet.{ChangeSet}
use Rattle.repository.specs.change-set.declared.change.Part.TheVariants.{Whole}
use Rattle.repository.specs.Between.{carried_name, AreContents, ArePartsBetween, AreStoredIn, LeadsBetween, RecordsContent}
use Rattle.repository.specs.BetweenSteps.{AllFit, AreNames, IsHashed, IsStoredAs}
use Rattle.repository.specs.Damage.{IsDamagedBetween}
use Rattle.repository.proofs.BetweenCarrying.{contents_are, records_sized}
use Rattle.repository.proofs.Members.{named_record, sized_record}
use Rattle.repo_mirror.specs.Lengths.{content_length, contents_length, set_length, trove_length}
use Rattle.repo_mirror.specs.Missing.{too_much}
use Rattle.repo_mirror.proofs.Lengthening.{room_of}
use Rattle.repo_serve.specs.Steps.{HasPutReply}
use Rattle.repo_serve.specs.Wanted.{name_and_size, records_size, AreWanted, HasCarried, HasCarriedOne, HasPutSet, HasTwoSizes, IsOneOther}
use Rattle.repo_serve.proofs.Absolute.{absolute_of, file_of_trove, sized_content, trove_of_file, AllSent, SetLength, WholeParts}

-- ---- one content more

pub none_carried : (tree : Tree) (wanted : List (List ℕ × ℕ)) (out : List ℕ) → HasCarried (take 0 wanted) tree out out
none_carried tree wanted out = record {
  contents = [];
  are = refl;
  hashed = λ k d low. absurd (omega arith);
  stand = λ k d low. absurd (omega arith);
  put = sym (append-nil out);
}

pub carried_more : (tree : Tree) (wanted : List (List ℕ × ℕ)) (i : ℕ) (out mid new : List ℕ) → i < length wanted → HasCarried (take i wanted) tree out mid
    → HasCarriedOne (get_or wanted i ([], 0)).0 (get_or wanted i ([], 0)).1 tree mid new → HasCarried (take (i + 1) wanted) tree out new
carried_more tree wanted i out mid new within so_far one = record {
  contents = so_far.contents ++ one.content ∷ [];
  are = map_push name_and_size so_far.contents one.content
      ∙ ap (λ (l : List (List ℕ × ℕ)). l ++ name_and_size one.content ∷ []) so_far.are
      ∙ ap (λ (p : List ℕ × ℕ). take i wanted ++ p ∷ []) one.is
      ∙ sym (take_more wanted i ([], 0) within);
  hashed = All-push IsHashed so_far.contents one.content so_far.hashed one.hash;
  stand = All-push (IsStoredAs tree) so_far.contents one.content so_far.stand one.stands;
  put = one.put ∙ ap (λ (l : List ℕ). l ++ content_bytes one.content) so_far.put ∙ flat_map_more content_bytes out so_far.contents one.content;
}

-- ---- parts

wholes : (troves : List TroveParts) → ArePartsBetween [] troves (map Whole troves)
wholes [] = refl
wholes (t ∷ troves) = (Some (Whole t), map Whole troves, refl, wholes troves, refl)

wholes_bytes : (troves : List TroveParts) → flat_map (λ (t : TroveParts). part_bytes (Whole t)) troves ≡ flat_map part_bytes (map Whole troves)
wholes_bytes [] = refl
wholes_bytes (t ∷ troves) = ap (λ (l : List ℕ). part_bytes (Whole t) ++ l) (wholes_bytes troves)

-- the items of troves that may be sent have room
pub parts_room : (troves : List TroveParts) → too_much troves ≡ None → sum_by trove_length troves ≤ MESSAGE_LIMIT
parts_room troves small = omega (arith, (room_of troves small).short)

pub set_room : (troves : List TroveParts) → too_much troves ≡ None → set_length troves ≤ MESSAGE_LIMIT
set_room troves small = omega (arith, (room_of troves small).short)

-- ---- room

second_true : (a b : Bool) → (a || b) ≡ true → a ≡ false → b ≡ true
second_true true b is none = absurd (cc none)
second_true false b is none = is

-- the same of a first file, where it holds of those behind it
counted_first : (before : List FileAt) (file : FileAt) (files : List FileAt) (name : List ℕ) (size : ℕ) → list_any (is_file_of name) before ≡ false → ((other : ℕ) → records_size (file ∷ files) name other ≡ true → other ≡ size) → records_size (file ∷ files) name size ≡ true
    → (list_any (is_file_of name) (before ++ file ∷ []) ≡ false → ((other : ℕ) → records_size files name other ≡ true → other ≡ size) → records_size files name size ≡ true → 25 + size ≤ contents_length (before ++ file ∷ []) files)
    → 25 + size ≤ contents_length before (file ∷ files)
counted_first before file files name size none one is behind = by file.rec refl
  where
    both_false : (a b : Bool) → a ≡ false → b ≡ false → (a || (b || false)) ≡ false
    both_false true b h g = absurd (cc h)
    both_false false true h g = absurd (cc g)
    both_false false false h g = refl

    rest : is_file_of name file ≡ false → is_file_sized name size file ≡ false → 25 + size ≤ contents_length before (file ∷ files)
    rest other unsized =
        let later = behind
        (list_any-append (is_file_of name) before (file ∷ []) ∙ both_false (list_any (is_file_of name) before) (is_file_of name file) none other)
        (λ s told. one s (or_right (is_file_sized name s file) (records_size files name s) told))
        (second_true (is_file_sized name size file) (records_size files name size) is unsized) in
        omega (arith, later)

    here : (s : ℕ) (n : List ℕ) → ((k : ℕ) → is_file_sized name k file ≡ (s == k && bytes_eq n name)) → is_file_of name file ≡ bytes_eq n name → content_length before file.rec ≡ cond (list_any (is_file_of n) before) 0 (25 + s)
        → (b : Bool) → bytes_eq n name ≡ b → 25 + size ≤ contents_length before (file ∷ files)
    here s n sized of_name long false other = rest (of_name ∙ other) (sized size ∙ and_false (s == size) (bytes_eq n name) other)
    here s n sized of_name long true named =
        let name_is : n ≡ name = (bytes_eq-Decides n name).0 named in
        let own : is_file_sized name s file ≡ true = sized s ∙ both (s == s) (bytes_eq n name) (equal_test s) named in
        let size_is : s ≡ size = one s (or_left (is_file_sized name s file) (records_size files name s) own) in
        let lacks : list_any (is_file_of n) before ≡ false = ap (λ (l : List ℕ). list_any (is_file_of l) before) name_is ∙ none in
        let counts : content_length before file.rec ≡ 25 + s = long ∙ cond-false (list_any (is_file_of n) before) 0 (25 + s) lacks in
        omega (arith, counts, size_is)

    by : (rec : FileRec) → file.rec ≡ rec → 25 + size ≤ contents_length before (file ∷ files)
    by (Dir mode owner) same = rest (ap (is_content name) same) (ap (has_name_and_size name size) same)
    by (Link target) same = rest (ap (is_content name) same) (ap (has_name_and_size name size) same)
    by (File mode owner flags s n) same = here s n (λ k. ap (has_name_and_size name k) same) (ap (is_content name) same) (ap (content_length before) same) (bytes_eq n name) refl

-- Where all records of a name have one size, and no file before has it, the item of its content is counted.
content_counted : (before files : List FileAt) (name : List ℕ) (size : ℕ) → list_any (is_file_of name) before ≡ false → ((other : ℕ) → records_size files name other ≡ true → other ≡ size) → records_size files name size ≡ true
    → 25 + size ≤ contents_length before files
content_counted before [] name size none one is = absurd (cc is)
content_counted before (file ∷ files) name size none one is = counted_first before file files name size none one is (content_counted (before ++ file ∷ []) files name size)

-- ---- records

keys : (contents : List Carried) → map carried_name contents ≡ keys_of (map name_and_size contents)
keys [] = refl
keys (c ∷ contents) = ap (λ (l : List (List ℕ)). c.name ∷ l) (keys contents)

module _ (troves : List TroveParts) where
  recorded : (name : List ℕ) (size : ℕ) → records_size (files_of troves) name size ≡ true → RecordsContent troves name size
  recorded name size is =
      let one = one_passes (is_file_sized name size) (files_of troves) is in
      let there = trove_of_file troves one.0 one.1 in
      sized_content troves there.0 one.0 there.1 there.2 name size one.2

  told : (name : List ℕ) (size : ℕ) → RecordsContent troves name size → records_size (files_of troves) name size ≡ true
  told name size r = any_of (is_file_sized name size) (files_of troves) r.file (file_of_trove troves r.trove r.file r.there r.among) (sized_record r.file.rec name size r.content)

  module _ (all_sent : AllSent) where
    -- no bytes have both sizes
    pub damaged_two : (name : List ℕ) → HasTwoSizes (files_of troves) name → (tree : Tree) (path : Name) → path ≡ content_path contents_dir name → IsDamagedBetween [] troves tree path
    damaged_two name two tree path here =
        let one = recorded name two.one two.recorded in
        let other = recorded name two.other two.also in
        record {
          name = name;
          sent = (all_sent troves name).1 (two.one, one);
          here = here;
          none = λ bytes stands sound. two.differ (sym (sound.sized two.one one) ∙ sound.sized two.other other);
        }

    module _ (wanted : List (List ℕ × ℕ)) (are : AreWanted (files_of troves) wanted) where
      wanted_recorded : (name : List ℕ) (size : ℕ) → Contains wanted (name, size) → RecordsContent troves name size
      wanted_recorded name size among = recorded name size ((are.each name size).0 among)

      pub damaged_other : (tree : Tree) (path : Name) → IsOneOther wanted tree path → IsDamagedBetween [] troves tree path
      damaged_other tree path o =
          let r = wanted_recorded o.name o.size o.among in
          record {
            name = o.name;
            sent = (all_sent troves o.name).1 (o.size, r);
            here = o.other.here;
            none = λ bytes stands sound. o.other.none bytes stands sound.named (sound.sized o.size r);
          }

      module _ (all : List TroveParts) (committed : AreCommitted all troves) where
        pub named_in : (name : List ℕ) (size : ℕ) → Contains wanted (name, size) → has_content name all ≡ true
        named_in name size among =
            let r = wanted_recorded name size among in
            any_of (names_content name) all r.trove (committed r.trove r.there) (any_of (is_file_of name) r.trove.files r.file r.among (named_record r.file.rec name size r.content))

        pub sized_in : (name : List ℕ) (size : ℕ) → Contains wanted (name, size) → IsTrue (records_content name size all)
        sized_in name size among = records_sized all troves committed name size (wanted_recorded name size among)

      pub room_in : too_much troves ≡ None → (name : List ℕ) (size : ℕ) → Contains wanted (name, size) → 20 + size ≤ MESSAGE_LIMIT
      room_in small name size among =
          let is = (are.each name size).0 among in
          let counted = content_counted [] (files_of troves) name size refl (λ other told. are.one name other size told is) is in
          omega (arith, counted, (room_of troves small).short)

      -- ---- the set

      module _ (whole_parts : WholeParts) (contents : List Carried) (contents_is : map name_and_size contents ≡ wanted) (hashed : All IsHashed contents) where
        in_wanted : (c : Carried) → Contains contents c → Contains wanted (c.name, length c.bytes)
        in_wanted c h = subst (λ (l : List (List ℕ × ℕ)). Contains l (c.name, length c.bytes)) contents_is (contains_map name_and_size contents c h)

        names_are : AreNames [] troves (map carried_name contents)
        names_are = record {
          rising = subst (λ (l : List (List ℕ)). IsStrictlySortedBy (slice_cmp nat_cmp) l) (sym (keys contents ∙ ap (λ (l : List (List ℕ × ℕ)). keys_of l) contents_is)) are.rising;
          each = λ name. (
            (λ h. let c = from_map carried_name contents name h in
                (all_sent troves name).1 (length c.0.bytes, subst (λ (n : List ℕ). RecordsContent troves n (length c.0.bytes)) c.2 (wanted_recorded c.0.name (length c.0.bytes) (in_wanted c.0 c.1)))),
            (λ s. let r = (all_sent troves name).0 s in
                let w = subst (λ (l : List (List ℕ × ℕ)). Contains l (name, r.0)) (sym contents_is) ((are.each name r.0).1 (told name r.0 r.1)) in
                let c = from_map name_and_size contents (name, r.0) w in
                subst (λ (n : List ℕ). Contains (map carried_name contents) n) (ap (λ (p : List ℕ × ℕ). p.0) c.2) (contains_map carried_name contents c.0 c.1)),
          );
        }

        fit : AllFit contents troves
        fit = λ t h file g name size content c among named.
            are.one name (length c.bytes) size
            (subst (λ (n : List ℕ). records_size (files_of troves) n (length c.bytes) ≡ true) named ((are.each c.name (length c.bytes)).0 (in_wanted c among)))
            (told name size (record { trove = t; there = h; file = file; among = g; content = content }))

        carried : AreContents [] troves contents
        carried = contents_are [] troves (map carried_name contents) contents names_are refl hashed fit

        abbrev set : ChangeSet
        set = record { parts = map Whole troves; contents = contents }

        leads : LeadsBetween [] troves set
        leads = record { parts = wholes troves; contents = carried }

        pub set_put : (tree : Tree) (old one two three new : List ℕ) → one ≡ old ++ magic → two ≡ one ++ flat_map (λ (t : TroveParts). part_bytes (Whole t)) troves → three ≡ two ++ flat_map content_bytes contents
            → new ≡ three ++ end_bytes → AreStoredIn tree contents → HasPutSet troves tree old new
        set_put tree old one two three new first parts third last stand = record {
          set = set;
          sent = absolute_of whole_parts all_sent troves set leads hashed;
          leads = leads;
          stand = stand;
          put = last ∙ ap (λ (l : List ℕ). l ++ end_bytes) (third ∙ ap (λ (l : List ℕ). l ++ own) (parts ∙ ap (λ (l : List ℕ). l ++ each) first ∙ ap (λ (l : List ℕ). (old ++ magic) ++ l) (wholes_bytes troves)))
              ∙ append_assoc ((old ++ magic) ++ whole) own end_bytes ∙ append_assoc (old ++ magic) whole (own ++ end_bytes) ∙ append_assoc old magic (whole ++ (own ++ end_bytes));
        }
          where
            own : List ℕ
            own = flat_map content_bytes contents

            each : List ℕ
            each = flat_map (λ (t : TroveParts). part_bytes (Whole t)) troves

            whole : List ℕ
            whole = flat_map part_bytes (map Whole troves)

-- ---- the reply

pub reply_put : SetLength → (troves : List TroveParts) (tree : Tree) (size : ℕ) (old mid new : List ℕ) → mid ≡ old ++ (0x84 ∷ to_be_bytes w32 size) → size ≡ set_length troves → HasPutSet troves tree mid new → HasPutReply troves tree old new
reply_put set_long troves tree size old mid new head size_is p =
    let stream : List ℕ = change_bytes p.set in
    let long : length stream ≡ set_length troves = set_long troves p.set p.sent in
    let same : size ≡ length stream = size_is ∙ sym long in
    record {
      reply = item_bytes 0x84 stream;
      is = record { set = p.set; sent = p.sent; leads = p.leads; stored = p.stand; is = refl };
      long = omega (arith, long, length-append (0x84 ∷ to_be_bytes w32 (length stream)) stream);
      put = p.put ∙ ap (λ (l : List ℕ). l ++ stream) head ∙ append_assoc old (0x84 ∷ to_be_bytes w32 size) stream ∙ ap (λ (n : ℕ). old ++ ((0x84 ∷ to_be_bytes w32 n) ++ stream)) same;
    }
