-- What a repository sends is a change set, and the one that is taken of its reply.
use Rattle.std.proofs.Common.{◌≡◌, ⊎_elim, ℕ, ◌≤◌, Bool, true, ◌||◌, List, [], ◌∷◌, ◌++◌, length, map, All, Contains, Some, refl, sym, ap, ◌∙◌, subst, arith}
use Rattle.std.specs.Prelude.{sum_by}
use Rattle.std.specs.List.{list_any}
use Rattle.std.proofs.lemmas.List.{append_cancel_left}
use Rattle.std.proofs.lemmas.List.Elements.{All-append, All-contains, All-filter, All-nil, Contains-append_left, Contains-append_right}
use Rattle.std.proofs.lemmas.List.Folds.{list_any-append}
use Rattle.std.proofs.lemmas.List.Sums.{sum_by-cons}
use Rattle.cny_stream.specs.Item.{item_bytes, FitsItem}
use Rattle.cny_stream.proofs.ItemLaws.{same_item}
use Rattle.change_set.specs.trove-parts.declared.files.FileAt.{FileAt}
use Rattle.change_set.specs.trove-parts.declared.id.TroveId.{TroveId}
use Rattle.change_set.specs.trove-stream.declared.parts.TroveParts.{TroveParts}
use Rattle.change_set.specs.trove-stream.FilesOf.{files_of}
use Rattle.change_set.specs.trove-stream.Trove.{IsTrove}
use Rattle.change_set.specs.cny-stream.Record.{has_name_and_size}
use Rattle.change_set.specs.declared.change.Carried.{Carried}
use Rattle.change_set.specs.declared.change.ChangeSet.{ChangeSet}
use Rattle.change_set.specs.declared.change.Part.TheVariants.{Whole}
use Rattle.change_set.specs.ChangeSet.{change_bytes, has_record, FitsPart, IsChangeSet, IsContentOf, IsPart, IsSetStream}
use Rattle.repo_index.specs.Catalogue.{has_content, is_file_of, names_content}
use Rattle.repo_load.specs.State.{records_content, trove_records, troves_of, AreFollowing, Commit, IsRepository, RepositoryState}
use Rattle.repo_load.proofs.ContentsLaws.{named_is_recorded}
use Rattle.repo_load.proofs.cny-base.Lists.{all_from, contains_cases, contains_map, from_map, left_all, length-map, nothing_in, one_passes}
use Rattle.repo_mirror.specs.Replies.{reply_end, reply_magic, IsSetReply}
use Rattle.repo_mirror.specs.Absolute.{name_of, IsAbsoluteSet}
use Rattle.repo_mirror.specs.Lengths.{trove_length}
use Rattle.repo_mirror.specs.Missing.{AreMissing}
use Rattle.repo_mirror.proofs.Absolutes.{absolute_long}
use Rattle.repo_mirror.proofs.Gathering.{troves-append}
use Rattle.repo_mirror.proofs.Lengthening.{room_of, HaveRoom}
use Rattle.repo_mirror.specs.Mirroring.{SendsMissing}

-- ---- troves

pub are_troves : (before : List TroveParts) (commits : List Commit) → AreFollowing before commits → All IsTrove (troves_of commits)
are_troves before [] following = All-nil IsTrove
are_troves before (troves ∷ commits) following = All-append IsTrove troves (troves_of commits) following.0.troves_are (are_troves (before ++ troves) commits following.1)

missing_troves : (ids : List TroveId) (commits : List Commit) (troves : List TroveParts) → AreMissing ids commits troves → All IsTrove (troves_of commits) → All IsTrove troves
missing_troves ids commits troves it are =
    let split = ap troves_of it.split ∙ troves-append it.first it.rest in
    subst (All IsTrove) (sym it.are)
    (All-filter _ IsTrove (troves_of it.first) (left_all IsTrove (troves_of it.first) (troves_of it.rest) (subst (All IsTrove) split are)))

within_sum : (troves : List TroveParts) (t : TroveParts) → Contains troves t → trove_length t ≤ sum_by trove_length troves
within_sum [] t h = absurd (nothing_in t h)
within_sum (x ∷ troves) t h = ⊎_elim
    (λ same. omega (arith, sum_by-cons trove_length x troves, ap trove_length same))
    (λ later. omega (arith, sum_by-cons trove_length x troves, within_sum troves t later))
    (contains_cases x t troves h)

-- ---- contents

-- a name that a file has is recorded by its trove
pub file_names : (name : List ℕ) (troves : List TroveParts) → list_any (is_file_of name) (files_of troves) ≡ has_content name troves
file_names name [] = refl
file_names name (t ∷ troves) = list_any-append (is_file_of name) t.files (files_of troves) ∙ ap (λ (b : Bool). names_content name t || b) (file_names name troves)

file_among : (troves : List TroveParts) (t : TroveParts) (file : FileAt) → Contains troves t → Contains t.files file → Contains (files_of troves) file
file_among [] t file h g = absurd (nothing_in t h)
file_among (x ∷ troves) t file h g = ⊎_elim
    (λ same. Contains-append_left x.files (files_of troves) file (subst (λ (u : TroveParts). Contains u.files file) (sym same) g))
    (λ later. Contains-append_right x.files (files_of troves) file (file_among troves t file later g))
    (contains_cases x t troves h)

in_wholes : (name : List ℕ) (size : ℕ) (troves : List TroveParts) → list_any (has_record name size) (map Whole troves) ≡ records_content name size troves
in_wholes name size [] = refl
in_wholes name size (t ∷ troves) = ap (λ (b : Bool). trove_records name size t || b) (in_wholes name size troves)

module _ (troves : List TroveParts) (set : ChangeSet) (sent : IsAbsoluteSet troves set) (content : Carried) (h : Contains set.contents content) where
  -- the record of its name has its size
  sized : (size : ℕ) → records_content content.name size troves ≡ true → length content.bytes ≡ size
  sized size is =
      let t = one_passes (trove_records content.name size) troves is in
      let file = one_passes (λ (f : FileAt). has_name_and_size content.name size f.rec) t.0.files t.2 in
      sent.sized content file.0 size h (file_among troves t.0 file.0 t.1 file.1) file.2

  recorded : list_any (has_record content.name (length content.bytes)) set.parts ≡ true
  recorded =
      let listed = (sent.each content.name).0 (contains_map name_of set.contents content h) in
      let found = named_is_recorded content.name troves (sym (file_names content.name troves) ∙ listed) in
      ap (list_any (has_record content.name (length content.bytes))) sent.parts
      ∙ in_wholes content.name (length content.bytes) troves
      ∙ ap (λ (n : ℕ). records_content content.name n troves) (sized found.0 found.1) ∙ found.1

-- ---- the set

module _ (other : RepositoryState) (ids : List TroveId) (is : IsRepository other) (reply : List ℕ) (it : SendsMissing other ids reply) where
  room : HaveRoom it.troves
  room = room_of it.troves it.missing.fit

  troves_are : All IsTrove it.troves
  troves_are = missing_troves ids other.commits it.troves it.missing (are_troves [] other.commits is.commits_are.following)

  parts_are : All IsPart it.set.parts
  parts_are = subst (All IsPart) (sym it.sent.parts) (all_from IsPart (map Whole it.troves)
      (λ part h. let t = from_map Whole it.troves part h in subst IsPart t.2 (All-contains IsTrove it.troves t.0 troves_are t.1)))

  parts_fit : All FitsPart it.set.parts
  parts_fit = subst (All FitsPart) (sym it.sent.parts) (all_from FitsPart (map Whole it.troves) (λ part h. let t = from_map Whole it.troves part h in subst FitsPart t.2 (fits t.0 t.1)))
    where
      fits : (t : TroveParts) → Contains it.troves t → FitsPart (Whole t)
      fits t h = omega (arith, within_sum it.troves t h, room.short)

  contents_are : All (IsContentOf it.set.parts) it.set.contents
  contents_are = all_from (IsContentOf it.set.parts) it.set.contents (λ content h. record {
    hash = sym (is.named content.name content.bytes (All-contains (λ (c : Carried). other.contents c.name ≡ Some c.bytes) it.set.contents content it.held h)).0;
    twenty = it.sent.twenty content h;
    recorded = recorded it.troves it.set it.sent content h;
  })

  set_is : IsChangeSet it.set
  set_is = record {
    few = omega (arith, ap length it.sent.parts ∙ length-map Whole it.troves, room.few);
    parts = parts_are;
    fits = parts_fit;
    has_contents = record { contents = contents_are; rising = it.sent.rising };
  }

  set_fits : FitsItem (change_bytes it.set)
  set_fits = omega (arith, absolute_long it.troves it.set it.sent, room.short)

  -- what is taken of the reply
  pub taken_is_sent : ((a b : ChangeSet) (bytes : List ℕ) → IsSetStream a bytes → IsSetStream b bytes → a ≡ b) → (set : ChangeSet) → IsSetReply set reply → set ≡ it.set
  taken_is_sent unique set taken =
      let behind = append_cancel_left reply_magic (item_bytes 0x84 taken.value ++ reply_end) (item_bytes 0x84 (change_bytes it.set) ++ reply_end) (sym taken.text ∙ it.is) in
      let same = same_item 0x84 0x84 taken.value (change_bytes it.set) reply_end reply_end taken.fits set_fits behind in
      unique set it.set (change_bytes it.set) (subst (IsSetStream set) same.values taken.stream.stream) (record { set_is = set_is; text = refl })
