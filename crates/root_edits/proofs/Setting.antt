-- The parts and the contents of the local changes.
use Rattle.std.proofs.Common.{◌≡◌, ℕ, ◌+◌, ◌<◌, ⊎_elim, inr, Bool, List, [], ◌∷◌, ◌++◌, length, get_or, drop, Contains, All, Some, None, Option, refl, sym, ap, subst, ◌∙◌, true≢false, append-nil}
use Rattle.std.specs.Prelude.{IsTrue}
use Rattle.std.specs.List.Sorted.{IsStrictlySortedBy}
use Rattle.std.specs.Option.{option_map, option_or}
use Rattle.std.proofs.lemmas.Grind.{flat_map-append}
use Rattle.std.proofs.lemmas.List.{at_drop_more, map-append}
use Rattle.std.proofs.lemmas.List.Elements.{All-contains, Contains-append_left, Contains-push, Contains-push_cases, filter_map-append}
use Rattle.update_job.specs.cny-base.declared.refusal.Refusal.{Refusal}
use Rattle.update_job.specs.cny-stream.Record.{has_name_and_size}
use Rattle.update_job.specs.trove-parts.declared.files.FileAt.{FileAt}
use Rattle.update_job.specs.trove-stream.declared.parts.TroveParts.{TroveParts}
use Rattle.update_job.specs.trove-stream.Trove.{IsTrove}
use Rattle.update_job.specs.trove-stream.declared.rel.RelParts.{RelParts}
use Rattle.change_rel.specs.trove-stream.Leads.{Leads}
use Rattle.update_job.specs.change-set.declared.change.Part.{Part}
use Rattle.update_job.specs.change-set.declared.change.Part.TheVariants.{Relative}
use Rattle.update_job.specs.change-set.declared.change.Carried.{Carried}
use Rattle.update_job.specs.change-set.ChangeSet.{content_cmp, has_record, HasContents, IsContentOf, IsPart}
use Rattle.manifest_troves.specs.Contents.{contents_of, first_collision, IsCollisionOf}
use Rattle.update_job.specs.trove-stream.Installed.{IsNameless}
use Rattle.update_job.specs.cny-base.declared.refusal.Fault.TheVariants as fault
use Rattle.root_edits.specs.Reached.{AreReached}
use Rattle.tree_scan.specs.tree-disk.Tree.{Tree}
use Rattle.root_edits.specs.Local.{all_contents, all_sights, collision, collision_of, first_refusal, records, AreLocalParts, IsLocal, IsLocalPart, IsLocalRefusal, IsLocalTrove}
use Rattle.root_edits.specs.Moved.{too_long}
use Rattle.root_edits.specs.Standing.{Sight, local_content, local_contents, local_file, sight_of, sights, too_large}
use Rattle.root_edits.specs.Steps.{HasAddedPart, HaveAddedParts, HaveSeen}
use Rattle.root_edits.proofs.Members.{append_cases, from_filter, in_filter}
use Rattle.root_edits.proofs.Seeing.{IsCarried, carried_of, large_behind, large_in_front, none_large}
use Rattle.cny_version.proofs.cny-base.Lists.{all_from, contains_cases, contains_map, nothing_in, one_passes}
use Rattle.cny_version.proofs.cny-base.Recorded.{any_of}
use Rattle.change_rel.proofs.Sent.{one_at}
use Rattle.change_rel.proofs.cny-stream.Digests.{digest_long as sha1_length}

-- ---- contents and the parts that record them

-- a content that the trove's part carries is one of its files that are set
pub part_content : (told : Bool) (tree : Tree) (t fresh : TroveParts) (before after : List Carried) (rel : RelParts) (c : Carried) → IsTrove t → (seen : HaveSeen told tree t.files fresh.files before after) → Leads rel t fresh
    → Contains (local_contents seen.seen) c → IsContentOf (Relative rel ∷ []) c
part_content told tree t fresh before after rel c is seen leads among =
    let from = from_filter local_content seen.seen c among in
    let s : Sight = from.0 in
    let carried : IsCarried s c = carried_of s c from.2 in
    let old_there : Contains t.files s.file = subst (λ (l : List FileAt). Contains l s.file) seen.files_are (contains_map (λ (x : Sight). x.file) seen.seen s from.1) in
    let there : Contains fresh.files carried.file = subst (λ (l : List FileAt). Contains l carried.file) (sym seen.made_is) (in_filter local_file seen.seen s carried.file from.1 carried.made) in
    let set : Contains rel.files_set carried.file = ⊎_elim
    (λ remains.
    let same : carried.file ≡ s.file = one_at t.files is.lists.files.rising carried.file s.file remains.0 old_there carried.same_path in
    absurd (true≢false (sym carried.has ∙ ap (λ (f : FileAt). has_name_and_size c.name (length c.bytes) f.rec) same ∙ carried.lacks)))
    (λ set. set)
    ((leads.files.result carried.file).0 there) in
    let in_rel : IsTrue (has_record c.name (length c.bytes) (Relative rel)) = any_of (λ (f : FileAt). has_name_and_size c.name (length c.bytes) f.rec) rel.files_set carried.file set carried.has in record {
      hash = carried.hash;
      twenty = ap (λ (l : List ℕ). length l) carried.hash ∙ sha1_length c.bytes;
      recorded = any_of (has_record c.name (length c.bytes)) (Relative rel ∷ []) (Relative rel) (Contains-push [] (Relative rel)) in_rel;
    }

-- of one of these parts, so of more
content_more : (parts more : List Part) (c : Carried) → IsContentOf parts c → IsContentOf (parts ++ more) c
content_more parts more c is =
    let one = one_passes (has_record c.name (length c.bytes)) parts is.recorded in record {
      hash = is.hash;
      twenty = is.twenty;
      recorded = any_of (has_record c.name (length c.bytes)) (parts ++ more) one.0 (Contains-append_left parts more one.0 one.1) one.2;
    }

content_last : (parts : List Part) (p : Part) (c : Carried) → IsContentOf (p ∷ []) c → IsContentOf (parts ++ p ∷ []) c
content_last parts p c is =
    let one = one_passes (has_record c.name (length c.bytes)) (p ∷ []) is.recorded in
    let same : p ≡ one.0 = ⊎_elim (λ e. e) (λ none. absurd (nothing_in one.0 none)) (contains_cases p one.0 [] one.1) in record {
      hash = is.hash;
      twenty = is.twenty;
      recorded = any_of (has_record c.name (length c.bytes)) (parts ++ p ∷ []) p (Contains-push parts p) (ap (has_record c.name (length c.bytes)) same ∙ one.2);
    }

-- ---- one trove more

parts_push : (all : List TroveParts) (tree : Tree) (troves : List TroveParts) (t : TroveParts) (parts : List Part) (p : Part) → AreLocalParts all tree troves parts → IsLocalPart all (sights tree t.files) t p
    → AreLocalParts all tree (troves ++ t ∷ []) (parts ++ p ∷ [])
parts_push all tree [] t parts p are is = (p, [], is, refl, ap (λ (l : List Part). l ++ p ∷ []) are)
parts_push all tree (u ∷ troves) t parts p are is =
    (are.0, are.1 ++ p ∷ [], are.2, parts_push all tree troves t are.1 p are.3 is, ap (λ (l : List Part). l ++ p ∷ []) are.4)

pub sights_push : (tree : Tree) (troves : List TroveParts) (t : TroveParts) → all_sights tree (troves ++ t ∷ []) ≡ all_sights tree troves ++ sights tree t.files
sights_push tree troves t =
    ap (sights tree) (flat_map-append (λ (u : TroveParts). u.files) troves (t ∷ []) ∙ ap (λ (l : List FileAt). records troves ++ l) (append-nil t.files))
    ∙ map-append (sight_of tree) (records troves) t.files

pub sights_first : (tree : Tree) (t : TroveParts) (rest : List TroveParts) → all_sights tree (t ∷ rest) ≡ sights tree t.files ++ all_sights tree rest
sights_first tree t rest = map-append (sight_of tree) t.files (records rest)

pub no_parts_added : (told : Bool) (tree : Tree) (all : List TroveParts) → HaveAddedParts told tree all [] [] []
no_parts_added told tree all = record {
  told_parts = λ tells. refl;
  told_contents = λ tells. refl;
  told_small = λ tells. refl;
  valid = all_from IsPart [] (λ p among. absurd (nothing_in p among));
  contents = all_from (IsContentOf []) [] (λ c among. absurd (nothing_in c among));
}

pub one_part_added : (told : Bool) (tree : Tree) (all troves : List TroveParts) (t : TroveParts) (parts new : List Part) (carried after : List Carried) → HaveAddedParts told tree all troves parts carried
    → HasAddedPart told tree all t parts new carried after → HaveAddedParts told tree all (troves ++ t ∷ []) new after
one_part_added told tree all troves t parts new carried after so_far added =
    let p : Part = Relative added.rel in
    let seen = added.seen in
    subst (λ (l : List Part). HaveAddedParts told tree all (troves ++ t ∷ []) l after) (sym added.new_is) (record {
      told_parts = λ tells. parts_push all tree troves t parts p (so_far.told_parts tells)
          (added.fresh, subst (λ (l : List Sight). IsLocalTrove all l t added.fresh) (seen.told_is tells) added.is, added.leads);
      told_contents = λ tells. seen.carried_is
          ∙ ap (λ (l : List Carried). l ++ local_contents seen.seen) (so_far.told_contents tells)
          ∙ ap (λ (l : List Sight). all_contents tree troves ++ local_contents l) (seen.told_is tells)
          ∙ sym (filter_map-append local_content (all_sights tree troves) (sights tree t.files))
          ∙ ap local_contents (sym (sights_push tree troves t));
      told_small = λ tells. ap too_large (sights_push tree troves t)
          ∙ large_behind (all_sights tree troves) (sights tree t.files) (so_far.told_small tells)
          ∙ ap too_large (sym (seen.told_is tells)) ∙ none_large seen.seen seen.fit;
      valid = all_from IsPart (parts ++ p ∷ []) (λ q among. ⊎_elim
          (λ there. All-contains IsPart parts q so_far.valid there)
          (λ e. subst IsPart e added.leads.rel_is)
          (Contains-push_cases parts p q among));
      contents = all_from (IsContentOf (parts ++ p ∷ [])) after (λ c among.
          ⊎_elim
          (λ before. content_more parts (p ∷ []) c (All-contains (IsContentOf parts) carried c so_far.contents before))
          (λ here. content_last parts p c (part_content told tree t added.fresh carried after added.rel c added.trove seen added.leads here))
          (append_cases carried (local_contents seen.seen) c (subst (λ (l : List Carried). Contains l c) seen.carried_is among)));
    })

-- ---- the set

pub set_has_contents : (parts : List Part) (carried contents : List Carried) → All (IsContentOf parts) carried → All (Contains carried) contents → IsStrictlySortedBy content_cmp contents
    → HasContents (record { parts = parts; contents = contents })
set_has_contents parts carried contents valid given rising = record {
  contents = all_from (IsContentOf parts) contents (λ c among. All-contains (IsContentOf parts) carried c valid (All-contains (Contains carried) contents c given among));
  rising = rising;
}

-- by a tree that is the same where the disk tells it
pub added_on : (told : Bool) (mid tree : Tree) (all : List TroveParts) (t : TroveParts) (parts new : List Part) (before after : List Carried) → (IsTrue told → mid ≡ tree) → HasAddedPart told mid all t parts new before after
    → HasAddedPart told tree all t parts new before after
added_on told mid tree all t parts new before after same added =
    let s = added.seen in record {
      trove = added.trove;
      fresh = added.fresh;
      seen = record {
        seen = s.seen;
        files_are = s.files_are;
        fit = s.fit;
        made_is = s.made_is;
        carried_is = s.carried_is;
        told_is = λ tells. s.told_is tells ∙ ap (λ (x : Tree). sights x t.files) (same tells);
      };
      is = added.is;
      rel = added.rel;
      leads = added.leads;
      new_is = added.new_is;
    }

-- ---- the first refusal

module _ (tree : Tree) (troves : List TroveParts) where
  pub first_long : (refused : Refusal) → too_long troves ≡ Some refused → first_refusal tree troves ≡ Some refused
  first_long refused is = ap (λ (o : Option Refusal). option_or o (option_or (too_large (all_sights tree troves)) (collision (all_contents tree troves)))) is

  behind_long : too_long troves ≡ None → first_refusal tree troves ≡ option_or (too_large (all_sights tree troves)) (collision (all_contents tree troves))
  behind_long none = ap (λ (o : Option Refusal). option_or o (option_or (too_large (all_sights tree troves)) (collision (all_contents tree troves)))) none

  pub first_large : (refused : Refusal) → too_long troves ≡ None → too_large (all_sights tree troves) ≡ Some refused → first_refusal tree troves ≡ Some refused
  first_large refused none is = behind_long none ∙ ap (λ (o : Option Refusal). option_or o (collision (all_contents tree troves))) is

  pub first_of_contents : too_long troves ≡ None → too_large (all_sights tree troves) ≡ None → first_refusal tree troves ≡ collision (all_contents tree troves)
  first_of_contents none small = behind_long none ∙ ap (λ (o : Option Refusal). option_or o (collision (all_contents tree troves))) small

  -- a file of a trove that is too large, where none before it is
  pub trove_refused : (i : ℕ) (t : TroveParts) (refused : Refusal) → i < length troves → t ≡ get_or troves i t → too_large (all_sights tree (drop i troves)) ≡ too_large (all_sights tree troves)
      → too_large (sights tree t.files) ≡ Some refused → too_large (all_sights tree troves) ≡ Some refused
  trove_refused i t refused within is rest stops =
      let more = drop (i + 1) troves in
      sym rest ∙ at_drop_more (λ (l : List TroveParts). too_large (all_sights tree l)) troves i t within
      ∙ ap (λ (u : TroveParts). too_large (all_sights tree (u ∷ more))) (sym is)
      ∙ ap too_large (sights_first tree t more) ∙ large_in_front (sights tree t.files) (all_sights tree more) refused stops

  pub trove_rest : (i : ℕ) (t : TroveParts) → i < length troves → t ≡ get_or troves i t → too_large (all_sights tree (drop i troves)) ≡ too_large (all_sights tree troves)
      → too_large (sights tree t.files) ≡ None → too_large (all_sights tree (drop (i + 1) troves)) ≡ too_large (all_sights tree troves)
  trove_rest i t within is rest small =
      let more = drop (i + 1) troves in
      sym (large_behind (sights tree t.files) (all_sights tree more) small) ∙ sym (ap too_large (sights_first tree t more))
      ∙ ap (λ (u : TroveParts). too_large (all_sights tree (u ∷ more))) is
      ∙ sym (at_drop_more (λ (l : List TroveParts). too_large (all_sights tree l)) troves i t within) ∙ rest

pub added_small : (told : Bool) (tree : Tree) (all : List TroveParts) (t : TroveParts) (parts new : List Part) (before after : List Carried) → HasAddedPart told tree all t parts new before after → IsTrue told → too_large (sights tree t.files) ≡ None
added_small told tree all t parts new before after added tells = ap too_large (sym (added.seen.told_is tells)) ∙ none_large added.seen.seen added.seen.fit

-- ---- the answer

module _ (list : List TroveParts) (name : List ℕ) (tree : Tree) (troves : List TroveParts) (installed : IsNameless name list → ⊥) (reached : AreReached list name troves) where
  pub refused_by : (refused : Refusal) → first_refusal tree troves ≡ Some refused → IsLocalRefusal list name tree refused
  refused_by refused is = inr (record { installed = installed; troves = troves; reached = reached; refusal_is = is })

  pub refused_collision : (told : Bool) (parts : List Part) (carried : List Carried) (refused : Refusal) → IsTrue told → too_long troves ≡ None → HaveAddedParts told tree troves troves parts carried → IsCollisionOf carried (fault.Refused refused)
      → IsLocalRefusal list name tree refused
  refused_collision told parts carried refused tells short added is =
      refused_by refused (first_of_contents tree troves short (added.told_small tells)
      ∙ ap collision (sym (added.told_contents tells)) ∙ ap (option_map collision_of) is.2 ∙ ap (λ (r : Refusal). Some r) (sym is.3))

  pub answered : (told : Bool) (parts : List Part) (carried contents : List Carried) → IsTrue told → too_long troves ≡ None → HaveAddedParts told tree troves troves parts carried → first_collision carried ≡ None → contents ≡ contents_of carried
      → IsLocal list name tree (record { parts = parts; contents = contents })
  answered told parts carried contents tells short added apart is = record {
    installed = installed;
    troves = troves;
    reached = reached;
    unrefused = first_of_contents tree troves short (added.told_small tells) ∙ ap collision (sym (added.told_contents tells)) ∙ ap (option_map collision_of) apart;
    parts = added.told_parts tells;
    contents = is ∙ ap contents_of (added.told_contents tells);
  }
