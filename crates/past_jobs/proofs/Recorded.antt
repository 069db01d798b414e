-- What a list records at a path, by the map of fingerprints.
use Rattle.std.proofs.Common.{◌≡◌, ◌⊎◌, ⊎_elim, ℕ, true, false, List, [], ◌∷◌, Option, Some, None, is_some, IsSome, Ordering, Contains, refl, sym, ap, ◌∙◌, subst}
use Rattle.std.specs.Cmp.Lexicographic.{slice_cmp, nat_list_cmp_total}
use Rattle.std.specs.Ordering.{nat_cmp, is_gt, ordering_reverse}
use Rattle.std.specs.declared.cmp.Ordering.TheVariants.{Less}
use Rattle.std.proofs.lemmas.List.Elements.{All-from_recursion, All-contains}
use Rattle.std.proofs.lemmas.Map.Keys.{sorted_head, sorted_tail}
use Rattle.std.proofs.lemmas.Option.{none-some}
use Rattle.local_db.specs.cny-stream.declared.record.FileRec.{FileRec}
use Rattle.local_db.specs.trove-stream.declared.parts.TroveParts.{TroveParts}
use Rattle.local_db.specs.tree-disk.Tree.{Name}
use Rattle.tree_scan.specs.declared.mark.Mark.{Mark}
use Rattle.tree_scan.specs.Marks.{fingerprint_of_record}
use Rattle.local_db.specs.trove-stream.Installed.{by_name, IsRising, trove_of}
use Rattle.local_db.specs.Installed.{record_at, first_mark, recorded}
use Rattle.local_db.specs.declared.format.Format.{Format}
use Rattle.past_jobs.specs.Table.{Marks, Troves, mark_at, mark_of, trove_at, troves_of, IsFirst, IsIndexed}
use Rattle.past_jobs.proofs.Maps.{found_in, rises_in}
use Rattle.change_rel.proofs.trove-stream.Names.{contained, is_named, is_there}
use Rattle.change_rel.proofs.cny-base.Lists.{contains_first as first, contains_cases as first_or_later, contains_rest as later, nothing_in}

-- ---- lists

pub recorded_none : (list : List TroveParts) (path : Name) → ((u : TroveParts) → Contains list u → record_at u.files path ≡ None) → recorded list path ≡ None
recorded_none [] path none = refl
recorded_none (t ∷ list) path none =
    ap (λ (r : Option FileRec). first_mark r (recorded list path)) (none t (first t list))
    ∙ recorded_none list path (λ u in'. none u (later t u list in'))

turned : (a b : Ordering) → a ≡ ordering_reverse b → b ≡ Less → is_gt a ≡ true
turned a b e less = ap is_gt (e ∙ ap ordering_reverse less)

-- a trove that isn't above any trove which records the path is the first of them
pub recorded_first : (list : List TroveParts) → IsRising list → (path : Name) (t : TroveParts) (r : FileRec) → Contains list t → record_at t.files path ≡ Some r
    → ((u : TroveParts) → Contains list u → IsSome (record_at u.files path) → is_gt (slice_cmp nat_cmp t.id.name u.id.name) ≡ false)
    → recorded list path ≡ Some (fingerprint_of_record r)
recorded_first [] rises path t r in' there least = absurd (nothing_in t in')
recorded_first (x ∷ list) rises path t r in' there least =
    at (record_at x.files path) refl (λ behind. recorded_first list (sorted_tail by_name x list rises) path t r behind there (λ u u_in some. least u (later x u list u_in) some)) (first_or_later x t list in')
  where
    below : Contains list t → is_gt (slice_cmp nat_cmp t.id.name x.id.name) ≡ true
    below behind =
        turned (slice_cmp nat_cmp t.id.name x.id.name) (slice_cmp nat_cmp x.id.name t.id.name) (nat_list_cmp_total.antisymm t.id.name x.id.name)
        (All-contains (λ (u : TroveParts). slice_cmp nat_cmp x.id.name u.id.name ≡ Less) list t (All-from_recursion (λ (u : TroveParts). slice_cmp nat_cmp x.id.name u.id.name ≡ Less) list (sorted_head by_name x list rises)) behind)

    at : (o : Option FileRec) → record_at x.files path ≡ o → (Contains list t → recorded list path ≡ Some (fingerprint_of_record r)) → (x ≡ t) ⊎ Contains list t → first_mark (record_at x.files path) (recorded list path) ≡ Some (fingerprint_of_record r)
    at None none rest place = ⊎_elim
        (λ same. let own : record_at x.files path ≡ Some r = ap (λ (u : TroveParts). record_at u.files path) same ∙ there in absurd (cc (own, none)))
        (λ behind. ap (λ (o : Option FileRec). first_mark o (recorded list path)) none
        ∙ rest behind)
        place
    at (Some s) some rest place = ⊎_elim
        (λ same. ap (λ (o : Option FileRec). first_mark o (recorded list path)) (ap (λ (u : TroveParts). record_at u.files path) same ∙ there))
        (λ behind. let off : is_gt (slice_cmp nat_cmp t.id.name x.id.name) ≡ false = least x (first x list) (ap is_some some) in let on : is_gt (slice_cmp nat_cmp t.id.name x.id.name) ≡ true = below behind in absurd (cc (on, off)))
        place

-- ---- maps

marked_file : (r : Option FileRec) (mark : Mark) → first_mark r None ≡ Some mark → (s : FileRec) × (r ≡ Some s) × (fingerprint_of_record s ≡ mark)
marked_file None mark e = absurd (none-some mark e)
marked_file (Some s) mark e = (s, refl, cc e)

unmarked : (r : Option FileRec) → first_mark r None ≡ None → r ≡ None
unmarked None e = refl
unmarked (Some s) e = absurd (none-some (fingerprint_of_record s) (sym e))

marked : (r : Option FileRec) → IsSome r → IsSome (first_mark r None)
marked None some = some
marked (Some s) some = refl

module _ (f : Format) (troves : Troves) (m : Marks) (len : ℕ) (indexed : IsIndexed f troves m len) (path : Name) where
  list : List TroveParts
  list = troves_of troves

  at_trove : (u : TroveParts) → Contains (troves_of troves) u → mark_at m path u.id.name ≡ first_mark (record_at u.files path) None
  at_trove u in' =
      indexed.marked path u.id.name
      ∙ ap (λ (o : Option TroveParts). mark_of o path) (found_in f troves m len indexed u.id.name ∙ contained (troves_of troves) (rises_in f troves m len indexed) u in')

  pub recorded_nowhere : ((name : Name) → mark_at m path name ≡ None) → recorded (troves_of troves) path ≡ None
  recorded_nowhere none = recorded_none (troves_of troves) path (λ u in'. unmarked (record_at u.files path) (sym (at_trove u in') ∙ none u.id.name))

  first_of : (mark : Mark) (is : IsFirst m path mark) (o : Option TroveParts) → trove_at troves is.name ≡ o → recorded (troves_of troves) path ≡ Some mark
  first_of mark is None none = absurd (none-some mark (sym (indexed.marked path is.name ∙ ap (λ (o : Option TroveParts). mark_of o path) none) ∙ is.there))
  first_of mark is (Some t) some =
      let there : trove_of is.name (troves_of troves) ≡ Some t = sym (found_in f troves m len indexed is.name) ∙ some in
      let named : t.id.name ≡ is.name = is_named (troves_of troves) is.name t there in
      let file = marked_file (record_at t.files path) mark (sym (indexed.marked path is.name ∙ ap (λ (o : Option TroveParts). mark_of o path) some) ∙ is.there) in
      recorded_first (troves_of troves) (rises_in f troves m len indexed) path t file.0 (is_there (troves_of troves) is.name t there) file.1
      (λ u in' has. ap (λ (n : Name). is_gt (slice_cmp nat_cmp n u.id.name)) named
      ∙ is.least u.id.name (subst IsSome (sym (at_trove u in')) (marked (record_at u.files path) has)))
      ∙ ap (λ (k : Mark). Some k) file.2

  pub recorded_at_first : (mark : Mark) → IsFirst m path mark → recorded (troves_of troves) path ≡ Some mark
  recorded_at_first mark is = first_of mark is (trove_at troves is.name) refl
