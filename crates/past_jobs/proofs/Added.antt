-- The map of fingerprints after one more and one less.
use Rattle.std.proofs.Common.{◌≡◌, ℕ, ◌<◌, Bool, true, false, cond, ◌&&◌, List, [], ◌∷◌, length, Option, Some, None, is_some, IsSome, IsTrue, IfSome, IfNone, Ordering, refl, sym, ap, ◌∙◌, arith}
use Rattle.std.specs.BTreeMap.{BTreeMap, get, is_at, IsLowerBound}
use Rattle.std.specs.BTreeMap.Comparable.{le_lt_trans}
use Rattle.std.specs.Cmp.Lexicographic.{slice_cmp, nat_list_cmp_total}
use Rattle.std.specs.Map.{lookup}
use Rattle.std.specs.Option.{option_copied}
use Rattle.std.specs.Ordering.{nat_cmp, is_eq, is_gt, is_le, is_lt, ordering_reverse}
use Rattle.std.specs.Str.{bytes_eq}
use Rattle.std.specs.declared.cmp.Ordering.TheVariants.{Less, Equal, Greater}
use Rattle.std.proofs.lemmas.Bool.{false≢true}
use Rattle.local_db.specs.trove-parts.declared.files.FileAt.{FileAt}
use Rattle.local_db.specs.tree-disk.Tree.{Name, same_name}
use Rattle.tree_scan.specs.declared.mark.Mark.{Mark}
use Rattle.tree_scan.specs.Marks.{fingerprint_of_record}
use Rattle.local_db.specs.Installed.{record_at, first_mark, recorded}
use Rattle.local_db.specs.declared.format.Format.{Format}
use Rattle.local_db.specs.tree-disk.Laws.{same_means}
use Rattle.past_jobs.specs.Table.{Marks, Troves, recorders_at, mark_in, mark_at, IsFirst, IsFirstOf, IsIndexed, troves_of}
use Rattle.past_jobs.specs.declared.past_marks.Recorders.{Recorders}
use Rattle.local_db.proofs.tree-disk.Laws.{same_itself}
use Rattle.change_rel.proofs.cny-base.ByteLists.{bytes_itself}
use Rattle.past_jobs.proofs.Names.{same_flips}
use Rattle.past_jobs.proofs.Recorded.{recorded_nowhere, recorded_at_first}
use denote.Ref.{Bor}

-- ---- the recorders of one path

apart_from : (x y : Name) → bytes_eq x y ≡ false → x ≡ y → ⊥
apart_from x y is equal = let own : bytes_eq x y ≡ true = ap (λ (n : Name). bytes_eq n y) equal ∙ bytes_itself y in absurd (cc (own, is))

-- another one comes or goes
pub beside : (own name : Name) (of_own : Mark) (w other : Option Mark) (n : Name) → bytes_eq own name ≡ false
    → cond (same_name own n) (Some of_own) (cond (same_name name n) w other) ≡ cond (same_name name n) w (cond (same_name own n) (Some of_own) other)
beside own name of_own w other n apart = by (same_name own n) refl (same_name name n) refl
  where
    by : (b : Bool) → same_name own n ≡ b → (d : Bool) → same_name name n ≡ d
        → cond b (Some of_own) (cond d w other) ≡ cond d w (cond b (Some of_own) other)
    by true is true so = absurd (apart_from own name apart (same_means own n is ∙ sym (same_means name n so)))
    by true is false so = refl
    by false is true so = refl
    by false is false so = refl

-- ---- the first of them

not_above : (o : Ordering) → is_gt o ≡ false → IsTrue (is_le o)
not_above Less is = refl
not_above Equal is = refl
not_above Greater is = absurd (cc is)

below_turned : (a b : Ordering) → a ≡ ordering_reverse b → b ≡ Greater → a ≡ Less
below_turned a b e is = e ∙ ap ordering_reverse is

-- a name above which none of the keys comes first, where the first key isn't below it
in_between : (one key other : Name) → is_lt (slice_cmp nat_cmp key one) ≡ false → is_gt (slice_cmp nat_cmp key other) ≡ false → is_gt (slice_cmp nat_cmp one other) ≡ false
in_between one key other above low = by (slice_cmp nat_cmp one other) refl
  where
    by : (o : Ordering) → slice_cmp nat_cmp one other ≡ o → is_gt o ≡ false
    by Less is = refl
    by Equal is = refl
    by Greater is =
        let turned : slice_cmp nat_cmp other one ≡ Less = below_turned (slice_cmp nat_cmp other one) (slice_cmp nat_cmp one other) (nat_list_cmp_total.antisymm other one) is in
        let less : slice_cmp nat_cmp key one ≡ Less = le_lt_trans nat_list_cmp_total key other one (not_above (slice_cmp nat_cmp key other) low) turned in
        let yes : is_lt (slice_cmp nat_cmp key one) ≡ true = ap is_lt less in
        absurd (cc (yes, above))

above_same : (x y : Name) → same_name x y ≡ true → is_gt (slice_cmp nat_cmp x y) ≡ false
above_same x y is = by (slice_cmp nat_cmp x y) is
  where
    by : (o : Ordering) → is_eq o ≡ true → is_gt o ≡ false
    by Less is = refl
    by Equal is = refl
    by Greater is = absurd (cc is)

above_less : (x y : Name) → is_lt (slice_cmp nat_cmp x y) ≡ true → (is_gt (slice_cmp nat_cmp x y) ≡ false) × (same_name x y ≡ false)
above_less x y is = by (slice_cmp nat_cmp x y) is
  where
    by : (o : Ordering) → is_lt o ≡ true → (is_gt o ≡ false) × (is_eq o ≡ false)
    by Less is = (refl, refl)
    by Equal is = absurd (cc is)
    by Greater is = absurd (cc is)

module _ (own : Name) (of_own : Mark) (others : BTreeMap Name Mark) where
  abbrev seen : Name → Option Mark
  seen name = cond (same_name own name) (Some of_own) (get (slice_cmp nat_cmp) others name)

  -- what holds of the one's name and of those of the others
  each : (first : Name) → is_gt (slice_cmp nat_cmp first own) ≡ false → ((n : Name) → IsSome (get (slice_cmp nat_cmp) others n) → is_gt (slice_cmp nat_cmp first n) ≡ false)
      → (n : Name) → IsSome (seen n) → is_gt (slice_cmp nat_cmp first n) ≡ false
  each first one rest n = by (same_name own n) refl
    where
      by : (b : Bool) → same_name own n ≡ b → IsSome (cond b (Some of_own) (get (slice_cmp nat_cmp) others n)) → is_gt (slice_cmp nat_cmp first n) ≡ false
      by true is some = ap (λ (q : Name). is_gt (slice_cmp nat_cmp first q)) (sym (same_means own n is)) ∙ one
      by false is some = rest n some

  own_there : seen own ≡ Some of_own
  own_there = ap (λ (b : Bool). cond b (Some of_own) (get (slice_cmp nat_cmp) others own)) (same_itself own)

  -- an empty map has nothing
  none_there : (n : Name) (es : List (Name × Mark)) → (0 < length es → false ≡ true) → lookup (is_at (slice_cmp nat_cmp n)) es ≡ None
  none_there n [] empty = refl
  none_there n (e ∷ es) empty = absurd (false≢true (empty (omega arith)))

  pub first_alone : (0 < length others.entries → false ≡ true) → IsFirstOf seen of_own
  first_alone empty = record {
    name = own;
    there = own_there;
    least = each own (above_same own own (same_itself own)) (λ n some. absurd (false≢true (sym (ap is_some (none_there n others.entries empty)) ∙ some)));
  }

  pub first_own : (key : Name) → is_lt (slice_cmp nat_cmp key own) ≡ false → IsLowerBound (slice_cmp nat_cmp) others key → IsFirstOf seen of_own
  first_own key above low = record {
    name = own;
    there = own_there;
    least = each own (above_same own own (same_itself own)) (λ n some. in_between own key n above (low n some));
  }

  pub first_key : (key : Name) (mark : Mark) → is_lt (slice_cmp nat_cmp key own) ≡ true → get (slice_cmp nat_cmp) others key ≡ Some mark → IsLowerBound (slice_cmp nat_cmp) others key → IsFirstOf seen mark
  first_key key mark less value low = record {
    name = key;
    there = ap (λ (b : Bool). cond b (Some of_own) (get (slice_cmp nat_cmp) others key)) (same_flips key own ∙ (above_less key own less).1) ∙ value;
    least = each key (above_less key own less).0 low;
  }

-- ---- one place

module _ (m m1 m2 : Marks) (r r' : Recorders) (path name path' : Name) (w : Option Mark) (path_is : path' ≡ path)
    (taken : (n : Name) → mark_in (Some r) n ≡ mark_at m path n)
    (kept : (p : Name) → recorders_at m1 p ≡ cond (same_name path p) None (recorders_at m p))
    (inner : (n : Name) → mark_in (Some r') n ≡ cond (same_name name n) w (mark_in (Some r) n))
    (outer : (q : Name) → recorders_at m2 q ≡ cond (same_name path' q) (Some r') (recorders_at m1 q)) where
  at : (p n : Name) (b : Bool) → same_name path p ≡ b → mark_at m2 p n ≡ cond (b && same_name name n) w (mark_at m p n)
  at p n true is =
      ap (λ (o : Option Recorders). mark_in o n) (outer p ∙ ap (λ (q : Name). cond (same_name q p) (Some r') (recorders_at m1 p)) path_is ∙ ap (λ (b : Bool). cond b (Some r') (recorders_at m1 p)) is)
      ∙ inner n
      ∙ ap (cond (same_name name n) w) (taken n ∙ ap (λ (q : Name). mark_at m q n) (same_means path p is))
  at p n false is =
      ap (λ (o : Option Recorders). mark_in o n)
      (outer p ∙ ap (λ (q : Name). cond (same_name q p) (Some r') (recorders_at m1 p)) path_is ∙ ap (λ (b : Bool). cond b (Some r') (recorders_at m1 p)) is
      ∙ kept p ∙ ap (λ (b : Bool). cond b None (recorders_at m p)) is)

  pub marked_after : (p n : Name) → mark_at m2 p n ≡ cond (same_name path p && same_name name n) w (mark_at m p n)
  marked_after p n = at p n (same_name path p) refl

-- what the search in the map answers
pub answers : (f : Format) (troves : Troves) (m : Marks) (len : ℕ) → IsIndexed f troves m len → (path : Name) (r : Option (Bor Mark))
    → IfSome r (λ mark. IsFirst m path mark.now) → IfNone r ((name : Name) → mark_at m path name ≡ None) → option_copied r ≡ recorded (troves_of troves) path
answers f troves m len indexed path None some none = sym (recorded_nowhere f troves m len indexed path none)
answers f troves m len indexed path (Some mark) some none = sym (recorded_at_first f troves m len indexed path mark.now some)

-- ---- the files of a trove

module _ (base m m' : Marks) (name : Name) (file : FileAt) (files : List FileAt) where
  pub one_more : ((p n : Name) → mark_at m p n ≡ cond (same_name name n) (first_mark (record_at files p) (mark_at base p n)) (mark_at base p n))
      → ((p n : Name) → mark_at m' p n ≡ cond (same_name file.path p && same_name name n) (Some (fingerprint_of_record file.rec)) (mark_at m p n))
      → (p n : Name) → mark_at m' p n ≡ cond (same_name name n) (first_mark (record_at (file ∷ files) p) (mark_at base p n)) (mark_at base p n)
  one_more before step p n = step p n ∙ ap (cond (same_name file.path p && same_name name n) (Some (fingerprint_of_record file.rec))) (before p n) ∙ at (same_name file.path p) (same_name name n) (same_flips file.path p)
    where
      at : (a b : Bool) → same_name p file.path ≡ a
          → cond (a && b) (Some (fingerprint_of_record file.rec)) (cond b (first_mark (record_at files p) (mark_at base p n)) (mark_at base p n))
          ≡ cond b (first_mark (record_at (file ∷ files) p) (mark_at base p n)) (mark_at base p n)
      at true true is = sym (ap (λ (c : Bool). first_mark (cond c (Some file.rec) (record_at files p)) (mark_at base p n)) is)
      at true false is = refl
      at false true is = sym (ap (λ (c : Bool). first_mark (cond c (Some file.rec) (record_at files p)) (mark_at base p n)) is)
      at false false is = refl

  pub one_less : ((p n : Name) → mark_at m p n ≡ cond (same_name name n && is_some (record_at files p)) None (mark_at base p n))
      → ((p n : Name) → mark_at m' p n ≡ cond (same_name file.path p && same_name name n) None (mark_at m p n))
      → (p n : Name) → mark_at m' p n ≡ cond (same_name name n && is_some (record_at (file ∷ files) p)) None (mark_at base p n)
  one_less before step p n = step p n ∙ ap (cond (same_name file.path p && same_name name n) None) (before p n) ∙ at (same_name file.path p) (same_name name n) (same_flips file.path p)
    where
      at : (a b : Bool) → same_name p file.path ≡ a
          → cond (a && b) None (cond (b && is_some (record_at files p)) None (mark_at base p n)) ≡ cond (b && is_some (record_at (file ∷ files) p)) None (mark_at base p n)
      at true true is = sym (ap (λ (c : Bool). cond (is_some (cond c (Some file.rec) (record_at files p))) None (mark_at base p n)) is)
      at true false is = refl
      at false true is = sym (ap (λ (c : Bool). cond (is_some (cond c (Some file.rec) (record_at files p))) None (mark_at base p n)) is)
      at false false is = refl
