-- Ordered maps of troves, as lists.
use Rattle.std.proofs.Common.{◌≡◌, ℕ, ◌+◌, Bool, true, false, cond, ◌&&◌, List, [], ◌∷◌, ◌++◌, length, Option, Some, None, is_some, unwrap_or, Ordering, All, refl, sym, ap, ◌∙◌, subst, arith, length-append}
use Rattle.std.specs.BTreeMap.{is_at, insert_entry, IsOrdered}
use Rattle.std.specs.Cmp.Lexicographic.{slice_cmp, nat_list_cmp_total}
use Rattle.std.specs.Int.{w32, to_be_bytes}
use Rattle.std.specs.List.{AllByRecursion, sum_by}
use Rattle.std.specs.List.Sorted.{IsStrictlySortedBy}
use Rattle.std.specs.Map.{lookup, keys_of, values_of, remove_entry}
use Rattle.std.specs.Option.{option_map}
use Rattle.std.specs.Ordering.{nat_cmp, match_ordering}
use Rattle.std.specs.Str.{bytes_eq}
use Rattle.std.specs.declared.cmp.Ordering.TheVariants.{Less, Equal, Greater}
use Rattle.std.proofs.lemmas.List.Elements.{All-nil, All-cons, All-head, All-tail}
use Rattle.std.proofs.lemmas.List.Sums.{sum_by-cons}
use Rattle.std.proofs.lemmas.Map.Entries.{sum_by-insert_entry, sum_by-remove_entry}
use Rattle.local_db.specs.cny-stream.Item.{item_bytes}
use Rattle.local_db.specs.trove-parts.Items.{items_bytes}
use Rattle.local_db.specs.trove-stream.declared.parts.TroveParts.{TroveParts}
use Rattle.local_db.specs.tree-disk.Tree.{Name, same_name}
use Rattle.local_db.specs.cny-stream.declared.record.FileRec.{FileRec}
use Rattle.local_db.specs.trove-stream.Installed.{IsRising, trove_of}
use Rattle.local_db.specs.Installed.{record_at, first_mark}
use Rattle.local_db.specs.declared.format.Format.{Format}
use Rattle.local_db.specs.declared.format.Format.TheVariants.{One, Two}
use Rattle.local_db.specs.Formats.{database_magic, database_bytes, trove_text}
use Rattle.local_db.specs.tree-disk.Laws.{same_means}
use Rattle.local_db.proofs.tree-disk.Laws.{same_itself}
use Rattle.past_jobs.specs.Table.{Marks, Troves, mark_at, mark_of, trove_at, troves_of, item_len, list_len, HasOwnName, IsIndexed}
use Rattle.change_rel.proofs.cny-base.ByteLists.{bytes_itself, bytes_mean}
use Rattle.change_rel.proofs.trove-parts.Encodings.{item_length}

-- ---- by their names

pub by_list : (es : List (Name × TroveParts)) → All HasOwnName es → (name : Name) → lookup (is_at (slice_cmp nat_cmp name)) es ≡ trove_of name (values_of es)
by_list [] named name = refl
by_list (e ∷ es) named name = at (by_list es (All-tail HasOwnName e es named) name) (same_name name e.0) refl (bytes_eq e.1.id.name name) refl
  where
    own : e.0 ≡ e.1.id.name
    own = All-head HasOwnName e es named

    at : lookup (is_at (slice_cmp nat_cmp name)) es ≡ trove_of name (values_of es) → (b : Bool) → same_name name e.0 ≡ b → (c : Bool) → bytes_eq e.1.id.name name ≡ c
        → cond b (Some e.1) (lookup (is_at (slice_cmp nat_cmp name)) es) ≡ cond c (Some e.1) (trove_of name (values_of es))
    at rest true is true so = refl
    at rest false is false so = rest
    at rest true is false so =
        let names : e.1.id.name ≡ name = sym (same_means name e.0 is ∙ own) in
        let yes : bytes_eq e.1.id.name name ≡ true = ap (λ (n : Name). bytes_eq n name) names ∙ bytes_itself name in
        absurd (cc (yes, so))
    at rest false is true so =
        let names : e.0 ≡ name = own ∙ bytes_mean e.1.id.name name so in
        let yes : same_name name e.0 ≡ true = ap (same_name name) names ∙ same_itself name in
        absurd (cc (yes, is))

above : (k : Name) (es : List (Name × TroveParts)) → All HasOwnName es → AllByRecursion (λ (n : Name). slice_cmp nat_cmp k n ≡ Less) (keys_of es)
    → AllByRecursion (λ (u : TroveParts). slice_cmp nat_cmp k u.id.name ≡ Less) (values_of es)
above k [] named less = tt
above k (e ∷ es) named less = (ap (slice_cmp nat_cmp k) (sym (All-head HasOwnName e es named)) ∙ less.0, above k es (All-tail HasOwnName e es named) less.1)

pub rising : (es : List (Name × TroveParts)) → All HasOwnName es → IsStrictlySortedBy (slice_cmp nat_cmp) (keys_of es) → IsRising (values_of es)
unfolding IsStrictlySortedBy
rising [] named sorted = tt
rising (e ∷ es) named sorted = (
  subst (λ (k : Name). AllByRecursion (λ (u : TroveParts). slice_cmp nat_cmp k u.id.name ≡ Less) (values_of es)) (All-head HasOwnName e es named) (above e.0 es (All-tail HasOwnName e es named) sorted.0),
  rising es (All-tail HasOwnName e es named) sorted.1,
)

module _ (f : Format) (troves : Troves) (m : Marks) (len : ℕ) (indexed : IsIndexed f troves m len) where
  pub found_in : (name : Name) → trove_at troves name ≡ trove_of name (troves_of troves)
  found_in name = by_list troves.entries indexed.named name

  pub rises_in : IsRising (troves_of troves)
  rises_in = rising troves.entries indexed.named indexed.ordered

-- ---- names of entries

module _ (k : Name) (t : TroveParts) (own : k ≡ t.id.name) where
  pub insert_named : (es : List (Name × TroveParts)) → All HasOwnName es → All HasOwnName (insert_entry (slice_cmp nat_cmp) es k t)
  insert_named [] named = All-cons HasOwnName (k, t) [] own (All-nil HasOwnName)
  insert_named (e ∷ es) named = at (slice_cmp nat_cmp k e.0) refl (insert_named es (All-tail HasOwnName e es named))
    where
      at : (o : Ordering) → slice_cmp nat_cmp k e.0 ≡ o → All HasOwnName (insert_entry (slice_cmp nat_cmp) es k t)
          → All HasOwnName (match_ordering o ((k, t) ∷ e ∷ es) ((e.0, t) ∷ es) (e ∷ insert_entry (slice_cmp nat_cmp) es k t))
      at Less is rest = All-cons HasOwnName (k, t) (e ∷ es) own named
      at Equal is rest = All-cons HasOwnName (e.0, t) es (sym (same_means k e.0 (ap Rattle.std.specs.Ordering.is_eq is)) ∙ own) (All-tail HasOwnName e es named)
      at Greater is rest = All-cons HasOwnName e (insert_entry (slice_cmp nat_cmp) es k t) (All-head HasOwnName e es named) rest

pub remove_named : (test : Name → Bool) (es : List (Name × TroveParts)) → All HasOwnName es → All HasOwnName (remove_entry test es)
remove_named test [] named = named
remove_named test (e ∷ es) named = at (test e.0) (remove_named test es (All-tail HasOwnName e es named))
  where
    at : (b : Bool) → All HasOwnName (remove_entry test es) → All HasOwnName (cond b es (e ∷ remove_entry test es))
    at true rest = All-tail HasOwnName e es named
    at false rest = All-cons HasOwnName e (remove_entry test es) (All-head HasOwnName e es named) rest

-- ---- lengths

items_length : (f : Format) (list : List TroveParts) → length (items_bytes (trove_text f) 0x50 list) ≡ sum_by (item_len f) list
items_length f [] = refl
items_length f (t ∷ list) =
    let whole : length (items_bytes (trove_text f) 0x50 (t ∷ list)) ≡ length (item_bytes 0x50 (trove_text f t)) + length (items_bytes (trove_text f) 0x50 list) = length-append (item_bytes 0x50 (trove_text f t)) (items_bytes (trove_text f) 0x50 list) in
    let item : length (item_bytes 0x50 (trove_text f t)) ≡ item_len f t = item_length 0x50 (trove_text f t) in
    let rest : length (items_bytes (trove_text f) 0x50 list) ≡ sum_by (item_len f) list = items_length f list in
    let sum : sum_by (item_len f) (t ∷ list) ≡ item_len f t + sum_by (item_len f) list = sum_by-cons (item_len f) t list in
    whole ∙ ap (λ (n : ℕ). n + length (items_bytes (trove_text f) 0x50 list)) item ∙ ap (λ (n : ℕ). item_len f t + n) rest ∙ sym sum

magic_length : (f : Format) → length (database_magic f) ≡ 8
magic_length One = refl
magic_length Two = refl

-- the length of a database
pub database_length : (f : Format) (list : List TroveParts) → length (database_bytes f list 0 0) ≡ list_len f list
database_length f list =
    let end : List ℕ = item_bytes 0x51 (to_be_bytes w32 0 ++ to_be_bytes w32 0) ++ item_bytes 0x5F [] in
    let troves : List ℕ = items_bytes (trove_text f) 0x50 list in
    let whole : length (database_bytes f list 0 0) ≡ length (database_magic f) + length (troves ++ end) = length-append (database_magic f) (troves ++ end) in
    let middle : length (troves ++ end) ≡ length troves + length end = length-append troves end in
    let last : length end ≡ 18 = refl in
    let items : length troves ≡ sum_by (item_len f) list = items_length f list in
    omega (arith, whole, middle, last, items, magic_length f)

-- ---- one trove more, one trove less

module _ (f : Format) (old new : Troves) (m n : Marks) (len to : ℕ) (t : TroveParts) (indexed : IsIndexed f old m len)
    (ordered : IsOrdered (slice_cmp nat_cmp) new) where
  nothing_before : trove_at old t.id.name ≡ None → (p name : Name) → t.id.name ≡ name → mark_at m p name ≡ None
  nothing_before absent p name names = indexed.marked p name ∙ ap (λ (o : Option TroveParts). mark_of o p) (ap (trove_at old) (sym names) ∙ absent)

  pub put_indexed : trove_at old t.id.name ≡ None
      → new.entries ≡ insert_entry (slice_cmp nat_cmp) old.entries t.id.name t
      → ((q : Name) → trove_at new q ≡ cond (same_name t.id.name q) (Some t) (trove_at old q))
      → ((p q : Name) → mark_at n p q ≡ cond (same_name t.id.name q) (first_mark (record_at t.files p) (mark_at m p q)) (mark_at m p q))
      → to ≡ len + item_len f t
      → IsIndexed f new n to
  put_indexed absent entries at marks counted = record {
    ordered = ordered;
    named = subst (All HasOwnName) (sym entries) (insert_named t.id.name t refl old.entries indexed.named);
    marked = λ p q. marked p q (same_name t.id.name q) refl;
    counted =
        let sums = sum_by-insert_entry (item_len f) nat_list_cmp_total old.entries t.id.name t indexed.ordered in
        let none : unwrap_or (option_map (item_len f) (trove_at old t.id.name)) 0 ≡ 0 = ap (λ (o : Option TroveParts). unwrap_or (option_map (item_len f) o) 0) absent in
        let same_sum : sum_by (item_len f) (troves_of new) ≡ sum_by (item_len f) (values_of (insert_entry (slice_cmp nat_cmp) old.entries t.id.name t)) = ap (λ (es : List (Name × TroveParts)). sum_by (item_len f) (values_of es)) entries in
        omega (arith, sums, none, same_sum, counted, indexed.counted);
  }
    where
      marked : (p q : Name) (b : Bool) → same_name t.id.name q ≡ b → mark_at n p q ≡ mark_of (trove_at new q) p
      marked p q true is =
          marks p q ∙ ap (λ (b : Bool). cond b (first_mark (record_at t.files p) (mark_at m p q)) (mark_at m p q)) is
          ∙ ap (first_mark (record_at t.files p)) (nothing_before absent p q (same_means t.id.name q is))
          ∙ sym (ap (λ (o : Option TroveParts). mark_of o p) (at q ∙ ap (λ (b : Bool). cond b (Some t) (trove_at old q)) is))
      marked p q false is =
          marks p q ∙ ap (λ (b : Bool). cond b (first_mark (record_at t.files p) (mark_at m p q)) (mark_at m p q)) is
          ∙ indexed.marked p q
          ∙ sym (ap (λ (o : Option TroveParts). mark_of o p) (at q ∙ ap (λ (b : Bool). cond b (Some t) (trove_at old q)) is))

  no_mark : (r : Option FileRec) → cond (is_some r) None (first_mark r None) ≡ None
  no_mark None = refl
  no_mark (Some r) = refl

  pub take_indexed : (name : Name) → trove_at old name ≡ Some t
      → new.entries ≡ remove_entry (is_at (slice_cmp nat_cmp name)) old.entries
      → ((q : Name) → trove_at new q ≡ cond (same_name name q) None (trove_at old q))
      → ((p q : Name) → mark_at n p q ≡ cond (same_name name q && is_some (record_at t.files p)) None (mark_at m p q))
      → to + item_len f t ≡ len
      → IsIndexed f new n to
  take_indexed name there entries at marks counted = record {
    ordered = ordered;
    named = subst (All HasOwnName) (sym entries) (remove_named (is_at (slice_cmp nat_cmp name)) old.entries indexed.named);
    marked = λ p q. marked p q (same_name name q) refl;
    counted =
        let sums = sum_by-remove_entry (item_len f) (is_at (slice_cmp nat_cmp name)) old.entries in
        let some : unwrap_or (option_map (item_len f) (trove_at old name)) 0 ≡ item_len f t = ap (λ (o : Option TroveParts). unwrap_or (option_map (item_len f) o) 0) there in
        let same_sum : sum_by (item_len f) (troves_of new) ≡ sum_by (item_len f) (values_of (remove_entry (is_at (slice_cmp nat_cmp name)) old.entries)) = ap (λ (es : List (Name × TroveParts)). sum_by (item_len f) (values_of es)) entries in
        omega (arith, sums, some, same_sum, counted, indexed.counted);
  }
    where
      marked : (p q : Name) (b : Bool) → same_name name q ≡ b → mark_at n p q ≡ mark_of (trove_at new q) p
      marked p q true is =
          marks p q ∙ ap (λ (b : Bool). cond (b && is_some (record_at t.files p)) None (mark_at m p q)) is
          ∙ ap (cond (is_some (record_at t.files p)) None) (indexed.marked p q ∙ ap (λ (o : Option TroveParts). mark_of o p) (ap (trove_at old) (sym (same_means name q is)) ∙ there))
          ∙ no_mark (record_at t.files p)
          ∙ sym (ap (λ (o : Option TroveParts). mark_of o p) (at q ∙ ap (λ (b : Bool). cond b None (trove_at old q)) is))
      marked p q false is =
          marks p q ∙ ap (λ (b : Bool). cond (b && is_some (record_at t.files p)) None (mark_at m p q)) is
          ∙ indexed.marked p q
          ∙ sym (ap (λ (o : Option TroveParts). mark_of o p) (at q ∙ ap (λ (b : Bool). cond b None (trove_at old q)) is))
