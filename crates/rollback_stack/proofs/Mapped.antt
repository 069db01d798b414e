-- The writes that a map holds.
use Rattle.std.proofs.Common.{◌≡◌, ⊎_elim, inl, inr, ℕ, zero, suc, ◌+◌, ◌-◌, arith, Bool, true, false, cond, ◌||◌, List, [], ◌∷◌, ◌++◌, map, get_or, Option, Some, All, Contains, refl, sym, ◌∙◌, ap, subst}
use Rattle.std.specs.Prelude.{◌⊎◌}
use Rattle.std.specs.BTreeMap.{IsOrdered}
use Rattle.std.specs.Cmp.Lexicographic.{slice_cmp, nat_list_cmp_total}
use Rattle.std.specs.List.Sorted.{IsStrictlySortedBy}
use Rattle.std.specs.Map.{keys_of}
use Rattle.std.specs.Ordering.{nat_cmp}
use Rattle.std.proofs.lemmas.Bool.{cases_Bool}
use Rattle.std.proofs.lemmas.List.{append-nil}
use Rattle.std.proofs.lemmas.List.Elements.{All-nil, All-cons, All-map, All-contains, Contains-get_or}
use Rattle.std.proofs.lemmas.Map.Views.{All-found, Contains-from_lookup}
use Rattle.job_targets.specs.cny-base.Reserved.{is_reserved}
use Rattle.job_targets.specs.journal-log.declared.put.Put.{Put}
use Rattle.job_targets.specs.journal-log.declared.put.Want.{Want}
use Rattle.job_targets.specs.journal-log.declared.put.Want.TheVariants as want
use Rattle.job_targets.specs.journal-log.WriteSet.{Rises}
use Rattle.local_db.proofs.Places.{record_reserved}
use Rattle.local_db.proofs.Writes.{not_both}
use Rattle.local_db.specs.Names.{record_file}
use Rattle.local_db.specs.Steps.{IsUnion, no_record_put}
use Rattle.job_targets.proofs.tree-disk.ClearLaws.{or_cases}
use Rattle.job_targets.specs.tree-disk.Laws.{same_means}
use Rattle.job_targets.proofs.tree-disk.Laws.{same_itself}
use Rattle.job_targets.specs.tree-disk.Tree.{Name, same_name}
use Rattle.rollback_stack.specs.Inverse.{no_records}
use Rattle.rollback_stack.specs.Wanting.{HasNoRecord, HasNoRecords, Wants, is_record, put_of, puts_in, want_at}
use Rattle.change_rel.proofs.cny-base.Lists.{contains_first, contains_map, contains_rest}
use Rattle.change_rel.proofs.cny-base.Bools.{or_false, or_left, or_right}
use Rattle.change_rel.proofs.cny-base.OptionValues.{same_some}
use Rattle.change_rel.proofs.cny-base.Bools.{joined}

-- ---- the order

pub rises_from : (es : List (Name × Want)) → IsStrictlySortedBy (slice_cmp nat_cmp) (keys_of es) → Rises (map put_of es)
unfolding IsStrictlySortedBy
rises_from [] sorted = tt
rises_from (e ∷ []) sorted = (tt, tt)
rises_from (e ∷ f ∷ es) sorted = (sorted.0.0, rises_from (f ∷ es) sorted.1)

-- all of them, once none is left
pub all_put : (wants : Wants) (items : List Put) (rest : List (Name × Want)) → items ++ map put_of rest ≡ puts_in wants → rest ≡ [] → items ≡ puts_in wants
all_put wants items rest so_far none = sym (append-nil items) ∙ ap (λ (es : List (Name × Want)). items ++ map put_of es) (sym none) ∙ so_far

-- ---- what is among them

pub put_in : (wants : Wants) (p : Name) (w : Want) → want_at wants p ≡ Some w → Contains (puts_in wants) (record { path = p; want = w })
put_in wants p w is = contains_map put_of wants.entries (p, w) (Contains-from_lookup {eq = same_name} same_means p w wants.entries is)

pub put_at : (wants : Wants) → IsOrdered (slice_cmp nat_cmp) wants → (q : Put) → Contains (puts_in wants) q → want_at wants q.path ≡ Some q.want
put_at wants ordered q in' = All-contains (λ (q : Put). want_at wants q.path ≡ Some q.want) (puts_in wants) q
    (All-map (λ (q : Put). want_at wants q.path ≡ Some q.want) put_of wants.entries (All-found nat_list_cmp_total wants ordered)) in'

-- ---- the records

pub record_free : (count number : ℕ) (p : Name) → is_reserved p ≡ false → is_record count number p ≡ false
record_free zero number p free = refl
record_free (suc count) number p free = neither (same_name (record_file number) p) (is_record count (number - 1) p)
    (λ same. not_both (is_reserved p) (ap is_reserved (sym (same_means (record_file number) p same)) ∙ record_reserved number) free)
    (record_free count (number - 1) p free)
  where
    neither : (a b : Bool) → (a ≡ true → ⊥) → b ≡ false → (a || b) ≡ false
    neither true b isnt other = absurd (isnt refl)
    neither false b isnt other = other

-- the last of so many records
is_record_last : (count number : ℕ) (p : Name) → is_record (suc count) number p ≡ (is_record count number p || same_name (record_file (number - count)) p)
is_record_last zero number p =
    let same : number ≡ number - 0 = omega arith in
    or_false (same_name (record_file number) p) ∙ ap (λ (n : ℕ). same_name (record_file n) p) same
is_record_last (suc count) number p =
    let same : (number - 1) - count ≡ number - suc count = omega arith in
    ap (λ (b : Bool). same_name (record_file number) p || b) (is_record_last count (number - 1) p)
    ∙ sym (joined (same_name (record_file number) p) (is_record count (number - 1) p) (same_name (record_file ((number - 1) - count)) p))
    ∙ ap (λ (n : ℕ). (same_name (record_file number) p || is_record count (number - 1) p) || same_name (record_file n) p) same

if_either : (a b : Bool) (w o : Option Want) → cond b w (cond a w o) ≡ cond (a || b) w o
if_either true true w o = refl
if_either true false w o = refl
if_either false true w o = refl
if_either false false w o = refl

pub none_cleared : (newest : ℕ) (wants : Wants) → HasNoRecords 0 newest wants wants
none_cleared newest wants = λ p. refl

pub one_cleared : (count newest : ℕ) (first old new : Wants) → HasNoRecords count newest first old → HasNoRecord (newest - count) old new → HasNoRecords (count + 1) newest first new
one_cleared count newest first old new so_far step =
    let more : suc count ≡ count + 1 = omega arith in
    λ p. step p ∙ ap (λ o. cond (same_name (record_file (newest - count)) p) (Some want.Nothing) o) (so_far p)
    ∙ if_either (is_record count newest p) (same_name (record_file (newest - count)) p) (Some want.Nothing) (want_at first p)
    ∙ ap (λ b. cond b (Some want.Nothing) (want_at first p)) (sym (is_record_last count newest p))
    ∙ ap (λ (n : ℕ). cond (is_record n newest p) (Some want.Nothing) (want_at first p)) more

module _ (count newest : ℕ) (old new : Wants) (cleared : HasNoRecords count newest old new) (old_ordered : IsOrdered (slice_cmp nat_cmp) old) (ordered : IsOrdered (slice_cmp nat_cmp) new)
    (free : (p : Name) (w : Want) → want_at old p ≡ Some w → is_reserved p ≡ false) where
  on_record : (p : Name) → is_record count newest p ≡ true → want_at new p ≡ Some want.Nothing
  on_record p is = cleared p ∙ ap (λ b. cond b (Some want.Nothing) (want_at old p)) is

  off_record : (p : Name) → is_record count newest p ≡ false → want_at new p ≡ want_at old p
  off_record p is = cleared p ∙ ap (λ b. cond b (Some want.Nothing) (want_at old p)) is

  node_in : (q : Put) → Contains (puts_in old) q → Contains (puts_in new) q
  node_in q in' =
      let at = put_at old old_ordered q in' in
      put_in new q.path q.want (off_record q.path (record_free count newest q.path (free q.path q.want at)) ∙ at)

  records_in : (c m : ℕ) → ((p : Name) → is_record c m p ≡ true → is_record count newest p ≡ true) → All (Contains (puts_in new)) (no_records c m)
  records_in zero m h = All-nil (Contains (puts_in new))
  records_in (suc c) m h = All-cons (Contains (puts_in new)) (no_record_put m) (no_records c (m - 1))
      (put_in new (record_file m) want.Nothing (on_record (record_file m) (h (record_file m) (or_left (same_name (record_file m) (record_file m)) (is_record c (m - 1) (record_file m)) (same_itself (record_file m))))))
      (records_in c (m - 1) (λ p is. h p (or_right (same_name (record_file m) p) (is_record c (m - 1) p) is)))

  record_of : (c m : ℕ) (p : Name) → is_record c m p ≡ true → Contains (no_records c m) (record { path = p; want = want.Nothing })
  record_of zero m p is = absurd (cc is)
  record_of (suc c) m p is = ⊎_elim
      (λ same. subst (λ (r : Name). Contains (no_records (suc c) m) (record { path = r; want = want.Nothing })) (same_means (record_file m) p same) (contains_first (no_record_put m) (no_records c (m - 1))))
      (λ rest. contains_rest (no_record_put m) (record { path = p; want = want.Nothing }) (no_records c (m - 1)) (record_of c (m - 1) p rest))
      (or_cases (same_name (record_file m) p) (is_record c (m - 1) p) is)

  one_of : (q : Put) → Contains (puts_in new) q → Contains (puts_in old) q ⊎ Contains (no_records count newest) q
  one_of q in' =
      let at = put_at new ordered q in' in
      ⊎_elim
      (λ is. let nothing : want.Nothing ≡ q.want = same_some want.Nothing q.want (sym (on_record q.path is) ∙ at) in
      inr (subst (λ (w : Want). Contains (no_records count newest) (record { path = q.path; want = w })) nothing (record_of count newest q.path is)))
      (λ out. inl (put_in old q.path q.want (sym (off_record q.path out) ∙ at)))
      (cases_Bool (is_record count newest q.path))

  -- the nodes and nothing at the records, in their order
  pub all_writes : IsUnion (puts_in new) (puts_in old) (no_records count newest)
  all_writes = record {
    rises = rises_from new.entries ordered;
    some_in = λ k d lt. node_in (get_or (puts_in old) k d) (Contains-get_or (puts_in old) k d lt);
    more_in = records_in count newest (λ p is. is);
    no_other = λ k d lt. one_of (get_or (puts_in new) k d) (Contains-get_or (puts_in new) k d lt);
  }
