-- Writes and entries of planned paths, one after the other.
use Rattle.std.proofs.Common.{◌≡◌, ◌≢◌, ℕ, zero, suc, ◌+◌, ◌<◌, false, List, [], ◌∷◌, ◌++◌, map, length, take, drop, get_or, Option, Some, None, All, refl, sym, ◌∙◌, ap, subst, arith}
use Rattle.std.specs.FinMap.{get}
use Rattle.std.specs.List.{AllByRecursion, AllZip}
use Rattle.std.specs.List.Sorted.{IsStrictlySortedBy}
use Rattle.std.specs.Option.{option_or}
use Rattle.std.specs.Cmp.Lexicographic.{slice_cmp}
use Rattle.std.specs.Ordering.{nat_cmp}
use Rattle.std.specs.declared.cmp.Ordering.TheVariants.{Less}
use Rattle.std.proofs.lemmas.List.{take_more}
use Rattle.std.proofs.lemmas.Slice.Zip.{all_zipped_more}
use Rattle.std.proofs.lemmas.List.Elements.{All-cons, All-head, All-nil, All-tail}
use Rattle.change_set.specs.declared.change.Carried.{Carried}
use Rattle.conflict_plan.specs.declared.planned.Planned.{Planned}
use Rattle.conflict_plan.specs.Orphans.{IsSeenPlan}
use Rattle.conflict_plan.specs.Plan.{mark_of_want, planned_cmp}
use Rattle.local_db.specs.cny-stream.declared.record.FileRec.{FileRec}
use Rattle.local_db.specs.cny-stream.declared.record.FileRec.TheVariants as rec
use Rattle.local_db.specs.journal-log.declared.put.Put.{Put}
use Rattle.local_db.specs.journal-log.declared.put.Want.{Want}
use Rattle.local_db.specs.journal-log.Targets.{node_of}
use Rattle.local_db.specs.journal-log.WriteSet.{ComesBefore, Rises}
use Rattle.job_targets.specs.declared.entry.Entry.{Entry}
use Rattle.job_targets.specs.Old.{is_staged}
use Rattle.local_db.specs.MarkBytes.{IsMark}
use Rattle.local_db.specs.Record as state
use Rattle.local_db.specs.Record.{entry_cmp, IsEntry}
use Rattle.local_db.specs.Steps.{want_of}
use Rattle.local_db.specs.SystemState.{IsTellable}
use Rattle.local_db.specs.tree-disk.Tree.{Name, Tree}
use Rattle.tree_scan.specs.Marks.{fingerprint}
use Rattle.tree_scan.specs.declared.mark.Mark.{Mark}
use Rattle.content_store.specs.Contents.{Answers}
use Rattle.job_targets.specs.Contents.{Finds, FindsBehind, carried_bytes}
use Rattle.job_targets.specs.Carrying.{HaveWants}
use Rattle.job_targets.specs.Outcome.{AreChanges}
use Rattle.job_targets.specs.Targets.{entries_at, entries_of_puts, entry_at, entry_of, entry_of_put, first_large, HasEntry, HasPut, HaveEntries, HavePuts, IsChange, IsTarget, large_size}
use Rattle.job_targets.proofs.Standing.{tellable}
use Rattle.change_set.specs.cny-base.Sized.{of_size}

-- ---- one more

pub at_more : (tree : Tree) (xs : List Planned) (x : Planned) → entries_at tree (xs ++ x ∷ []) ≡ entries_at tree xs ++ entry_at tree x ∷ []
at_more tree [] x = refl
at_more tree (y ∷ xs) x = ap (λ (l : List Entry). entry_at tree y ∷ l) (at_more tree xs x)

-- the planned paths up to a place, with the one there
pub next_taken : (xs : List Planned) (i : ℕ) (x : Planned) → i < length xs → x ≡ get_or xs i x → take (i + 1) xs ≡ take i xs ++ x ∷ []
next_taken xs i x within is = take_more xs i x within ∙ ap (λ (y : Planned). take i xs ++ y ∷ []) (sym is)

pub split_at : (xs : List Planned) (i : ℕ) (x : Planned) → i < length xs → x ≡ get_or xs i x → xs ≡ take i xs ++ x ∷ drop (suc i) xs
split_at [] i x within is = absurd (omega arith)
split_at (y ∷ xs) zero x within is = ap (λ (z : Planned). z ∷ xs) (sym is)
split_at (y ∷ xs) (suc i) x within is = ap (λ (l : List Planned). y ∷ l) (split_at xs i x (omega arith) is)

-- what holds of each of the first planned paths and the item of its place, and of the next ones
pub zip_next : {Y : Type 0} (R : Planned → Y → Type 0) (xs : List Planned) (i : ℕ) (x : Planned) (ys : List Y) (y : Y) (more : List Y) → i < length xs → x ≡ get_or xs i x → more ≡ ys ++ y ∷ [] → AllZip R (take i xs) ys → R x y → AllZip R (take (i + 1) xs) more
zip_next {Y} R xs i x ys y more within is more_is have has =
    subst (λ (l : List Planned). AllZip R l more) (sym (next_taken xs i x within is))
    (subst (λ (l : List Y). AllZip R (take i xs ++ x ∷ []) l) (sym more_is) (all_zipped_more R (take i xs) ys x y have has))

pub at_next : (tree : Tree) (xs : List Planned) (i : ℕ) (x : Planned) (es : List Entry) (e : Entry) (fs : List Entry) → i < length xs → x ≡ get_or xs i x → fs ≡ es ++ e ∷ [] → es ≡ entries_at tree (take i xs) → e ≡ entry_at tree x → fs ≡ entries_at tree (take (i + 1) xs)
at_next tree xs i x es e fs within is more are here =
    more ∙ ap (λ (l : List Entry). l ++ e ∷ []) are ∙ ap (λ (f : Entry). entries_at tree (take i xs) ++ f ∷ []) here
    ∙ sym (at_more tree (take i xs) x) ∙ ap (entries_at tree) (sym (next_taken xs i x within is))

-- ---- answers

-- what is found by these answers, is found by those
pub finds_by : (carried : List Carried) (answers more : Answers) (tree : Tree) (x : Planned) (size : ℕ) (name : List ℕ) (found : Option (List ℕ))
    → ((n : List ℕ) (f : Option (List ℕ)) → answers n f → more n f) → Finds carried answers tree x size name found → Finds carried more tree x size name found
finds_by carried answers more tree x size name found widen finds = behind (of_size size (carried_bytes carried name)) finds
  where
    behind : (own : Option (List ℕ)) → FindsBehind own answers tree x size name found → FindsBehind own more tree x size name found
    behind (Some bytes) is = is
    behind None is = record { answer = is.answer; answered = widen name is.answer is.answered; first = is.first }

pub target_by : (carried : List Carried) (answers more : Answers) (tree : Tree) (x : Planned) (rec : Option FileRec) (w : Want)
    → ((n : List ℕ) (f : Option (List ℕ)) → answers n f → more n f) → IsTarget carried answers tree x rec w → IsTarget carried more tree x rec w
target_by carried answers more tree x None w widen is = is
target_by carried answers more tree x (Some (rec.Dir mode owner)) w widen is = is
target_by carried answers more tree x (Some (rec.File mode owner flags size name)) w widen is =
    record { bytes = is.bytes; found = finds_by carried answers more tree x size name (Some is.bytes) widen is.found; is = is.is }
target_by carried answers more tree x (Some (rec.Link target)) w widen is = is

-- ---- sizes

pub large_append : (xs ys : List Planned) → first_large (xs ++ ys) ≡ option_or (first_large xs) (first_large ys)
large_append [] ys = refl
large_append (x ∷ xs) ys = by (large_size x.was) (large_append xs ys)
  where
    by : (o : Option ℕ) → first_large (xs ++ ys) ≡ option_or (first_large xs) (first_large ys)
        → option_or o (first_large (xs ++ ys)) ≡ option_or (option_or o (first_large xs)) (first_large ys)
    by None rest = rest
    by (Some size) rest = refl

none_first : (a b : Option ℕ) → option_or a b ≡ None → a ≡ None
none_first None b is = refl
none_first (Some x) b is = is

none_second : (a b : Option ℕ) → option_or a b ≡ None → b ≡ None
none_second None b is = is
none_second (Some x) b is = absurd (cc is)

-- where no file is above the limit, none at a place is
pub small_at : (xs : List Planned) (i : ℕ) (x : Planned) → i < length xs → x ≡ get_or xs i x → first_large xs ≡ None → large_size x.was ≡ None
small_at [] i x within is small = absurd (omega arith)
small_at (y ∷ xs) zero x within is small = ap (λ (z : Planned). large_size z.was) is ∙ none_first (large_size y.was) (first_large xs) small
small_at (y ∷ xs) (suc i) x within is small = small_at xs i x (omega arith) is (none_second (large_size y.was) (first_large xs) small)

pub no_large_more : (xs : List Planned) (i : ℕ) (x : Planned) → i < length xs → x ≡ get_or xs i x → first_large (take i xs) ≡ None → large_size x.was ≡ None → first_large (take (i + 1) xs) ≡ None
no_large_more xs i x within is before here =
    ap first_large (next_taken xs i x within is) ∙ large_append (take i xs) (x ∷ [])
    ∙ ap (λ (o : Option ℕ). option_or o (first_large (x ∷ []))) before ∙ ap (λ (o : Option ℕ). option_or o None) here

pub large_here : (xs : List Planned) (i : ℕ) (x : Planned) (size : ℕ) → i < length xs → x ≡ get_or xs i x → first_large (take i xs) ≡ None → large_size x.was ≡ Some size → first_large xs ≡ Some size
large_here xs i x size within is before here =
    ap first_large (split_at xs i x within is) ∙ large_append (take i xs) (x ∷ drop (suc i) xs)
    ∙ ap (λ (o : Option ℕ). option_or o (first_large (x ∷ drop (suc i) xs))) before
    ∙ ap (λ (o : Option ℕ). option_or o (first_large (drop (suc i) xs))) here

-- ---- the order of the writes

pub rises_as : (Gives : Want → Type 0) (xs : List Planned) (ps : List Put) → IsStrictlySortedBy planned_cmp xs → HaveWants Gives xs ps → Rises ps
unfolding IsStrictlySortedBy
rises_as Gives [] [] rises have = tt
rises_as Gives [] (p ∷ ps) rises have = absurd have
rises_as Gives (x ∷ xs) [] rises have = absurd have
rises_as Gives (x ∷ xs) (p ∷ ps) rises have = (before xs ps rises.0 have.1, rises_as Gives xs ps rises.1 have.1)
  where
    before : (ys : List Planned) (qs : List Put) → AllByRecursion (λ (y : Planned). planned_cmp x y ≡ Less) ys → HaveWants Gives ys qs → ComesBefore p qs
    before [] [] all rest = tt
    before [] (q ∷ qs) all rest = absurd rest
    before (y ∷ ys) [] all rest = absurd rest
    before (y ∷ ys) (q ∷ qs) all rest =
        ap (λ (n : Name). slice_cmp nat_cmp n q.path) have.0.path ∙ ap (slice_cmp nat_cmp x.path) rest.0.path ∙ all.0

-- ---- what follows of the writes and the entries

all_zipped : {Y : Type 0} (R : Planned → Y → Type 0) (P : Y → Type 0) → ((x : Planned) (y : Y) → R x y → P y) → (xs : List Planned) (ys : List Y) → AllZip R xs ys → All P ys
all_zipped R P holds [] [] have = All-nil P
all_zipped R P holds (x ∷ xs) (y ∷ ys) have = All-cons P y ys (holds x y have.0) (all_zipped R P holds xs ys have.1)
all_zipped R P holds [] (y ∷ ys) have = absurd have
all_zipped R P holds (x ∷ xs) [] have = absurd have

pub given_puts : (xs : List Planned) (ps : List Put) → HavePuts xs ps → All (λ (p : Put). is_staged p.want ≡ false) ps
given_puts = all_zipped HasPut (λ (p : Put). is_staged p.want ≡ false) (λ x p has. has.marked.given)

pub marked_puts : (xs : List Planned) (ps : List Put) (es : List Entry) → HavePuts xs ps → HaveEntries xs es → All (λ (p : Put). IsMark (fingerprint (node_of p.want))) ps
marked_puts [] [] es have entries = All-nil _
marked_puts (x ∷ xs) (p ∷ ps) (e ∷ es) have entries =
    All-cons (λ (q : Put). IsMark (fingerprint (node_of q.want))) p ps
    (subst IsMark (entries.0.mark ∙ sym have.0.marked.marked) entries.0.told.now)
    (marked_puts xs ps es have.1 entries.1)
marked_puts (x ∷ xs) (p ∷ ps) [] have entries = absurd entries
marked_puts [] (p ∷ ps) es have entries = absurd have
marked_puts (x ∷ xs) [] es have entries = absurd have

pub given_entries : (xs : List Planned) (es : List Entry) → HaveEntries xs es → All (λ (e : Entry). is_staged e.was ≡ false) es
given_entries = all_zipped HasEntry (λ (e : Entry). is_staged e.was ≡ false) (λ x e has. has.old.given)

pub told_entries : (xs : List Planned) (es : List Entry) → HaveEntries xs es → All IsEntry (map entry_of es)
told_entries [] [] have = All-nil _
told_entries (x ∷ xs) (e ∷ es) have = All-cons IsEntry (entry_of e) (map entry_of es) have.0.told (told_entries xs es have.1)
told_entries [] (e ∷ es) have = absurd have
told_entries (x ∷ xs) [] have = absurd have

pub rising_entries : (xs : List Planned) (es : List Entry) → IsStrictlySortedBy planned_cmp xs → HaveEntries xs es → IsStrictlySortedBy entry_cmp (map entry_of es)
unfolding IsStrictlySortedBy
rising_entries [] [] rises have = tt
rising_entries [] (e ∷ es) rises have = absurd have
rising_entries (x ∷ xs) [] rises have = absurd have
rising_entries (x ∷ xs) (e ∷ es) rises have = (before xs es rises.0 have.1, rising_entries xs es rises.1 have.1)
  where
    before : (ys : List Planned) (fs : List Entry) → AllByRecursion (λ (y : Planned). planned_cmp x y ≡ Less) ys → HaveEntries ys fs → AllByRecursion (λ (f : state.Entry). entry_cmp (entry_of e) f ≡ Less) (map entry_of fs)
    before [] [] all rest = tt
    before [] (f ∷ fs) all rest = absurd rest
    before (y ∷ ys) [] all rest = absurd rest
    before (y ∷ ys) (f ∷ fs) all rest =
        (ap (λ (n : Name). slice_cmp nat_cmp n f.path) have.0.path ∙ ap (slice_cmp nat_cmp x.path) rest.0.path ∙ all.0, before ys fs all.1 rest.1)

-- ---- over a tree

entry_same : (tree : Tree) (path path' : Name) (mark mark' : Mark) → path' ≡ path → mark' ≡ mark
    → (let e : Entry = record { path = path; was = want_of (get tree path); mark = mark } in e) ≡ (let e : Entry = record { path = path'; was = want_of (get tree path'); mark = mark' } in e)
entry_same tree path path' mark mark' same marks = cc (same, marks)

-- the entries by the writes
pub entries_by_puts : (tree : Tree) (xs : List Planned) (ps : List Put) → HavePuts xs ps → entries_at tree xs ≡ entries_of_puts tree ps
entries_by_puts tree [] [] have = refl
entries_by_puts tree (x ∷ xs) (p ∷ ps) have =
    ap (λ (e : Entry). e ∷ entries_at tree xs) (entry_same tree x.path p.path (mark_of_want x.want) (fingerprint (node_of p.want)) have.0.path have.0.marked.marked)
    ∙ ap (λ (l : List Entry). entry_of_put tree p ∷ l) (entries_by_puts tree xs ps have.1)
entries_by_puts tree [] (p ∷ ps) have = absurd have
entries_by_puts tree (x ∷ xs) [] have = absurd have

pub tellable_puts : (tree : Tree) (xs : List Planned) (ps : List Put) → HavePuts xs ps → HaveEntries xs (entries_at tree xs) → All (λ (p : Put). IsTellable (get tree p.path)) ps
tellable_puts tree [] [] have entries = All-nil _
tellable_puts tree (x ∷ xs) (p ∷ ps) have entries =
    All-cons (λ (q : Put). IsTellable (get tree q.path)) p ps
    (subst (λ (n : Name). IsTellable (get tree n)) (sym have.0.path) (tellable (get tree x.path) entries.0.old))
    (tellable_puts tree xs ps have.1 entries.1)
tellable_puts tree [] (p ∷ ps) have entries = absurd have
tellable_puts tree (x ∷ xs) [] have entries = absurd have

pub changing_puts : (tree : Tree) (xs : List Planned) (ps : List Put) → All (IsSeenPlan tree) xs → All IsChange xs → HavePuts xs ps → AreChanges tree ps
changing_puts tree [] [] seen change have = All-nil _
changing_puts tree (x ∷ xs) (p ∷ ps) seen change have =
    All-cons (λ (q : Put). get tree q.path ≢ node_of q.want) p ps
    (λ same. All-head IsChange x xs change (All-head (IsSeenPlan tree) x xs seen ∙ ap (λ (n : Name). fingerprint (get tree n)) (sym have.0.path) ∙ ap fingerprint same ∙ have.0.marked.marked))
    (changing_puts tree xs ps (All-tail (IsSeenPlan tree) x xs seen) (All-tail IsChange x xs change) have.1)
changing_puts tree [] (p ∷ ps) seen change have = absurd have
changing_puts tree (x ∷ xs) [] seen change have = absurd have
