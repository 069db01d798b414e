-- Troves that join a list, and troves that are put into a map in turn.
use Rattle.std.proofs.Common.{◌≡◌, ◌⊎◌, inl, inr, ℕ, ◌+◌, ◌<◌, ◌≤◌, suc, Bool, true, false, cond, List, [], ◌∷◌, ◌++◌, length, take, drop, get_or, Option, Some, None, unwrap_or, All, Contains, refl, sym, ap, ◌∙◌, subst, arith, add-one, drop-cons}
use Rattle.std.specs.BTreeMap.{is_at}
use Rattle.std.specs.Cmp.Lexicographic.{slice_cmp}
use Rattle.std.specs.Option.{option_map}
use Rattle.std.specs.Ordering.{nat_cmp}
use Rattle.std.specs.Str.{bytes_eq}
use Rattle.std.specs.declared.cmp.Ordering.TheVariants.{Less}
use Rattle.std.proofs.lemmas.List.{get_or-take, get_or_default, take_all, length-take-le, take_more}
use Rattle.std.proofs.lemmas.List.Elements.{All-contains, All-take}
use Rattle.std.proofs.lemmas.Map.Keys.{Less-from_sorted}
use Rattle.std.proofs.lemmas.Map.Entries.{sum_by-remove_entry}
use Rattle.local_db.specs.trove-parts.declared.files.FileAt.{FileAt}
use Rattle.local_db.specs.trove-stream.declared.parts.TroveParts.{TroveParts}
use Rattle.local_db.specs.tree-disk.Tree.{Name, same_name}
use Rattle.local_db.specs.trove-stream.Installed.{by_name, IsRising, trove_of}
use Rattle.local_db.specs.Installed.{recorded, SharesDirsAlone, IsInstalled}
use Rattle.local_db.specs.declared.format.Format.{Format}
use Rattle.local_db.specs.tree-disk.Laws.{same_means}
use Rattle.local_db.proofs.tree-disk.Laws.{same_itself}
use Rattle.past_jobs.specs.Table.{may_stand, Marks, Troves, trove_at, troves_of, item_len, IsIndexed}
use Rattle.past_jobs.proofs.Maps.{found_in, rises_in}
use Rattle.past_jobs.proofs.Sharing.{files_apart, shares_dirs, stands_apart, apart_stands}
use Rattle.change_rel.proofs.cny-base.ByteLists.{bytes_mean, not_less_itself}
use Rattle.change_rel.proofs.trove-stream.Names.{contained, found_first, found_other, is_named, is_there}
use Rattle.change_rel.specs.trove-stream.Either.{or_else}
use Rattle.change_rel.proofs.cny-base.Lists.{all_from as all_of}

pub drop_next : (files : List FileAt) (i j : ℕ) (file : FileAt) → i + 1 ≡ j → j ≤ length files → file ≡ get_or files i file → drop i files ≡ file ∷ drop j files
drop_next files i j file next within is =
    let lt : i < length files = omega (arith, next, within) in
    drop-cons files i file lt ∙ ap (λ (f : FileAt). f ∷ drop (suc i) files) (sym is) ∙ ap (λ (k : ℕ). file ∷ drop k files) (sym (add-one i) ∙ next)

-- ---- a trove beside those of a list

abbrev pub Stands : List TroveParts → FileAt → Type 0
Stands list file = may_stand (recorded list file.path) file.rec ≡ true

pub joins : (list : List TroveParts) → IsInstalled list → (t : TroveParts) (k : ℕ) → length t.files ≤ k → All (Stands list) (take k t.files) → All (SharesDirsAlone t) list
joins list installed t k end all =
    let whole : All (Stands list) t.files = subst (All (Stands list)) (take_all k t.files end) all in
    all_of (SharesDirsAlone t) list (λ u u_in. shares_dirs t u (λ file other file_in other_in.
    stands_apart list installed file (All-contains (Stands list) t.files file whole file_in) u u_in other other_in))

pub stands_where : (list : List TroveParts) (t : TroveParts) (file : FileAt) → All (SharesDirsAlone t) list → Contains t.files file → Stands list file
stands_where list t file shares file_in =
    apart_stands list file (λ u u_in other other_in. files_apart t u (All-contains (SharesDirsAlone t) list u shares u_in) file other file_in other_in)

-- ---- troves in turn

found_push : (xs : List TroveParts) (t : TroveParts) (name : Name) → trove_of name (xs ++ t ∷ []) ≡ or_else (trove_of name xs) (trove_of name (t ∷ []))
found_push [] t name = refl
found_push (x ∷ xs) t name = at (bytes_eq x.id.name name) (found_push xs t name)
  where
    at : (b : Bool) → trove_of name (xs ++ t ∷ []) ≡ or_else (trove_of name xs) (trove_of name (t ∷ [])) → cond b (Some x) (trove_of name (xs ++ t ∷ [])) ≡ or_else (cond b (Some x) (trove_of name xs)) (trove_of name (t ∷ []))
    at true rest = refl
    at false rest = rest

-- no trove before it has the name of the one at a place
pub unnamed : (xs : List TroveParts) → IsRising xs → (k : ℕ) (t : TroveParts) → k < length xs → t ≡ get_or xs k t → trove_of t.id.name (take k xs) ≡ None
unnamed xs rises k t within is = at (trove_of t.id.name (take k xs)) refl
  where
    at : (o : Option TroveParts) → trove_of t.id.name (take k xs) ≡ o → trove_of t.id.name (take k xs) ≡ None
    at None none = none
    at (Some u) some =
        let u_in = is_there (take k xs) t.id.name u some in
        let names : u.id.name ≡ t.id.name = is_named (take k xs) t.id.name u some in
        let size : length (take k xs) ≡ k = length-take-le k xs (omega (arith, within)) in
        let low : u_in.0 < k = omega (arith, u_in.1, size) in
        let here : get_or xs u_in.0 u ≡ u = sym (get_or-take k xs u_in.0 u low) ∙ u_in.2 in
        let there : get_or xs k u ≡ t = get_or_default xs k u t within ∙ sym is in
        let less : by_name (get_or xs u_in.0 u) (get_or xs k u) ≡ Less = Less-from_sorted by_name xs u_in.0 k u rises low within in
        absurd (not_less_itself t.id.name (ap (λ (n : Name). slice_cmp nat_cmp n t.id.name) (sym names) ∙ ap (λ (w : TroveParts). slice_cmp nat_cmp w.id.name t.id.name) (sym here) ∙ ap (λ (w : TroveParts). slice_cmp nat_cmp (get_or xs u_in.0 u).id.name w.id.name) (sym there) ∙ less))

pub put_step : (xs : List TroveParts) (t : TroveParts) (name : Name) (base now next : Option TroveParts) → trove_of t.id.name xs ≡ None → now ≡ or_else (trove_of name xs) base
    → next ≡ cond (same_name t.id.name name) (Some t) now → next ≡ or_else (trove_of name (xs ++ t ∷ [])) base
put_step xs t name base now next absent so_far step = at (same_name t.id.name name) refl
  where
    one : (b : Bool) → bytes_eq t.id.name name ≡ b → same_name t.id.name name ≡ false → trove_of name (t ∷ []) ≡ None
    one true is off = let on : same_name t.id.name name ≡ true = ap (same_name t.id.name) (sym (bytes_mean t.id.name name is)) ∙ same_itself t.id.name in absurd (cc (on, off))
    one false is off = found_other t [] name is

    stays : (o : Option TroveParts) → or_else (or_else o None) base ≡ or_else o base
    stays None = refl
    stays (Some u) = refl

    at : (b : Bool) → same_name t.id.name name ≡ b → next ≡ or_else (trove_of name (xs ++ t ∷ [])) base
    at true is =
        let names : t.id.name ≡ name = same_means t.id.name name is in
        let none : trove_of name xs ≡ None = ap (λ (n : Name). trove_of n xs) (sym names) ∙ absent in
        let some : trove_of name (t ∷ []) ≡ Some t = ap (λ (n : Name). trove_of n (t ∷ [])) (sym names) ∙ found_first t [] in
        step ∙ ap (λ (b : Bool). cond b (Some t) now) is
        ∙ sym (ap (λ (o : Option TroveParts). or_else o base) (found_push xs t name ∙ ap (λ (o : Option TroveParts). or_else o (trove_of name (t ∷ []))) none ∙ some))
    at false off =
        step ∙ ap (λ (b : Bool). cond b (Some t) now) off ∙ so_far
        ∙ sym (ap (λ (o : Option TroveParts). or_else o base) (found_push xs t name ∙ ap (or_else (trove_of name xs)) (one (bytes_eq t.id.name name) refl off)) ∙ stays (trove_of name xs))

-- the troves up to the next
pub front : (xs : List TroveParts) (k : ℕ) (t : TroveParts) → k < length xs → t ≡ get_or xs k t → take k xs ++ t ∷ [] ≡ take (k + 1) xs
front xs k t within is = ap (λ (u : TroveParts). take k xs ++ u ∷ []) is ∙ sym (take_more xs k t within)

-- ---- lengths

pub weighs : (f : Format) (troves : Troves) (m : Marks) (len : ℕ) → IsIndexed f troves m len → (name : Name) (t : TroveParts) → trove_at troves name ≡ Some t → item_len f t ≤ len
weighs f troves m len indexed name t there =
    let sums = sum_by-remove_entry (item_len f) (is_at (slice_cmp nat_cmp name)) troves.entries in
    let some : unwrap_or (option_map (item_len f) (trove_at troves name)) 0 ≡ item_len f t = ap (λ (o : Option TroveParts). unwrap_or (option_map (item_len f) o) 0) there in
    omega (arith, sums, some, indexed.counted)

pub no_other : (o : Option TroveParts) → or_else o None ≡ o
no_other None = refl
no_other (Some t) = refl

-- ---- what a map has after it was added to

pub old_or_new : (f : Format) (old new : Troves) (m n : Marks) (len to : ℕ) (t : TroveParts) → IsIndexed f old m len → IsIndexed f new n to
    → ((name : Name) → trove_at new name ≡ cond (same_name t.id.name name) (Some t) (trove_at old name)) → (u : TroveParts) → Contains (troves_of new) u → (t ≡ u) ⊎ Contains (troves_of old) u
old_or_new f old new m n len to t old_is new_is put u u_in =
    at (same_name t.id.name u.id.name) (sym (put u.id.name) ∙ found_in f new n to new_is u.id.name ∙ contained (troves_of new) (rises_in f new n to new_is) u u_in)
  where
    at : (b : Bool) → cond b (Some t) (trove_at old u.id.name) ≡ Some u → (t ≡ u) ⊎ Contains (troves_of old) u
    at true e = inl (cc e)
    at false e = inr (is_there (troves_of old) u.id.name u (sym (found_in f old m len old_is u.id.name) ∙ e))

-- none of the name is there yet
pub absent_now : (xs : List TroveParts) → IsRising xs → (base : Troves) → All (λ (t : TroveParts). trove_at base t.id.name ≡ None) xs → (k : ℕ) (t : TroveParts) → k < length xs → t ≡ get_or xs k t
    → or_else (trove_of t.id.name (take k xs)) (trove_at base t.id.name) ≡ None
absent_now xs rises base absent k t within is =
    ap (λ (o : Option TroveParts). or_else o (trove_at base t.id.name)) (unnamed xs rises k t within is)
    ∙ All-contains (λ (t : TroveParts). trove_at base t.id.name ≡ None) xs t absent (k, within, sym is)

pub here_in : (xs whole : List TroveParts) (k : ℕ) (t : TroveParts) → All (Contains whole) xs → k < length xs → t ≡ get_or xs k t → Contains whole t
here_in xs whole k t all within is = All-contains (Contains whole) xs t all (k, within, sym is)

pub all_within : (f : Format) (base now : Troves) (m n : Marks) (len to : ℕ) (xs whole : List TroveParts) (k : ℕ) → IsIndexed f base m len → IsIndexed f now n to
    → ((name : Name) → trove_at now name ≡ or_else (trove_of name (take k xs)) (trove_at base name)) → All (Contains whole) xs → All (Contains whole) (troves_of base)
    → (u : TroveParts) → Contains (troves_of now) u → Contains whole u
all_within f base now m n len to xs whole k base_is now_is found new old u u_in =
    at (trove_of u.id.name (take k xs)) refl (sym (found u.id.name) ∙ found_in f now n to now_is u.id.name ∙ contained (troves_of now) (rises_in f now n to now_is) u u_in)
  where
    at : (o : Option TroveParts) → trove_of u.id.name (take k xs) ≡ o → or_else (trove_of u.id.name (take k xs)) (trove_at base u.id.name) ≡ Some u → Contains whole u
    at None none e =
        All-contains (Contains whole) (troves_of base) u old
        (is_there (troves_of base) u.id.name u (sym (found_in f base m len base_is u.id.name) ∙ ap (λ (o : Option TroveParts). or_else o (trove_at base u.id.name)) (sym none) ∙ e))
    at (Some v) some e =
        let one : Some v ≡ Some u = ap (λ (o : Option TroveParts). or_else o (trove_at base u.id.name)) (sym some) ∙ e in
        let same_one : v ≡ u = cc one in
        subst (Contains whole) same_one (All-contains (Contains whole) (take k xs) v (All-take (Contains whole) k xs new) (is_there (take k xs) u.id.name v some))
