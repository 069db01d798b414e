-- How long change sets are, as troves are added to them.
use Rattle.std.proofs.Common.{◌≡◌, ℕ, zero, suc, ◌+◌, ◌<◌, ◌≤◌, Bool, true, false, cond, not, nat_lt, ◌||◌, List, [], ◌∷◌, ◌++◌, length, get_or, take, Option, Some, None, refl, sym, ap, ◌∙◌, subst, arith, append_assoc, append-nil, length-append, zero-add}
use Rattle.std.specs.Prelude.{sum_by, if◌then◌else◌}
use Rattle.std.specs.BTreeSet.{BTreeSet, Updates}
use Rattle.std.specs.Cmp.Lexicographic.{slice_cmp}
use Rattle.std.specs.List.{list_any}
use Rattle.std.specs.Ordering.{nat_cmp, is_eq}
use Rattle.std.specs.Str.{bytes_eq}
use Rattle.std.proofs.lemmas.Bool.{le-ltb}
use Rattle.std.proofs.lemmas.Bool.Decides.{nat_tests}
use Rattle.std.proofs.lemmas.Grind.{flat_map-append}
use Rattle.std.proofs.lemmas.List.{take_more}
use Rattle.std.proofs.lemmas.List.Folds.{list_any-append}
use Rattle.std.proofs.lemmas.List.Sums.{sum_by-append}
use Rattle.std.proofs.lemmas.Map.Text.{is_eq-slice_cmp}
use Rattle.change_set.specs.cny-base.declared.limits.TheConstants.{PARTS_LIMIT}
use Rattle.change_set.specs.cny-base.declared.refusal.Refusal.{Refusal}
use Rattle.change_set.specs.cny-base.declared.refusal.Refusal.TheVariants.{TooLarge}
use Rattle.change_set.specs.cny-base.declared.refusal.What.TheVariants as what
use Rattle.change_set.specs.trove-parts.declared.files.FileAt.{FileAt}
use Rattle.change_set.specs.trove-stream.declared.parts.TroveParts.{TroveParts}
use Rattle.change_set.specs.trove-stream.FilesOf.{files_of}
use Rattle.repo_index.specs.Catalogue.{is_file_of}
use Rattle.repo_mirror.specs.declared.missing_troves.TheConstants.{SENT_LIMIT}
use Rattle.repo_mirror.specs.Lengths.{content_length, contents_length, set_length, trove_length}
use Rattle.repo_mirror.specs.Missing.{too_much}
use Rattle.repo_mirror.specs.Sums.{AreNamesOf}

-- ---- lengths

pub contents-append : (before xs ys : List FileAt) → contents_length before (xs ++ ys) ≡ contents_length before xs + contents_length (before ++ xs) ys
contents-append before [] ys = ap (λ (b : List FileAt). contents_length b ys) (sym (append-nil before)) ∙ sym (zero-add (contents_length (before ++ []) ys))
contents-append before (x ∷ xs) ys =
    let rest = contents-append (before ++ x ∷ []) xs ys in
    let same = ap (λ (b : List FileAt). contents_length b ys) (append_assoc before (x ∷ []) xs) in
    omega (arith, rest, same)

-- one file more
pub contents-push : (before xs : List FileAt) (x : FileAt) → contents_length before (xs ++ x ∷ []) ≡ contents_length before xs + content_length (before ++ xs) x.rec
contents-push before xs x = let e = contents-append before xs (x ∷ []) in omega (arith, e)

pub set-append : (xs ys : List TroveParts) → set_length (xs ++ ys) ≡ set_length xs + (sum_by trove_length ys + contents_length (files_of xs) (files_of ys))
set-append xs ys =
    let sums = sum_by-append trove_length xs ys in
    let files = ap (contents_length []) (flat_map-append (λ (t : TroveParts). t.files) xs ys) in
    let contents = contents-append [] (files_of xs) (files_of ys) in
    omega (arith, sums, files, contents)

pub set-push : (xs : List TroveParts) (t : TroveParts) → set_length (xs ++ t ∷ []) ≡ set_length xs + (trove_length t + contents_length (files_of xs) t.files)
set-push xs t =
    let all = set-append xs (t ∷ []) in
    let files = ap (contents_length (files_of xs)) (append-nil t.files) in
    omega (arith, all, files)

-- ---- names

-- one name more
pub named_more : (files : List FileAt) (names new : BTreeSet (List ℕ)) (added : List ℕ) (file : FileAt) → AreNamesOf files names → Updates (slice_cmp nat_cmp) names new added true
    → ((name : List ℕ) → is_file_of name file ≡ bytes_eq added name) → AreNamesOf (files ++ file ∷ []) new
named_more files names new added file are updates is = λ name.
    updates.0 name
    ∙ ap (λ (b : Bool). cond (is_eq (slice_cmp nat_cmp added name)) true b) (are name)
    ∙ ap (λ (b : Bool). cond b true (list_any (is_file_of name) files)) (is_eq-slice_cmp added name ∙ sym (is name))
    ∙ last (is_file_of name file) (list_any (is_file_of name) files)
    ∙ sym (list_any-append (is_file_of name) files (file ∷ []))
  where
    last : (a b : Bool) → cond a true b ≡ (b || (a || false))
    last true true = refl
    last true false = refl
    last false true = refl
    last false false = refl

-- a file without contents adds none
pub named_same : (files : List FileAt) (names : BTreeSet (List ℕ)) (file : FileAt) → AreNamesOf files names → ((name : List ℕ) → is_file_of name file ≡ false) → AreNamesOf (files ++ file ∷ []) names
named_same files names file are is = λ name.
    are name ∙ last (is_file_of name file) (list_any (is_file_of name) files) (is name) ∙ sym (list_any-append (is_file_of name) files (file ∷ []))
  where
    last : (a b : Bool) → a ≡ false → b ≡ (b || (a || false))
    last true b h = absurd (cc h)
    last false true h = refl
    last false false h = refl

-- ---- contents and troves, one more

pub not_was : (b x : Bool) → b ≡ true → b ≡ not x → x ≡ false
not_was b true is e = absurd (cc (is, e))
not_was b false is e = refl

pub not_missed : (b x : Bool) → b ≡ false → b ≡ not x → x ≡ true
not_missed b true is e = refl
not_missed b false is e = absurd (cc (is, e))

pub take_next : {A : Type 0} (xs : List A) (i : ℕ) (x : A) → i < length xs → x ≡ get_or xs i x → take (i + 1) xs ≡ take i xs ++ x ∷ []
take_next xs i x within is = take_more xs i x within ∙ ap (λ y. take i xs ++ y ∷ []) (sym is)

pub take_whole : {A : Type 0} (xs : List A) (i : ℕ) → length xs ≤ i → take i xs ≡ xs
take_whole [] zero past = refl
take_whole [] (suc i) past = refl
take_whole (x ∷ xs) zero past = absurd (omega arith)
take_whole (x ∷ xs) (suc i) past = ap (λ l. x ∷ l) (take_whole xs i (omega arith))

pub summed_more : (troves new : List TroveParts) (t : TroveParts) (files : List FileAt) (names : BTreeSet (List ℕ)) (size item contents more sum : ℕ) → new ≡ troves ++ t ∷ [] → files ≡ t.files
    → size ≡ set_length troves → item ≡ trove_length t → contents ≡ contents_length (files_of troves) files → more ≡ item + contents → sum ≡ size + more
    → AreNamesOf (files_of troves ++ files) names → AreNamesOf (files_of new) names × (sum ≡ set_length new)
summed_more troves new t files names size item contents more sum new_is files_are size_is item_is contents_are more_is sum_is are =
    let all : files_of new ≡ files_of troves ++ files =
    ap files_of new_is ∙ flat_map-append (λ (u : TroveParts). u.files) troves (t ∷ []) ∙ ap (λ (l : List FileAt). files_of troves ++ l) (append-nil t.files ∙ sym files_are) in
    let long = ap set_length new_is ∙ set-push troves t in
    let own = ap (contents_length (files_of troves)) files_are in
    (subst (λ (l : List FileAt). AreNamesOf l names) (sym all) are, omega (arith, size_is, item_is, contents_are, more_is, sum_is, long, own))

-- ---- limits

abbrev pub choice : Bool → Bool → ℕ → ℕ → Option Refusal
choice many long number size = if many then Some (TooLarge what.ChangeSet number) else if long then Some (TooLarge what.ChangeSet size) else None

neither : (many long : Bool) (number size : ℕ) → choice many long number size ≡ None → (many ≡ false) × (long ≡ false)
neither true long number size is = absurd (cc is)
neither false true number size is = absurd (cc is)
neither false false number size is = (refl, refl)

none_of : (many long : Bool) (number size : ℕ) → many ≡ false → long ≡ false → choice many long number size ≡ None
none_of true long number size a b = absurd (cc a)
none_of false true number size a b = absurd (cc b)
none_of false false number size a b = refl

not_less : (a b : ℕ) → nat_lt a b ≡ false → b ≤ a
not_less a b h = grind (arith, nat_tests)

-- the troves have room in a change set that is sent
pub record HaveRoom (troves : List TroveParts) : Type 0 where
  pub few : length troves ≤ PARTS_LIMIT
  pub short : set_length troves ≤ SENT_LIMIT

pub room_of : (troves : List TroveParts) → too_much troves ≡ None → HaveRoom troves
room_of troves is =
    let both = neither (nat_lt PARTS_LIMIT (length troves)) (nat_lt SENT_LIMIT (set_length troves)) (length troves) (set_length troves) is in
    record { few = not_less PARTS_LIMIT (length troves) both.0; short = not_less SENT_LIMIT (set_length troves) both.1 }

pub of_room : (troves : List TroveParts) → HaveRoom troves → too_much troves ≡ None
of_room troves room =
    none_of (nat_lt PARTS_LIMIT (length troves)) (nat_lt SENT_LIMIT (set_length troves)) (length troves) (set_length troves)
    (le-ltb PARTS_LIMIT (length troves) room.few) (le-ltb SENT_LIMIT (set_length troves) room.short)

-- of troves that have room the first ones have, too
pub room_front : (xs ys : List TroveParts) → too_much (xs ++ ys) ≡ None → too_much xs ≡ None
room_front xs ys is =
    let room = room_of (xs ++ ys) is in
    of_room xs (record { few = omega (arith, room.few, length-append xs ys); short = omega (arith, room.short, set-append xs ys) })
