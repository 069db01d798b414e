-- What is kept of contents: by rising names, and each one of those that were given.
use Rattle.std.proofs.Common.{◌≡◌, ℕ, List, [], ◌∷◌, map, refl, sym, ap, subst, ◌∙◌}
use Rattle.std.specs.Prelude.{All, Contains}
use Rattle.std.specs.BTreeMap.{insert_entry}
use Rattle.std.specs.BTreeSet.{insert_key}
use Rattle.std.specs.List.{fold, AllByRecursion}
use Rattle.std.specs.List.Sorted.{IsStrictlySortedBy}
use Rattle.std.specs.Map.{keys_of}
use Rattle.std.specs.Ordering.{match_ordering}
use Rattle.std.specs.declared.cmp.Ordering.{Ordering}
use Rattle.std.specs.declared.cmp.Ordering.TheVariants.{Less, Equal, Greater}
use Rattle.std.proofs.lemmas.List.Elements.{All-nil, All-cons, All-head, All-tail, All-contains_itself, All-map}
use Rattle.change_set.specs.ChangeSet.{content_cmp}
use Rattle.change_set.specs.declared.change.Carried.{Carried}
use Rattle.manifest_troves.specs.Contents.{put_content, carried_of, contents_of}
use Rattle.manifest_troves.specs.Kept.{Entries}
use Rattle.manifest_troves.specs.Troves.{with_names}
use Rattle.manifest_troves.proofs.Names.{by_bytes, tied, names_sorted, none_sorted}

-- ---- the order of their names

abbrev name_of : Carried → List ℕ
name_of content = content.name

put_keys : (entries : Entries) (name bytes : List ℕ) → keys_of (insert_entry by_bytes entries name bytes) ≡ insert_key by_bytes (keys_of entries) name
put_keys [] name bytes = refl
put_keys (e ∷ es) name bytes = at (by_bytes name e.0) (put_keys es name bytes)
  where
    at : (o : Ordering) → keys_of (insert_entry by_bytes es name bytes) ≡ insert_key by_bytes (keys_of es) name
        → keys_of (match_ordering o ((name, bytes) ∷ e ∷ es) ((e.0, bytes) ∷ es) (e ∷ insert_entry by_bytes es name bytes)) ≡ match_ordering o (name ∷ e.0 ∷ keys_of es) (e.0 ∷ keys_of es) (e.0 ∷ insert_key by_bytes (keys_of es) name)
    at Less later = refl
    at Equal later = refl
    at Greater later = ap (λ (l : List (List ℕ)). e.0 ∷ l) later

kept_keys : (entries : Entries) (contents : List Carried) → keys_of (fold put_content entries contents) ≡ with_names (keys_of entries) (map name_of contents)
kept_keys entries [] = refl
kept_keys entries (c ∷ contents) =
    kept_keys (put_content entries c) contents ∙ ap (λ (l : List (List ℕ)). with_names l (map name_of contents)) (put_keys entries c.name c.bytes)

above_mapped : (e : List ℕ × List ℕ) (es : Entries) → AllByRecursion (λ (n : List ℕ). by_bytes e.0 n ≡ Less) (keys_of es) → AllByRecursion (λ (c : Carried). content_cmp (carried_of e) c ≡ Less) (map carried_of es)
above_mapped e [] all = tt
above_mapped e (x ∷ es) all = (all.0, above_mapped e es all.1)

rising_mapped : (es : Entries) → IsStrictlySortedBy by_bytes (keys_of es) → IsStrictlySortedBy content_cmp (map carried_of es)
unfolding IsStrictlySortedBy
rising_mapped [] s = tt
rising_mapped (e ∷ es) s = (above_mapped e es s.0, rising_mapped es s.1)

pub contents_rise : (contents : List Carried) → IsStrictlySortedBy content_cmp (contents_of contents)
contents_rise contents =
    rising_mapped (fold put_content [] contents)
    (subst (IsStrictlySortedBy by_bytes) (sym (kept_keys [] contents)) (names_sorted [] (map name_of contents) none_sorted))

-- ---- which they are

abbrev IsOf : List Carried → List ℕ × List ℕ → Type 0
IsOf contents entry = Contains contents (carried_of entry)

put_all : (P : List ℕ × List ℕ → Type 0) (entries : Entries) (name bytes : List ℕ) → All P entries → P (name, bytes) → All P (insert_entry by_bytes entries name bytes)
put_all P [] name bytes all is = All-cons P (name, bytes) [] is all
put_all P (e ∷ es) name bytes all is = at (by_bytes name e.0) refl (put_all P es name bytes (All-tail P e es all) is)
  where
    at : (o : Ordering) → by_bytes name e.0 ≡ o → All P (insert_entry by_bytes es name bytes) → All P (match_ordering o ((name, bytes) ∷ e ∷ es) ((e.0, bytes) ∷ es) (e ∷ insert_entry by_bytes es name bytes))
    at Less same later = All-cons P (name, bytes) (e ∷ es) is all
    at Equal same later = All-cons P (e.0, bytes) es (subst (λ (n : List ℕ). P (n, bytes)) (tied name e.0 same) is) (All-tail P e es all)
    at Greater same later = All-cons P e (insert_entry by_bytes es name bytes) (All-head P e es all) later

kept_all : (all contents : List Carried) (entries : Entries) → All (Contains all) contents → All (IsOf all) entries → All (IsOf all) (fold put_content entries contents)
kept_all all [] entries given kept = kept
kept_all all (c ∷ contents) entries given kept =
    kept_all all contents (put_content entries c) (All-tail (Contains all) c contents given)
    (put_all (IsOf all) entries c.name c.bytes kept (All-head (Contains all) c contents given))

pub contents_given : (contents : List Carried) → All (Contains contents) (contents_of contents)
contents_given contents =
    All-map (Contains contents) carried_of (fold put_content [] contents) (kept_all contents contents [] (All-contains_itself contents) (All-nil (IsOf contents)))
