-- The first collision, by the contents that are kept by their names.
use Rattle.std.proofs.Common.{◌≡◌, ℕ, Bool, true, false, not, cond, ◌&&◌, List, [], ◌∷◌, ◌++◌, Option, Some, None, refl, sym, ap, ◌∙◌, subst, inl, inr, ⊎_elim}
use Rattle.std.specs.Prelude.{◌⊎◌}
use Rattle.std.specs.BTreeMap.{insert_entry}
use Rattle.std.specs.Cmp.{first_so}
use Rattle.std.specs.List.{find}
use Rattle.std.specs.Ordering.{is_eq, match_ordering}
use Rattle.std.specs.Str.{bytes_eq}
use Rattle.std.specs.declared.cmp.Ordering.{Ordering}
use Rattle.std.specs.declared.cmp.Ordering.TheVariants.{Less, Equal, Greater}
use Rattle.std.proofs.lemmas.Bool.{true≢false, cases_Bool}
use Rattle.change_set.specs.cny-base.declared.refusal.Fault.{Fault}
use Rattle.change_set.specs.cny-base.declared.refusal.Fault.TheVariants as fault
use Rattle.change_set.specs.declared.change.Carried.{Carried}
use Rattle.manifest_troves.specs.Kept.{Entries, kept_by, unless_same, differing, collision_then, collision_from, IsCollisionFrom}
use Rattle.manifest_troves.specs.Contents.{first_difference, collides, collision_by, collision_behind, put_content, first_collision, IsCollisionOf}
use Rattle.manifest_troves.proofs.Names.{by_bytes, same_test, tied}
use Rattle.change_set.proofs.cny-base.ByteLists.{bytes_mean as bytes_are, equal_bytes}

-- ---- names

itself : (x : List ℕ) → is_eq (by_bytes x x) ≡ true
itself x = sym (same_test x x) ∙ equal_bytes x x refl

-- ---- what is kept after a content was put

abbrev entry_at : List ℕ → List ℕ → Entries → Entries
entry_at name bytes entries = insert_entry by_bytes entries name bytes

first_kept : (name other bytes : List ℕ) (entries : Entries) → is_eq (by_bytes name other) ≡ true → kept_by name ((other, bytes) ∷ entries) ≡ Some bytes
first_kept name other bytes entries e = rw e refl

later_kept : (name other bytes : List ℕ) (entries : Entries) → is_eq (by_bytes name other) ≡ false → kept_by name ((other, bytes) ∷ entries) ≡ kept_by name entries
later_kept name other bytes entries e = rw e refl

put_kept : (name bytes : List ℕ) (entries : Entries) → kept_by name (entry_at name bytes entries) ≡ Some bytes
put_kept name bytes [] = first_kept name name bytes [] (itself name)
put_kept name bytes (e ∷ es) = at (by_bytes name e.0) refl (put_kept name bytes es)
  where
    at : (o : Ordering) → by_bytes name e.0 ≡ o → kept_by name (entry_at name bytes es) ≡ Some bytes → kept_by name (match_ordering o ((name, bytes) ∷ e ∷ es) ((e.0, bytes) ∷ es) (e ∷ entry_at name bytes es)) ≡ Some bytes
    at Less h later = first_kept name name bytes (e ∷ es) (itself name)
    at Equal h later = first_kept name e.0 bytes es (ap is_eq h)
    at Greater h later = later_kept name e.0 e.1 (entry_at name bytes es) (ap is_eq h) ∙ later

put_others : (name other bytes : List ℕ) (entries : Entries) → is_eq (by_bytes name other) ≡ false → kept_by name (entry_at other bytes entries) ≡ kept_by name entries
put_others name other bytes [] apart = later_kept name other bytes [] apart
put_others name other bytes (e ∷ es) apart = at (by_bytes other e.0) refl (put_others name other bytes es apart)
  where
    at : (o : Ordering) → by_bytes other e.0 ≡ o → kept_by name (entry_at other bytes es) ≡ kept_by name es → kept_by name (match_ordering o ((other, bytes) ∷ e ∷ es) ((e.0, bytes) ∷ es) (e ∷ entry_at other bytes es)) ≡ kept_by name (e ∷ es)
    at Less h later = later_kept name other bytes (e ∷ es) apart
    at Equal h later =
        let far : is_eq (by_bytes name e.0) ≡ false = ap (λ (k : List ℕ). is_eq (by_bytes name k)) (sym (tied other e.0 h)) ∙ apart in
        later_kept name e.0 bytes es far ∙ sym (later_kept name e.0 e.1 es far)
    at Greater h later = ap (λ (o : Option (List ℕ)). cond (is_eq (by_bytes name e.0)) (Some e.1) o) later

-- ---- the contents that came, and those that are kept

abbrev Has : List Carried → Carried → Type 0
Has [] c = ⊥
Has (x ∷ xs) c = (x ≡ c) ⊎ Has xs c

has_push : (xs : List Carried) (y c : Carried) → Has (xs ++ y ∷ []) c → Has xs c ⊎ (y ≡ c)
has_push [] y c (inl e) = inr e
has_push [] y c (inr none) = absurd none
has_push (x ∷ xs) y c (inl e) = inl (inl e)
has_push (x ∷ xs) y c (inr more) = ⊎_elim (λ h. inl (inr h)) (λ e. inr e) (has_push xs y c more)

push_has : (xs : List Carried) (y : Carried) → Has (xs ++ y ∷ []) y
push_has [] y = inl refl
push_has (x ∷ xs) y = inr (push_has xs y)

has_more : (xs : List Carried) (y c : Carried) → Has xs c → Has (xs ++ y ∷ []) c
has_more [] y c none = absurd none
has_more (x ∷ xs) y c (inl e) = inl e
has_more (x ∷ xs) y c (inr more) = inr (has_more xs y c more)

record KeptFrom (earlier : List Carried) (name bytes : List ℕ) : Type 0 where
  content : Carried
  has : Has earlier content
  name_is : content.name ≡ name
  bytes_are : content.bytes ≡ bytes

record Agrees (earlier : List Carried) (entries : Entries) : Type 0 where
  each : (c : Carried) → Has earlier c → kept_by c.name entries ≡ Some c.bytes
  kept : (name bytes : List ℕ) → kept_by name entries ≡ Some bytes → KeptFrom earlier name bytes

-- what is kept by the content's name is equal
equal_kept : (c : Carried) (o : Option (List ℕ)) (bytes : List ℕ) → unless_same c o ≡ None → o ≡ Some bytes → bytes ≡ c.bytes
equal_kept c None bytes none e = absurd (cc)
equal_kept c (Some other) bytes none e = at (bytes_eq other c.bytes) refl none
  where
    at : (b : Bool) → bytes_eq other c.bytes ≡ b → cond b None (Some other) ≡ None → bytes ≡ c.bytes
    at true same given = let is : other ≡ bytes = cc in sym is ∙ bytes_are other c.bytes same
    at false same given = absurd (cc)

-- what is kept by the content's name is another
other_kept : (c : Carried) (o : Option (List ℕ)) (other : List ℕ) → unless_same c o ≡ Some other → (o ≡ Some other) × (bytes_eq other c.bytes ≡ false)
other_kept c None other e = absurd (cc)
other_kept c (Some bytes) other e = at (bytes_eq bytes c.bytes) refl e
  where
    at : (b : Bool) → bytes_eq bytes c.bytes ≡ b → cond b None (Some bytes) ≡ Some other → (◌≡◌ {A = Option (List ℕ)} (Some bytes) (Some other)) × (bytes_eq other c.bytes ≡ false)
    at true same given = absurd (cc)
    at false same given = let is : bytes ≡ other = cc in (given, ap (λ (l : List ℕ). bytes_eq l c.bytes) (sym is) ∙ same)

agrees_push : (earlier : List Carried) (entries : Entries) (c : Carried) → Agrees earlier entries → differing entries c ≡ None → Agrees (earlier ++ c ∷ []) (put_content entries c)
agrees_push earlier entries c so_far none =
    record {
      each = λ d has. ⊎_elim
          (λ (old : Has earlier d). ⊎_elim
          (λ (same : is_eq (by_bytes d.name c.name) ≡ true).
          let names : d.name ≡ c.name = bytes_are d.name c.name (same_test d.name c.name ∙ same) in
          let bytes : d.bytes ≡ c.bytes = equal_kept c (kept_by c.name entries) d.bytes none (ap (λ (n : List ℕ). kept_by n entries) (sym names) ∙ so_far.each d old) in
          ap (λ (n : List ℕ). kept_by n (put_content entries c)) names ∙ put_kept c.name c.bytes entries ∙ ap (λ (b : List ℕ). Some b) (sym bytes))
          (λ (apart : is_eq (by_bytes d.name c.name) ≡ false). put_others d.name c.name c.bytes entries apart ∙ so_far.each d old)
          (cases_Bool (is_eq (by_bytes d.name c.name))))
          (λ (new : c ≡ d). subst (λ (x : Carried). kept_by x.name (put_content entries c) ≡ Some x.bytes) new (put_kept c.name c.bytes entries))
          (has_push earlier c d has);
      kept = λ name bytes found. ⊎_elim
          (λ (same : is_eq (by_bytes name c.name) ≡ true).
          let names : name ≡ c.name = bytes_are name c.name (same_test name c.name ∙ same) in
          let both : ◌≡◌ {A = Option (List ℕ)} (Some c.bytes) (Some bytes) = sym (put_kept c.name c.bytes entries) ∙ ap (λ (n : List ℕ). kept_by n (put_content entries c)) (sym names) ∙ found in
          let is : c.bytes ≡ bytes = cc in
          let here : KeptFrom (earlier ++ c ∷ []) name bytes = record { content = c; has = push_has earlier c; name_is = sym names; bytes_are = is } in here)
          (λ (apart : is_eq (by_bytes name c.name) ≡ false).
          let old = so_far.kept name bytes (sym (put_others name c.name c.bytes entries apart) ∙ found) in
          let here : KeptFrom (earlier ++ c ∷ []) name bytes = record { content = old.content; has = has_more earlier c old.content old.has; name_is = old.name_is; bytes_are = old.bytes_are } in here)
          (cases_Bool (is_eq (by_bytes name c.name)));
    }

-- ---- the first that differs

find_none : (p : Carried → Bool) (xs : List Carried) → ((c : Carried) → Has xs c → p c ≡ false) → find p xs ≡ None
find_none p [] none = refl
find_none p (x ∷ xs) none = rw (none x (inl refl)) (find_none p xs (λ c h. none c (inr h)))

record Found (p : Carried → Bool) (xs : List Carried) : Type 0 where
  content : Carried
  first : find p xs ≡ Some content
  has : Has xs content
  passes : p content ≡ true

find_some : (p : Carried → Bool) (xs : List Carried) (c : Carried) → Has xs c → p c ≡ true → Found p xs
find_some p [] c none is = absurd none
find_some p (x ∷ xs) c has is = at (p x) refl (λ h. find_some p xs c h is)
  where
    at : (b : Bool) → p x ≡ b → (Has xs c → Found p xs) → Found p (x ∷ xs)
    at true e later = record { content = x; first = rw e refl; has = inl refl; passes = e }
    at false e later =
        let more : Found p xs = ⊎_elim (λ (same : x ≡ c). absurd (true≢false (sym is ∙ ap p (sym same) ∙ e))) (λ (h : Has xs c). later h) has in
        record { content = more.content; first = rw e more.first; has = inr more.has; passes = more.passes }

and_not : (a b : Bool) → (a ≡ true → b ≡ true) → (a && not b) ≡ false
and_not true b h = rw (h refl) refl
and_not false b h = refl

none_collides : (earlier : List Carried) (entries : Entries) (c : Carried) → Agrees earlier entries → differing entries c ≡ None → find (collides c) earlier ≡ None
none_collides earlier entries c so_far none =
    find_none (collides c) earlier (λ e has. and_not (bytes_eq e.name c.name) (bytes_eq e.bytes c.bytes) (λ same.
    let names : e.name ≡ c.name = bytes_are e.name c.name same in
    equal_bytes e.bytes c.bytes (equal_kept c (kept_by c.name entries) e.bytes none (ap (λ (n : List ℕ). kept_by n entries) (sym names) ∙ so_far.each e has))))

one_collides : (earlier : List Carried) (entries : Entries) (c : Carried) (other : List ℕ) → Agrees earlier entries → differing entries c ≡ Some other
    → (e : Carried) × (find (collides c) earlier ≡ Some e) × (e.bytes ≡ other)
one_collides earlier entries c other so_far differs =
    let kept = other_kept c (kept_by c.name entries) other differs in
    let from = so_far.kept c.name other kept.0 in
    let apart : bytes_eq from.content.bytes c.bytes ≡ false = ap (λ (l : List ℕ). bytes_eq l c.bytes) from.bytes_are ∙ kept.1 in
    let here : collides c from.content ≡ true = rw (equal_bytes from.content.name c.name from.name_is, apart) refl in
    let found = find_some (collides c) earlier from.content from.has here in
    let names : found.content.name ≡ c.name = bytes_are found.content.name c.name (first_so (bytes_eq found.content.name c.name) (not (bytes_eq found.content.bytes c.bytes)) found.passes) in
    let both : ◌≡◌ {A = Option (List ℕ)} (Some found.content.bytes) (Some other) = sym (so_far.each found.content found.has) ∙ ap (λ (n : List ℕ). kept_by n entries) names ∙ kept.0 in
    let bytes : found.content.bytes ≡ other = cc in
    (found.content, found.first, bytes)

collisions_agree : (contents earlier : List Carried) (entries : Entries) → Agrees earlier entries → collision_behind earlier contents ≡ collision_from entries contents
collisions_agree [] earlier entries so_far = refl
collisions_agree (c ∷ cs) earlier entries so_far = at (differing entries c) refl (λ next. collisions_agree cs (earlier ++ c ∷ []) (put_content entries c) next)
  where
    at : (o : Option (List ℕ)) → differing entries c ≡ o → (Agrees (earlier ++ c ∷ []) (put_content entries c) → collision_behind (earlier ++ c ∷ []) cs ≡ collision_from (put_content entries c) cs)
        → collision_behind earlier (c ∷ cs) ≡ collision_from entries (c ∷ cs)
    at None e later =
        ap (λ (o : Option Carried). collision_by c o (collision_behind (earlier ++ c ∷ []) cs)) (none_collides earlier entries c so_far e)
        ∙ later (agrees_push earlier entries c so_far e)
        ∙ sym (ap (λ (o : Option (List ℕ)). collision_then c o (collision_from (put_content entries c) cs)) e)
    at (Some other) e later =
        let found = one_collides earlier entries c other so_far e in
        ap (λ (o : Option Carried). collision_by c o (collision_behind (earlier ++ c ∷ []) cs)) found.1
        ∙ ap (λ (l : List ℕ). Some (c.name, first_difference l c.bytes)) found.2
        ∙ sym (ap (λ (o : Option (List ℕ)). collision_then c o (collision_from (put_content entries c) cs)) e)

nothing_kept : Agrees [] []
nothing_kept = record { each = λ c none. absurd none; kept = λ name bytes found. absurd (cc) }

pub first_kept_collision : (contents : List Carried) → first_collision contents ≡ collision_from [] contents
first_kept_collision contents = collisions_agree contents [] [] nothing_kept

pub collision_refused : (contents : List Carried) (e : Fault) → IsCollisionFrom [] contents e → IsCollisionOf contents e
collision_refused contents (fault.Refused refused) is = (is.0, is.1, first_kept_collision contents ∙ is.2, is.3)
collision_refused contents fault.Memory is = tt
