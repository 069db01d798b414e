-- The last of the contents that stand in files.
use Rattle.std.proofs.Common.{◌≡◌, ◌==◌, ℕ, zero, suc, ◌+◌, ◌-◌, ◌<◌, ◌≤◌, Bool, false, nat_lt, IsTrue, List, [], ◌∷◌, length, slice_get, Option, Some, None, refl, sym, ap, ◌∙◌, arith}
use Rattle.std.specs.Cmp.Lexicographic.{slice_partial_cmp}
use Rattle.std.specs.Ordering.{nat_cmp, is_lt, is_some_and}
use Rattle.journal_log.specs.tree-disk.Tree.{Name}
use Rattle.change_set.specs.declared.change.Carried.{Carried}
use Rattle.std.proofs.lemmas.Bool.{lt-ltb, le-ltb}
use Rattle.std.proofs.lemmas.Option.{slice_get-get_or}
use Rattle.change_set.specs.cny-base.declared.limits.TheConstants.{PARTS_LIMIT}
use Rattle.change_set.specs.declared.change.Part.{Part}
use Rattle.change_set.specs.declared.change.ChangeSet.{ChangeSet}
use Rattle.change_set.specs.FirstFault.{ComesAfter, tags_after}
use Rattle.change_set.specs.Reading.{last_name}
use Rattle.change_set.proofs.ContentValue.{after_last}
use Rattle.change_pull.specs.declared.staged.Staged.{Staged}
use Rattle.change_pull.specs.Files.{number_path, staged_from, staged_of}
use Rattle.change_pull.specs.Front.{tags_behind_set}

-- the content of the last one
carried_last : (dir : Name) (number : ℕ) (contents : List Carried) (last : Staged) → Some last ≡ slice_get (staged_from dir number contents) (length (staged_from dir number contents) - 1)
    → (content : Carried) × (Some content ≡ slice_get contents (length contents - 1)) × (content.name ≡ last.name)
carried_last dir number [] last is = absurd (cc)
carried_last dir number (x ∷ []) last is = (x, refl, ap name_of (sym is))
  where
    name_of : Option Staged → List ℕ
    name_of None = []
    name_of (Some s) = s.name
carried_last dir number (x ∷ y ∷ contents) last is =
    let here : List Staged = staged_from dir number (x ∷ y ∷ contents) in
    let behind : List Staged = staged_from dir (number + 1) (y ∷ contents) in
    let place : length here - 1 ≡ suc (length behind - 1) = omega arith in
    let rest = carried_last dir (number + 1) (y ∷ contents) last (is ∙ ap (slice_get here) place) in
    let other : length (x ∷ y ∷ contents) - 1 ≡ suc (length (y ∷ contents) - 1) = omega arith in
    (rest.0, rest.1 ∙ sym (ap (slice_get (x ∷ y ∷ contents)) other), rest.2)

pub after_staged : (dir : Name) (contents : List Carried) (staged : List Staged) (last : Staged) (name : List ℕ) (answer : Bool) → staged ≡ staged_of dir contents → Some last ≡ slice_get staged (length staged - 1)
    → answer ≡ is_some_and is_lt (slice_partial_cmp (λ x y. Some (nat_cmp x y)) last.name name)
    → (IsTrue answer → ComesAfter (last_name contents) name) × (ComesAfter (last_name contents) name → IsTrue answer)
after_staged dir contents staged last name answer same is told =
    let found = carried_last dir 0 contents last (is ∙ ap (λ (l : List Staged). slice_get l (length l - 1)) same) in
    after_last contents found.0 name answer found.1 (told ∙ ap (λ (n : List ℕ). is_some_and is_lt (slice_partial_cmp (λ x y. Some (nat_cmp x y)) n name)) (sym found.2))

pub none_last : (dir : Name) (contents : List Carried) (staged : List Staged) → staged ≡ staged_of dir contents → None ≡ slice_get staged (length staged - 1) → last_name contents ≡ None
none_last dir [] staged same is = refl
none_last dir (x ∷ contents) staged same is =
    let one : Staged = record { name = x.name; size = length x.bytes; path = number_path dir 0 } in
    let some = slice_get-get_or staged (length staged - 1) one (omega (arith, ap length same)) in
    absurd (cc)

-- ---- the tags that may follow

pub tags_few : (dir : Name) (set : ChangeSet) (staged : List Staged) (parts : List Part) → staged ≡ staged_of dir set.contents → parts ≡ set.parts → length staged ≡ 0 → length parts < PARTS_LIMIT
    → 0x10 ∷ 0x11 ∷ 0x12 ∷ 0x1F ∷ [] ≡ tags_behind_set set
tags_few dir set staged parts same those none few =
    sym (ap (λ (l : Option (List ℕ)). tags_after false (nat_lt (length set.parts) PARTS_LIMIT) l) (no_last set.contents (sym (ap length same) ∙ none))
    ∙ ap (λ (b : Bool). tags_after false b None) (lt-ltb (length set.parts) PARTS_LIMIT (omega (arith, few, ap length those))))
  where
    no_last : (contents : List Carried) → length (staged_of dir contents) ≡ 0 → last_name contents ≡ None
    no_last [] is = refl
    no_last (x ∷ contents) is = absurd (omega (arith, is))

last_there : (dir : Name) (number : ℕ) (contents : List Carried) → 0 < length (staged_from dir number contents) → (name : List ℕ) × (last_name contents ≡ Some name)
last_there dir number [] some = absurd (omega arith)
last_there dir number (x ∷ []) some = (x.name, refl)
last_there dir number (x ∷ y ∷ contents) some = last_there dir (number + 1) (y ∷ contents) (omega arith)

after_some : (few : Bool) (last : Option (List ℕ)) (name : List ℕ) → last ≡ Some name → tags_after false few last ≡ 0x12 ∷ 0x1F ∷ []
after_some few None name is = absurd (cc)
after_some few (Some last) name is = refl

-- behind a content, or behind as many parts as there may be
pub tags_some : (dir : Name) (set : ChangeSet) (staged : List Staged) → staged ≡ staged_of dir set.contents → 0 < length staged → 0x12 ∷ 0x1F ∷ [] ≡ tags_behind_set set
tags_some dir set staged same some =
    let last = last_there dir 0 set.contents (omega (arith, some, ap length same)) in
    sym (after_some (nat_lt (length set.parts) PARTS_LIMIT) (last_name set.contents) last.0 last.1)

after_many : (last : Option (List ℕ)) → tags_after false false last ≡ 0x12 ∷ 0x1F ∷ []
after_many None = refl
after_many (Some last) = refl

pub tags_many : (set : ChangeSet) (parts : List Part) → parts ≡ set.parts → PARTS_LIMIT ≤ length parts → 0x12 ∷ 0x1F ∷ [] ≡ tags_behind_set set
tags_many set parts those many =
    sym (ap (λ (b : Bool). tags_after false b (last_name set.contents)) (le-ltb (length set.parts) PARTS_LIMIT (omega (arith, many, ap length those))) ∙ after_many (last_name set.contents))

pub not_zero : (n : ℕ) → (n == 0) ≡ false → 0 < n
not_zero zero is = absurd (cc)
not_zero (suc n) is = omega arith
