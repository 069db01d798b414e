-- What is read is spelled so.
use Rattle.std.specs.Prelude.{◌≡◌, ℕ, zero, Bool, true, false, cond, ◌==◌, List, [], ◌∷◌, ◌++◌, map, take, drop, codes, Option, Some, None, refl}
use Rattle.std.proofs.Common.{suc, sym, ◌∙◌, ap, subst, append_assoc}
use Rattle.std.proofs.lemmas.List.{append-nil, take-append-drop}
use Rattle.std.proofs.lemmas.Option.{same_Some}
use Rattle.std.specs.List.{flat_map}
use Rattle.std.specs.Option.{option_map, option_and_then}
use Rattle.cny_dep.specs.declared.parts.FlavorFlag.{FlavorFlag}
use Rattle.cny_dep.specs.declared.parts.InstructionSet.{InstructionSet}
use Rattle.cny_dep.specs.declared.parts.Parts.{Parts}
use Rattle.cny_dep.specs.declared.parts.Sense.{Sense}
use Rattle.cny_dep.specs.Canonical.{sense_text, flag_text}
use Rattle.cny_dep.specs.FlavorOrder.{in_order}
use Rattle.cny_dep.specs.Spelling.{SpacedFlag, SpacedSet, Spelling, spaces, comma_and_flag, spelled_flags, spelled_own_flags, spelled_set, space_and_set, spelled_sets, spelled_sets_part, spelling_text, flags_of, set_of, sets_of, value_of}
use Rattle.cny_dep.specs.FlavorReading.{after_byte, skip_spaces, word_len, sense_after_tilde, sense_without_tilde, sense_from, sense_at, flag_from, flag_at, with_front, flags_from, flags_at, in_order_of, ordered_flags_at, closed, own_flags_from, own_flags_at, with_word, set_at, with_first_set, sets_from, sets_at, after_is, ordered_sets, sets_part_at, with_flags, sets_after_from, sets_after_at, parts_from, parts_at}
use Rattle.cny_base.proofs.Below.{test_equal as is_byte}

-- ---- bytes and spaces

begins_here : (wanted b : ℕ) (bs rest : List ℕ) (v : Bool) → (b == wanted) ≡ v → cond v (Some bs) None ≡ Some rest → b ∷ bs ≡ wanted ∷ rest
begins_here wanted b bs rest true is found = ap (λ n. n ∷ bs) (is_byte b wanted is) ∙ ap (λ l. wanted ∷ l) (same_Some bs rest found)
begins_here wanted b bs rest false is found = absurd (cc found)

begins : (wanted : ℕ) (bytes rest : List ℕ) → after_byte wanted bytes ≡ Some rest → bytes ≡ wanted ∷ rest
begins wanted [] rest found = absurd (cc found)
begins wanted (b ∷ bs) rest found = begins_here wanted b bs rest (b == wanted) refl found

record Skipped (bytes rest : List ℕ) : Type 0 where
  count : ℕ
  text : bytes ≡ spaces count ++ rest

skipped_here : (b : ℕ) (bs : List ℕ) (v : Bool) → (b == 32) ≡ v → Skipped bs (skip_spaces bs) → Skipped (b ∷ bs) (cond v (skip_spaces bs) (b ∷ bs))
skipped_here b bs true is more = record { count = suc more.count; text = ap (λ n. n ∷ bs) (is_byte b 32 is) ∙ ap (λ l. 32 ∷ l) more.text }
skipped_here b bs false is more = record { count = 0; text = refl }

skipped : (bytes : List ℕ) → Skipped bytes (skip_spaces bytes)
skipped [] = record { count = 0; text = refl }
skipped (b ∷ bs) = skipped_here b bs (b == 32) refl (skipped bs)

-- ---- flags

tilde_sensed : (bytes rest : List ℕ) (next : Option (List ℕ)) → bytes ≡ 126 ∷ rest → after_byte 33 rest ≡ next
    → bytes ≡ sense_text (sense_after_tilde rest next).0 ++ (sense_after_tilde rest next).1
tilde_sensed bytes rest None is next = is
tilde_sensed bytes rest (Some more) is next = is ∙ ap (λ l. 126 ∷ l) (begins 33 rest more next)

no_tilde_sensed : (bytes : List ℕ) (next : Option (List ℕ)) → after_byte 33 bytes ≡ next → bytes ≡ sense_text (sense_without_tilde bytes next).0 ++ (sense_without_tilde bytes next).1
no_tilde_sensed bytes None next = refl
no_tilde_sensed bytes (Some rest) next = begins 33 bytes rest next

sensed_from : (bytes : List ℕ) (next : Option (List ℕ)) → after_byte 126 bytes ≡ next → bytes ≡ sense_text (sense_from bytes next).0 ++ (sense_from bytes next).1
sensed_from bytes None next = no_tilde_sensed bytes (after_byte 33 bytes) refl
sensed_from bytes (Some rest) next = tilde_sensed bytes rest (after_byte 33 rest) (begins 126 bytes rest next) refl

flag_parts : (bytes : List ℕ) (s : Sense × List ℕ) → bytes ≡ sense_text s.0 ++ s.1 → bytes ≡ flag_text (flag_from s).0 ++ (flag_from s).1
flag_parts bytes s is =
    is ∙ ap (λ l. sense_text s.0 ++ l) (sym (take-append-drop (word_len s.1) s.1)) ∙ sym (append_assoc (sense_text s.0) (take (word_len s.1) s.1) (drop (word_len s.1) s.1))

flagged : (bytes : List ℕ) → bytes ≡ flag_text (flag_at bytes).0 ++ (flag_at bytes).1
unfolding flag_at
flagged bytes = flag_parts bytes (sense_at bytes) (sensed_from bytes (after_byte 126 bytes) refl)

record FoundFlags (flags : List FlavorFlag) (bytes rest : List ℕ) : Type 0 where
  first : FlavorFlag
  others : List SpacedFlag
  flags_are : flags ≡ first ∷ map (λ f. f.flag) others
  text : bytes ≡ spelled_flags (record { spaces = 0; flag = first } ∷ others) ++ rest

one_flag : (f : FlavorFlag) (bytes rest : List ℕ) → bytes ≡ flag_text f ++ rest → FoundFlags (f ∷ []) bytes rest
one_flag f bytes rest is = record { first = f; others = []; flags_are = refl; text = is ∙ ap (λ l. l ++ rest) (sym (append-nil (flag_text f))) }

regroup : (a s t r rest : List ℕ) → a ++ (44 ∷ (s ++ ((t ++ r) ++ rest))) ≡ (a ++ ((44 ∷ s ++ t) ++ r)) ++ rest
regroup a s t r rest = simp append_assoc

more_flags : (f : FlavorFlag) (fs : List FlavorFlag) (bytes after more : List ℕ) (rest : List ℕ) → bytes ≡ flag_text f ++ after → after ≡ 44 ∷ more → FoundFlags fs (skip_spaces more) rest
    → FoundFlags (f ∷ fs) bytes rest
more_flags f fs bytes after more rest is comma found =
    let gap = skipped more in
    let next : SpacedFlag = record { spaces = gap.count; flag = found.first } in
    record {
      first = f;
      others = next ∷ found.others;
      flags_are = ap (λ l. f ∷ l) found.flags_are;
      text = is ∙ ap (λ l. flag_text f ++ l) (comma ∙ ap (λ l. 44 ∷ l) (gap.text ∙ ap (λ l. spaces gap.count ++ l) found.text))
          ∙ regroup (flag_text f) (spaces gap.count) (flag_text found.first) (flat_map comma_and_flag found.others) rest;
    }

flags_front : (f : FlavorFlag × List ℕ) (more bytes : List ℕ) (read : Option (List FlavorFlag × List ℕ)) (r : List FlavorFlag × List ℕ) → bytes ≡ flag_text f.0 ++ f.1 → f.1 ≡ 44 ∷ more
    → with_front (f.0 ∷ []) read ≡ Some r → ((q : List FlavorFlag × List ℕ) → read ≡ Some q → FoundFlags q.0 (skip_spaces more) q.1) → FoundFlags r.0 bytes r.1
flags_front f more bytes None r is comma whole found = absurd (cc whole)
flags_front f more bytes (Some q) r is comma whole found =
    let end : (f.0 ∷ q.0, q.1) ≡ r = same_Some (f.0 ∷ q.0, q.1) r whole in
    subst (λ (x : List FlavorFlag × List ℕ). FoundFlags x.0 bytes x.1) end (more_flags f.0 q.0 bytes f.1 more q.1 is comma (found q refl))

flags_step : (n : ℕ) (bytes : List ℕ) (f : FlavorFlag × List ℕ) (next : Option (List ℕ)) (r : List FlavorFlag × List ℕ) → bytes ≡ flag_text f.0 ++ f.1 → after_byte 44 f.1 ≡ next
    → flags_from f (option_map (λ rest. flags_at n (skip_spaces rest)) next) ≡ Some r
    → ((more : List ℕ) (q : List FlavorFlag × List ℕ) → flags_at n (skip_spaces more) ≡ Some q → FoundFlags q.0 (skip_spaces more) q.1)
    → FoundFlags r.0 bytes r.1
flags_step n bytes f None r is next whole found =
    let end : (f.0 ∷ [], f.1) ≡ r = same_Some (f.0 ∷ [], f.1) r whole in
    subst (λ (x : List FlavorFlag × List ℕ). FoundFlags x.0 bytes x.1) end (one_flag f.0 bytes f.1 is)
flags_step n bytes f (Some more) r is next whole found =
    flags_front f more bytes (flags_at n (skip_spaces more)) r is (begins 44 f.1 more next) whole (found more)

flags_found : (n : ℕ) (bytes : List ℕ) (r : List FlavorFlag × List ℕ) → flags_at n bytes ≡ Some r → FoundFlags r.0 bytes r.1
unfolding flags_at
flags_found zero bytes r whole = absurd (cc whole)
flags_found (suc n) bytes r whole = flags_step n bytes (flag_at bytes) (after_byte 44 (flag_at bytes).1) r (flagged bytes) refl whole (λ more q. flags_found n (skip_spaces more) q)

-- flags in order, by those that are written
record OrderedFlags (flags : List FlavorFlag) (bytes rest : List ℕ) : Type 0 where
  first : SpacedFlag
  others : List SpacedFlag
  flags_are : flags ≡ flags_of (first ∷ others)
  text : bytes ≡ spelled_flags (first ∷ others) ++ rest

ordered_from : (bytes : List ℕ) (read : Option (List FlavorFlag × List ℕ)) (r : List FlavorFlag × List ℕ) → flags_at 64 bytes ≡ read → in_order_of read ≡ Some r → OrderedFlags r.0 bytes r.1
ordered_from bytes None r is whole = absurd (cc whole)
ordered_from bytes (Some q) r is whole =
    let found = flags_found 64 bytes q is in
    let end : (in_order (λ f. f.word) q.0, q.1) ≡ r = same_Some (in_order (λ f. f.word) q.0, q.1) r whole in
    let first : SpacedFlag = record { spaces = 0; flag = found.first } in
    subst (λ (x : List FlavorFlag × List ℕ). OrderedFlags x.0 bytes x.1) end
    (record { first = first; others = found.others; flags_are = ap (in_order (λ f. f.word)) found.flags_are; text = found.text })

ordered_found : (bytes : List ℕ) (r : List FlavorFlag × List ℕ) → ordered_flags_at bytes ≡ Some r → OrderedFlags r.0 bytes r.1
unfolding ordered_flags_at
ordered_found bytes r whole = ordered_from bytes (flags_at 64 bytes) r refl whole

-- ---- sets

record OwnFlags (flags : List FlavorFlag) (bytes rest : List ℕ) : Type 0 where
  written : List SpacedFlag
  flags_are : flags ≡ flags_of written
  text : bytes ≡ spelled_own_flags written ++ rest

regroup_own : (t rest : List ℕ) → 40 ∷ (t ++ (41 ∷ rest)) ≡ (40 ∷ t ++ 41 ∷ []) ++ rest
regroup_own t rest = simp append_assoc

closed_found : (bytes inner : List ℕ) (q : List FlavorFlag × List ℕ) (next : Option (List ℕ)) (r : List FlavorFlag × List ℕ) → bytes ≡ 40 ∷ inner → OrderedFlags q.0 inner q.1 → after_byte 41 q.1 ≡ next
    → option_map (λ rest. (q.0, rest)) next ≡ Some r → OwnFlags r.0 bytes r.1
closed_found bytes inner q None r opens found next whole = absurd (cc whole)
closed_found bytes inner q (Some rest) r opens found next whole =
    let end : (q.0, rest) ≡ r = same_Some (q.0, rest) r whole in
    subst (λ (x : List FlavorFlag × List ℕ). OwnFlags x.0 bytes x.1) end (record {
      written = found.first ∷ found.others;
      flags_are = found.flags_are;
      text = opens ∙ ap (λ l. 40 ∷ l) (found.text ∙ ap (λ l. spelled_flags (found.first ∷ found.others) ++ l) (begins 41 q.1 rest next))
          ∙ regroup_own (spelled_flags (found.first ∷ found.others)) rest;
    })

own_inner : (bytes inner : List ℕ) (read : Option (List FlavorFlag × List ℕ)) (r : List FlavorFlag × List ℕ) → bytes ≡ 40 ∷ inner → ordered_flags_at inner ≡ read
    → option_and_then closed read ≡ Some r → OwnFlags r.0 bytes r.1
own_inner bytes inner None r opens is whole = absurd (cc whole)
own_inner bytes inner (Some q) r opens is whole = closed_found bytes inner q (after_byte 41 q.1) r opens (ordered_found inner q is) refl whole

own_from : (bytes : List ℕ) (next : Option (List ℕ)) (r : List FlavorFlag × List ℕ) → after_byte 40 bytes ≡ next → own_flags_from bytes next ≡ Some r → OwnFlags r.0 bytes r.1
own_from bytes None r next whole =
    let end : ◌≡◌ {A = List FlavorFlag × List ℕ} ([], bytes) r = same_Some ([], bytes) r whole in
    subst (λ (x : List FlavorFlag × List ℕ). OwnFlags x.0 bytes x.1) end (record { written = []; flags_are = refl; text = refl })
own_from bytes (Some inner) r next whole = own_inner bytes inner (ordered_flags_at inner) r (begins 40 bytes inner next) refl whole

record FoundSet (set : InstructionSet) (bytes rest : List ℕ) : Type 0 where
  written : SpacedSet
  set_is : set ≡ set_of written
  text : bytes ≡ spelled_set written ++ rest

set_found_from : (word after bytes : List ℕ) (read : Option (List FlavorFlag × List ℕ)) (r : InstructionSet × List ℕ) → bytes ≡ word ++ after → own_flags_at after ≡ read → with_word word read ≡ Some r
    → FoundSet r.0 bytes r.1
set_found_from word after bytes None r is own whole = absurd (cc whole)
set_found_from word after bytes (Some q) r is own whole =
    let found = own_from after (after_byte 40 after) q refl own in
    let set : InstructionSet = record { word = word; flags = q.0 } in
    let end : (set, q.1) ≡ r = same_Some (set, q.1) r whole in
    let written : SpacedSet = record { spaces = 0; word = word; flags = found.written } in
    subst (λ (x : InstructionSet × List ℕ). FoundSet x.0 bytes x.1) end (record {
      written = written;
      set_is = named word q.0 (flags_of found.written) found.flags_are;
      text = is ∙ ap (λ l. word ++ l) found.text ∙ sym (append_assoc word (spelled_own_flags found.written) q.1);
    })
  where
    named : (w : List ℕ) (fs gs : List FlavorFlag) → fs ≡ gs → ◌≡◌ {A = InstructionSet} (record { word = w; flags = fs }) (record { word = w; flags = gs })
    named w fs gs e = ap (λ (l : List FlavorFlag). let s : InstructionSet = record { word = w; flags = l } in s) e

set_found : (bytes : List ℕ) (r : InstructionSet × List ℕ) → set_at bytes ≡ Some r → FoundSet r.0 bytes r.1
unfolding set_at
set_found bytes r whole =
    set_found_from (take (word_len bytes) bytes) (drop (word_len bytes) bytes) bytes (own_flags_at (drop (word_len bytes) bytes)) r (sym (take-append-drop (word_len bytes) bytes)) refl whole

record FoundSets (sets : List InstructionSet) (bytes : List ℕ) : Type 0 where
  first : SpacedSet
  others : List SpacedSet
  sets_are : sets ≡ map set_of (first ∷ others)
  text : bytes ≡ spelled_sets (first ∷ others)

one_set : (s : InstructionSet) (bytes : List ℕ) → FoundSet s bytes [] → FoundSets (s ∷ []) bytes
one_set s bytes found = record { first = found.written; others = []; sets_are = ap (λ x. x ∷ []) found.set_is; text = found.text }

-- how many spaces stand before a set
spaced : ℕ → SpacedSet → SpacedSet
spaced n s = record { spaces = n; word = s.word; flags = s.flags }

regroup_sets : (a s t r : List ℕ) → a ++ (32 ∷ (s ++ (t ++ r))) ≡ a ++ ((32 ∷ s ++ t) ++ r)
regroup_sets a s t r = simp append_assoc

more_sets : (s : InstructionSet) (ss : List InstructionSet) (bytes after more : List ℕ) → FoundSet s bytes after → after ≡ 32 ∷ more → FoundSets ss (skip_spaces more) → FoundSets (s ∷ ss) bytes
unfolding spaced
more_sets s ss bytes after more set space found =
    let gap = skipped more in
    record {
      first = set.written;
      others = spaced gap.count found.first ∷ found.others;
      sets_are = ap (λ x. x ∷ ss) set.set_is ∙ ap (λ l. set_of set.written ∷ l) found.sets_are;
      text = set.text ∙ ap (λ l. spelled_set set.written ++ l) (space ∙ ap (λ l. 32 ∷ l) (gap.text ∙ ap (λ l. spaces gap.count ++ l) found.text))
          ∙ regroup_sets (spelled_set set.written) (spaces gap.count) (spelled_set found.first) (flat_map space_and_set found.others);
    }

sets_front : (s : InstructionSet) (bytes after more : List ℕ) (read : Option (List InstructionSet)) (ss : List InstructionSet) → FoundSet s bytes after → after ≡ 32 ∷ more
    → with_first_set s read ≡ Some ss → ((q : List InstructionSet) → read ≡ Some q → FoundSets q (skip_spaces more)) → FoundSets ss bytes
sets_front s bytes after more None ss set space whole found = absurd (cc whole)
sets_front s bytes after more (Some q) ss set space whole found =
    subst (λ (x : List InstructionSet). FoundSets x bytes) (same_Some (s ∷ q) ss whole) (more_sets s q bytes after more set space (found q refl))

sets_step : (n : ℕ) (bytes : List ℕ) (s : InstructionSet) (after : List ℕ) (next : Option (List ℕ)) (ss : List InstructionSet) → FoundSet s bytes after → after_byte 32 after ≡ next
    → sets_from s after (option_map (λ rest. sets_at n (skip_spaces rest)) next) ≡ Some ss
    → ((more : List ℕ) (q : List InstructionSet) → sets_at n (skip_spaces more) ≡ Some q → FoundSets q (skip_spaces more))
    → FoundSets ss bytes
sets_step n bytes s [] next ss set is whole found = subst (λ (x : List InstructionSet). FoundSets x bytes) (same_Some (s ∷ []) ss whole) (one_set s bytes set)
sets_step n bytes s (b ∷ after) None ss set is whole found = absurd (cc whole)
sets_step n bytes s (b ∷ after) (Some more) ss set is whole found =
    sets_front s bytes (b ∷ after) more (sets_at n (skip_spaces more)) ss set (begins 32 (b ∷ after) more is) whole (found more)

sets_open : (n : ℕ) (bytes : List ℕ) (read : Option (InstructionSet × List ℕ)) (ss : List InstructionSet) → set_at bytes ≡ read
    → option_and_then (λ r. sets_from r.0 r.1 (option_map (λ rest. sets_at n (skip_spaces rest)) (after_byte 32 r.1))) read ≡ Some ss
    → ((more : List ℕ) (q : List InstructionSet) → sets_at n (skip_spaces more) ≡ Some q → FoundSets q (skip_spaces more))
    → FoundSets ss bytes
sets_open n bytes None ss is whole found = absurd (cc whole)
sets_open n bytes (Some r) ss is whole found = sets_step n bytes r.0 r.1 (after_byte 32 r.1) ss (set_found bytes r is) refl whole found

sets_found : (n : ℕ) (bytes : List ℕ) (ss : List InstructionSet) → sets_at n bytes ≡ Some ss → FoundSets ss bytes
unfolding sets_at
sets_found zero bytes ss whole = absurd (cc whole)
sets_found (suc n) bytes ss whole = sets_open n bytes (set_at bytes) ss refl whole (λ more q. sets_found n (skip_spaces more) q)

-- ---- flavors

is_begins_b : (bytes rest : List ℕ) (s i : Option (List ℕ)) → after_byte 105 bytes ≡ i → option_and_then (after_byte 115) i ≡ s → option_and_then (after_byte 58) s ≡ Some rest → bytes ≡ codes "is:" ++ rest
is_begins_b bytes rest None i first second third = absurd (cc third)
is_begins_b bytes rest (Some s) None first second third = absurd (cc second)
is_begins_b bytes rest (Some s) (Some i) first second third =
    begins 105 bytes i first ∙ ap (λ l. 105 ∷ l) (begins 115 i s second ∙ ap (λ l. 115 ∷ l) (begins 58 s rest third))

is_begins : (bytes rest : List ℕ) → after_is bytes ≡ Some rest → bytes ≡ codes "is:" ++ rest
is_begins bytes rest found = is_begins_b bytes rest (option_and_then (after_byte 115) (after_byte 105 bytes)) (after_byte 105 bytes) refl refl found

record FoundSetsPart (sets : List InstructionSet) (bytes : List ℕ) : Type 0 where
  after : ℕ
  first : SpacedSet
  others : List SpacedSet
  sets_are : sets ≡ sets_of (first ∷ others)
  text : bytes ≡ codes "is:" ++ (spaces after ++ spelled_sets (first ∷ others))

part_inner : (bytes rest : List ℕ) (read : Option (List InstructionSet)) (ss : List InstructionSet) → bytes ≡ codes "is:" ++ rest → sets_at 64 (skip_spaces rest) ≡ read → ordered_sets read ≡ Some ss
    → FoundSetsPart ss bytes
part_inner bytes rest None ss is read whole = absurd (cc whole)
part_inner bytes rest (Some q) ss is read whole =
    let gap = skipped rest in
    let found = sets_found 64 (skip_spaces rest) q read in
    record {
      after = gap.count;
      first = found.first;
      others = found.others;
      sets_are = sym (same_Some (in_order (λ s. s.word) q) ss whole) ∙ ap (in_order (λ s. s.word)) found.sets_are;
      text = is ∙ ap (λ l. codes "is:" ++ l) (gap.text ∙ ap (λ l. spaces gap.count ++ l) found.text);
    }

part_from : (bytes : List ℕ) (next : Option (List ℕ)) (ss : List InstructionSet) → after_is bytes ≡ next → option_and_then (λ rest. ordered_sets (sets_at 64 (skip_spaces rest))) next ≡ Some ss
    → FoundSetsPart ss bytes
part_from bytes None ss is whole = absurd (cc whole)
part_from bytes (Some rest) ss is whole = part_inner bytes rest (sets_at 64 (skip_spaces rest)) ss (is_begins bytes rest is) refl whole

part_found : (bytes : List ℕ) (ss : List InstructionSet) → sets_part_at bytes ≡ Some ss → FoundSetsPart ss bytes
unfolding sets_part_at
part_found bytes ss whole = part_from bytes (after_is bytes) ss refl whole

-- what stands after flags
record FoundAfter (sets : List InstructionSet) (bytes : List ℕ) : Type 0 where
  before : ℕ
  after : ℕ
  written : List SpacedSet
  sets_are : sets ≡ sets_of written
  text : (f : SpacedFlag) (fs : List SpacedFlag) → bytes ≡ spelled_sets_part (f ∷ fs) before after written

after_from : (bytes : List ℕ) (next : Option (List ℕ)) (ss : List InstructionSet) → after_byte 32 bytes ≡ next → sets_after_from bytes next ≡ Some ss → FoundAfter ss bytes
after_from [] next ss is whole = record { before = 0; after = 0; written = []; sets_are = sym (same_Some [] ss whole); text = λ f fs. refl }
after_from (b ∷ bs) None ss is whole = absurd (cc whole)
after_from (b ∷ bs) (Some rest) ss is whole =
    let gap = skipped rest in
    let found = part_found (skip_spaces rest) ss whole in
    record {
      before = gap.count;
      after = found.after;
      written = found.first ∷ found.others;
      sets_are = found.sets_are;
      text = λ f fs. begins 32 (b ∷ bs) rest is ∙ ap (λ l. 32 ∷ l) (gap.text ∙ ap (λ l. spaces gap.count ++ l) found.text);
    }

after_found : (bytes : List ℕ) (ss : List InstructionSet) → sets_after_at bytes ≡ Some ss → FoundAfter ss bytes
unfolding sets_after_at
after_found bytes ss whole = after_from bytes (after_byte 32 bytes) ss refl whole

pub record FoundParts (parts : Parts) (bytes : List ℕ) : Type 0 where
  pub written : Spelling
  pub parts_are : parts ≡ value_of written
  pub text : bytes ≡ spelling_text written

pub parts_of : List FlavorFlag → List InstructionSet → Parts
parts_of fs ss = record { flags = fs; sets = ss }

same_parts : (fs gs : List FlavorFlag) (ss ts : List InstructionSet) → fs ≡ gs → ss ≡ ts → parts_of fs ss ≡ parts_of gs ts
same_parts fs gs ss ts f s = ap (λ l. parts_of l ss) f ∙ ap (parts_of gs) s

with_both : (bytes after : List ℕ) (fs : List FlavorFlag) (read : Option (List InstructionSet)) (parts : Parts) → OrderedFlags fs bytes after → sets_after_at after ≡ read → with_flags fs read ≡ Some parts
    → FoundParts parts bytes
unfolding parts_of same_parts
with_both bytes after fs None parts flags is whole = absurd (cc whole)
with_both bytes after fs (Some ss) parts flags is whole =
    let found = after_found after ss is in
    let all = flags.first ∷ flags.others in
    let end : parts_of fs ss ≡ parts = same_Some (parts_of fs ss) parts whole in
    record {
      written = record { flags = all; before = found.before; after = found.after; sets = found.written };
      parts_are = sym end ∙ same_parts fs (flags_of all) ss (sets_of found.written) flags.flags_are found.sets_are;
      text = flags.text ∙ ap (λ l. spelled_flags all ++ l) (found.text flags.first flags.others);
    }

flags_first : (bytes : List ℕ) (read : Option (List FlavorFlag × List ℕ)) (parts : Parts) → ordered_flags_at bytes ≡ read
    → option_and_then (λ r. with_flags r.0 (sets_after_at r.1)) read ≡ Some parts → FoundParts parts bytes
flags_first bytes None parts is whole = absurd (cc whole)
flags_first bytes (Some r) parts is whole = with_both bytes r.1 r.0 (sets_after_at r.1) parts (ordered_found bytes r is) refl whole

sets_alone : (bytes : List ℕ) (read : Option (List InstructionSet)) (parts : Parts) → sets_part_at bytes ≡ read → with_flags [] read ≡ Some parts → FoundParts parts bytes
unfolding parts_of same_parts
sets_alone bytes None parts is whole = absurd (cc whole)
sets_alone bytes (Some ss) parts is whole =
    let found = part_found bytes ss is in
    let end : parts_of [] ss ≡ parts = same_Some (parts_of [] ss) parts whole in
    let all = found.first ∷ found.others in
    record {
      written = record { flags = []; before = 0; after = found.after; sets = all };
      parts_are = sym end ∙ same_parts [] [] ss (sets_of all) refl found.sets_are;
      text = found.text;
    }

pub parts_found_from : (bytes : List ℕ) (next : Option (List ℕ)) (parts : Parts) → parts_from bytes next ≡ Some parts → FoundParts parts bytes
parts_found_from bytes None parts whole = flags_first bytes (ordered_flags_at bytes) parts refl whole
parts_found_from bytes (Some rest) parts whole = sets_alone bytes (sets_part_at bytes) parts refl whole

pub parts_found : (bytes : List ℕ) (parts : Parts) → parts_at bytes ≡ Some parts → FoundParts parts bytes
unfolding parts_at parts_of
parts_found [] parts whole =
    let end : parts_of [] [] ≡ parts = same_Some (parts_of [] []) parts whole in
    record { written = record { flags = []; before = 0; after = 0; sets = [] }; parts_are = sym end; text = refl }
parts_found (b ∷ bs) parts whole = parts_found_from (b ∷ bs) (after_is (b ∷ bs)) parts whole
