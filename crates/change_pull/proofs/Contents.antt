-- A content that comes next, as it was hashed and kept.
use Rattle.std.proofs.Common.{◌≡◌, ℕ, ◌-◌, Bool, true, false, not, IsTrue, List, ◌++◌, length, take, drop, Option, refl, sym, ap, ◌∙◌, arith}
use Rattle.std.specs.List.{list_any}
use Rattle.std.proofs.lemmas.List.{length-drop, take-append-drop}
use Rattle.std.specs.Str.{bytes_eq}
use Rattle.std.proofs.lemmas.Slice.Eq.{bytes_eq-Decides}
use Rattle.sha1.specs.Sha1.{sha1}
use Rattle.change_set.specs.declared.change.Part.{Part}
use Rattle.change_set.specs.declared.change.Carried.{Carried}
use Rattle.change_set.specs.ChangeSet.{has_record}
use Rattle.change_set.specs.FirstFault.{ComesAfter}
use Rattle.change_set.specs.Reading.{IsNextOf}

pub has_size : (value : List ℕ) (len size : ℕ) → len ≡ length value → size ≡ len - 20 → size ≡ length (drop 20 value)
has_size value len size long is = omega (arith, long, is, length-drop 20 value)

-- the content with this name and the bytes behind it
abbrev pub content_with : List ℕ → List ℕ → Carried
content_with name value = record { name = name; bytes = drop 20 value }

pub next_content : (parts : List Part) (last : Option (List ℕ)) (value name : List ℕ) → length name ≡ 20 → name ≡ take 20 value → name ≡ sha1 (drop 20 value)
    → IsTrue (list_any (has_record name (length (drop 20 value))) parts) → ComesAfter last name → IsNextOf parts last value (content_with name value)
next_content parts last value name twenty front hash recorded rises = record {
  spelled = sym (take-append-drop 20 value) ∙ ap (λ (l : List ℕ). l ++ drop 20 value) (sym front);
  is = record { hash = hash; twenty = twenty; recorded = recorded };
  rises = rises;
}

pub equal : (xs ys : List ℕ) (r : Bool) → r ≡ not (bytes_eq xs ys) → r ≡ false → xs ≡ ys
equal xs ys r is differ = (bytes_eq-Decides xs ys).0 (turned_back (bytes_eq xs ys) (sym is ∙ differ))
  where
    turned_back : (b : Bool) → not b ≡ false → b ≡ true
    turned_back true e = refl
    turned_back false e = absurd (cc)

pub turned : (b : Bool) → b ≡ false → b ≡ false
turned b e = e
