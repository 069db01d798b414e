-- Owners and how records name them.
use Rattle.std.proofs.Common.{◌≡◌, ℕ, ◌≤◌, Bool, true, false, cond, List, ◌++◌, length, nat_le, Some, None, refl, sym, ap, ◌∙◌, subst, arith}
use Rattle.std.specs.Cmp.{first_so, second_so}
use Rattle.std.specs.Prelude.{option_and_then}
use Rattle.std.specs.Str.{bytes_eq, IsUtf8}
use Rattle.std.proofs.lemmas.Bool.{false≢true}
use Rattle.std.proofs.lemmas.List.{append_assoc}
use Rattle.std.proofs.lemmas.Option.{option_and_then_some}
use Rattle.std.proofs.lemmas.Str.{IsUtf8-from_ascii}
use Rattle.cny_base.specs.Name.{is_word}
use Rattle.cny_base.specs.StrField.{FitsStr, str}
use Rattle.cny_base.proofs.Utf8Laws.{word_ascii}
use Rattle.cny_stream.specs.declared.encoding.Encoding.{Encoding}
use Rattle.cny_stream.specs.declared.encoding.Encoding.TheVariants.{Compact, Explicit}
use Rattle.cny_stream.specs.Owner.{OwnerNames, is_owner_word, is_owner, root, root_owner, is_root}
use Rattle.cny_stream.specs.Record.{names_owner, owner_bytes}
use Rattle.cny_stream.specs.Reading.{str_front, checked_owner, owner_from, owner_at, same}
use Rattle.cny_stream.proofs.Fields.{IsFront, guarded, front_taken, front_again}
use Rattle.cny_base.proofs.StrFields.{IsBytes}
use Rattle.cny_base.proofs.Counts.{at_most}
use Rattle.cny_base.proofs.ByteLists.{bytes_mean as equal_texts}
use Rattle.cny_base.proofs.Bools.{not_false as negated}

-- ---- tests

pub same_itself : (b : Bool) → same b b ≡ true
same_itself true = refl
same_itself false = refl

pub same_told : (a b : Bool) → same a b ≡ true → a ≡ b
same_told true true e = refl
same_told true false e = absurd (false≢true e)
same_told false true e = absurd (false≢true e)
same_told false false e = refl

-- ---- words

pub word_fits : (word : List ℕ) → is_owner_word word ≡ true → FitsStr word
word_fits word is = let short : length word ≤ 32 = at_most (length word) 32 (first_so (nat_le (length word) 32) (is_word word) is) in omega arith

pub word_utf8 : (word : List ℕ) → is_owner_word word ≡ true → IsUtf8 word
word_utf8 word is = IsUtf8-from_ascii word (word_ascii word (second_so (nat_le (length word) 32) (is_word word) is))

-- what isn't UTF-8 is no word
pub not_word : (word : List ℕ) (v : Bool) → is_owner_word word ≡ v → (IsUtf8 word → ⊥) → is_owner_word word ≡ false
not_word word true is never = absurd (never (word_utf8 word is))
not_word word false is never = is

-- ---- owners that were read

-- an owner by its rules, and bytes behind its own
pub record IsOwnerFront (named : Bool) (bytes : List ℕ) (owner : OwnerNames) (rest : List ℕ) : Type 0 where
  pub valid : is_owner owner ≡ true
  pub spelled : bytes ≡ owner_bytes named owner ++ rest
  pub behind : IsBytes rest

abbrev pub Found : Type 0
Found = OwnerNames × List ℕ

checked_taken : (bytes user between group behind : List ℕ) (owner : OwnerNames) (rest : List ℕ) → IsFront bytes user between → IsFront between group behind
    → checked_owner (record { user = user; group = group }) behind ≡ Some (owner, rest) → IsOwnerFront true bytes owner rest
checked_taken bytes user between group behind owner rest first second e =
    let made : OwnerNames = record { user = user; group = group } in
    let found = guarded (is_owner made) (made, behind) (owner, rest) e in
    let is_made : made ≡ owner = ap (λ (p : Found). p.0) found.1 in
    let is_rest : behind ≡ rest = ap (λ (p : Found). p.1) found.1 in
    record {
      valid = subst (λ (o : OwnerNames). is_owner o ≡ true) is_made found.0;
      spelled =
          first.spelled ∙ ap (λ l. str user ++ l) second.spelled ∙ sym (append_assoc (str user) (str group) behind)
          ∙ ap (λ (o : OwnerNames). owner_bytes true o ++ behind) is_made ∙ ap (λ l. owner_bytes true owner ++ l) is_rest;
      behind = subst IsBytes is_rest second.behind;
    }

pub group_taken : (bytes user between : List ℕ) (owner : OwnerNames) (rest : List ℕ) → IsFront bytes user between → owner_from (user, between) ≡ Some (owner, rest) → IsOwnerFront true bytes owner rest
group_taken bytes user between owner rest first e =
    option_and_then_some (λ (group : List ℕ × List ℕ). checked_owner (record { user = user; group = group.0 }) group.1) (str_front between) (owner, rest) e
    (λ group is made. checked_taken bytes user between group.0 group.1 owner rest first (front_taken between group.0 group.1 first.behind is) made)

pub owner_taken : (named : Bool) (bytes : List ℕ) (owner : OwnerNames) (rest : List ℕ) → IsBytes bytes → owner_at named bytes ≡ Some (owner, rest) → IsOwnerFront named bytes owner rest
owner_taken true bytes owner rest fits e =
    option_and_then_some owner_from (str_front bytes) (owner, rest) e
    (λ user is made. group_taken bytes user.0 user.1 owner rest (front_taken bytes user.0 user.1 fits is) made)
owner_taken false bytes owner rest fits e =
    let found = guarded true (root_owner, bytes) (owner, rest) e in
    let is_made : root_owner ≡ owner = ap (λ (p : Found). p.0) found.1 in
    let is_rest : bytes ≡ rest = ap (λ (p : Found). p.1) found.1 in
    record {
      valid = subst (λ (o : OwnerNames). is_owner o ≡ true) is_made refl;
      spelled = is_rest;
      behind = subst IsBytes is_rest fits;
    }

-- ---- owners that are read again

root_alone : (owner : OwnerNames) → is_root owner ≡ true → owner ≡ root_owner
root_alone owner is =
    let user = equal_texts owner.user root (first_so (bytes_eq owner.user root) (bytes_eq owner.group root) is) in
    let group = equal_texts owner.group root (second_so (bytes_eq owner.user root) (bytes_eq owner.group root) is) in
    λ i. record { user = user i; group = group i }

-- only root isn't named
pub unnamed : (encoding : Encoding) (owner : OwnerNames) → names_owner encoding owner ≡ false → owner ≡ root_owner
unnamed Compact owner is = root_alone owner (negated (is_root owner) is)
unnamed Explicit owner is = absurd (false≢true (sym is))

both_again : (owner : OwnerNames) (rest : List ℕ) → is_owner owner ≡ true → owner_at true (owner_bytes true owner ++ rest) ≡ Some (owner, rest)
both_again owner rest is =
    let user_fits = word_fits owner.user (first_so (is_owner_word owner.user) (is_owner_word owner.group) is) in
    let group_fits = word_fits owner.group (second_so (is_owner_word owner.user) (is_owner_word owner.group) is) in
    ap (λ l. option_and_then owner_from (str_front l)) (append_assoc (str owner.user) (str owner.group) rest)
    ∙ ap (option_and_then owner_from) (front_again owner.user (str owner.group ++ rest) user_fits)
    ∙ ap (option_and_then (λ (group : List ℕ × List ℕ). checked_owner (record { user = owner.user; group = group.0 }) group.1)) (front_again owner.group rest group_fits)
    ∙ ap (λ b. cond b (Some (owner, rest)) None) is

pub owner_again : (encoding : Encoding) (owner : OwnerNames) (rest : List ℕ) → is_owner owner ≡ true
    → owner_at (names_owner encoding owner) (owner_bytes (names_owner encoding owner) owner ++ rest) ≡ Some (owner, rest)
owner_again encoding owner rest is = by (names_owner encoding owner) refl
  where
    by : (named : Bool) → names_owner encoding owner ≡ named → owner_at named (owner_bytes named owner ++ rest) ≡ Some (owner, rest)
    by true named = both_again owner rest is
    by false named = ap (λ (o : OwnerNames). Some (o, rest)) (sym (unnamed encoding owner named))

-- ---- one owner begins the bytes

found_same : (a b : Found) → Some a ≡ Some b → a ≡ b
found_same a b e = (guarded true a b e).1

pub same_owner : (encoding encoding' : Encoding) (owner other : OwnerNames) (x y : List ℕ) → is_owner owner ≡ true → is_owner other ≡ true → names_owner encoding owner ≡ names_owner encoding' other
    → owner_bytes (names_owner encoding owner) owner ++ x ≡ owner_bytes (names_owner encoding' other) other ++ y → (owner ≡ other) × (x ≡ y)
same_owner encoding encoding' owner other x y is is' named e =
    let one = owner_again encoding owner x is in
    let two = owner_again encoding' other y is' in
    let both : (owner, x) ≡ (other, y) =
    found_same (owner, x) (other, y)
    (sym one ∙ ap (λ (b : Bool). owner_at b (owner_bytes (names_owner encoding owner) owner ++ x)) named ∙ ap (owner_at (names_owner encoding' other)) e ∙ two) in
    (ap (λ (p : Found). p.0) both, ap (λ (p : Found). p.1) both)
