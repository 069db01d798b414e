-- The names below the private directory, told apart by the byte behind its slash.
use Rattle.std.proofs.Common.{◌≡◌, ◌≢◌, ◌⊎◌, inl, inr, ⊎_elim, ℕ, ◌+◌, ◌<◌, ◌≤◌, ◌^◌, Bool, true, false, ◌||◌, not, List, [], ◌∷◌, ◌++◌, drop, get_or, codes, refl, sym, ◌∙◌, ap, subst, arith, IsTrue}
use Rattle.std.specs.Prelude.{◌==◌, ◌%◌}
use Rattle.std.proofs.lemmas.Bool.{cases_Bool}
use Rattle.std.proofs.lemmas.Bool.Decides.{nat_tests}
use Rattle.std.proofs.lemmas.Fmt.{decimal_by_steps, decimal_is_IsNumeral}
use Rattle.std.specs.Fmt as fmt
use Rattle.std.specs.Str.Parse.{digits_value}
use Rattle.std.specs.Str.{bytes_eq}
use Rattle.hex.specs.Hex.{encode_lower}
use Rattle.trove_stream.specs.cny-base.Path.{is_slash, has_slash, or_root, parent}
use Rattle.trove_stream.specs.cny-base.Below.{is_below}
use Rattle.trove_stream.proofs.cny-base.Below.{below_rest, rest_below, before_join}
use Rattle.trove_stream.specs.cny-base.Reserved.{private_directory, is_reserved}
use Rattle.std.specs.FinMap.{get}
use Rattle.tree_journal.specs.journal-log.declared.put.Put.{Put}
use Rattle.local_db.specs.Steps.{IsOwnWrite}
use Rattle.tree_journal.specs.tree-disk.Tree.{Name, Tree, same_name, is_dir, may_stand}
use Rattle.tree_journal.specs.journal-log.Targets.{node_of}
use Rattle.tree_journal.specs.tree-disk.Laws.{same_means}
use Rattle.tree_journal.proofs.tree-disk.Laws.{same_itself}
use Rattle.tree_journal.specs.tree-disk.Clear.{is_within}
use Rattle.tree_journal.proofs.tree-disk.ClearLaws.{or_cases, below_trans}
use Rattle.tree_journal.specs.journal-log.Own.{gate, log, work, staged, is_own}
use Rattle.local_db.specs.SystemState.{StackItem, SystemState, newest, oldest, AreNumbered}
use Rattle.local_db.specs.Names.{database, record_file, saved, is_job_name, is_job_name_of, is_job_place, counts}
use Rattle.content_store.specs.Store.{content_path}
use Rattle.trove_stream.proofs.cny-base.Bools.{first_false as first_no, or_left, or_right, second_false as rest_no}
use Rattle.tree_scan.proofs.tree-disk.ClearLaws.{itself_within as same_within}

-- ---- the byte behind the slash

letter : Name → ℕ
letter q = get_or (drop 18 q) 0 0

within_rest : (p q : Name) → is_within p q ≡ true → (rest : Name) × (q ≡ p ++ rest) × ((rest ≡ []) ⊎ ((r : Name) × (rest ≡ 47 ∷ r)))
within_rest p q h = ⊎_elim
    (λ same. ([], same_means q p same ∙ sym (nil p), inl refl))
    (λ low. let r = below_rest p q low in (47 ∷ r.0, r.1, inr (r.0, refl)))
    (or_cases (same_name q p) (is_below p q) h)
  where
    nil : (l : Name) → l ++ [] ≡ l
    nil [] = refl
    nil (a ∷ l) = ap (λ m. a ∷ m) (nil l)

within_letter : (c : ℕ) (more q : Name) → is_within (private_directory ++ 47 ∷ c ∷ more) q ≡ true → letter q ≡ c
unfolding letter
within_letter c more q h = let r = within_rest (private_directory ++ 47 ∷ c ∷ more) q h in ap letter r.1

pub below_reserved : (q : Name) → is_below private_directory q ≡ true → is_reserved q ≡ true
below_reserved q low = or_right (bytes_eq q private_directory) (is_below private_directory q) low

pub within_reserved : (last q : Name) → is_within (private_directory ++ 47 ∷ last) q ≡ true → is_reserved q ≡ true
within_reserved last q h = below_reserved q (⊎_elim
    (λ same. ap (is_below private_directory) (same_means q (private_directory ++ 47 ∷ last) same) ∙ rest_below private_directory last)
    (λ low. below_trans private_directory (private_directory ++ 47 ∷ last) q (rest_below private_directory last) low)
    (or_cases (same_name q (private_directory ++ 47 ∷ last)) (is_below (private_directory ++ 47 ∷ last) q) h))

-- ---- the names of jobs

job_letter : (n : ℕ) (q : Name) → is_job_name n q ≡ true → (letter q ≡ 114) ⊎ (letter q ≡ 115)
job_letter n q h = ⊎_elim
    (λ same. inl (within_letter 114 (46 ∷ fmt.decimal n) q (same_within (record_file n) q same)))
    (λ within. inr (within_letter 115 (46 ∷ fmt.decimal n) q within))
    (or_cases (same_name q (record_file n)) (is_within (saved n) q) h)

pub job_reserved : (n : ℕ) (q : Name) → is_job_name n q ≡ true → is_reserved q ≡ true
job_reserved n q h = ⊎_elim
    (λ same. within_reserved (114 ∷ 46 ∷ fmt.decimal n) q (same_within (record_file n) q same))
    (λ within. within_reserved (115 ∷ 46 ∷ fmt.decimal n) q within)
    (or_cases (same_name q (record_file n)) (is_within (saved n) q) h)

pub database_reserved : is_reserved database ≡ true
database_reserved = within_reserved (codes "db") database (same_within database database (same_itself database))

pub record_reserved : (n : ℕ) → is_reserved (record_file n) ≡ true
record_reserved n = job_reserved n (record_file n) (or_left _ _ (same_itself (record_file n)))

pub record_is_job : (n : ℕ) → is_job_name n (record_file n) ≡ true
record_is_job n = or_left _ _ (same_itself (record_file n))

pub content_is_job : (n : ℕ) (name : List ℕ) → is_job_name n (content_path (saved n) name) ≡ true
content_is_job n name = or_right (same_name (content_path (saved n) name) (record_file n)) _ (or_right (same_name (content_path (saved n) name) (saved n)) _ (rest_below (saved n) (encode_lower name)))

database_letter : letter database ≡ 100
unfolding letter
database_letter = refl

pub job_not_database : (n : ℕ) (q : Name) → is_job_name n q ≡ true → same_name q database ≡ false
job_not_database n q h = ⊎_elim
    (λ same. let l : letter q ≡ 100 = ap letter (same_means q database same) ∙ database_letter in
    absurd (⊎_elim (λ a. omega (arith, a, l)) (λ b. omega (arith, b, l)) (job_letter n q h)))
    (λ other. other) (cases_Bool (same_name q database))

-- the saved of a job isn't its record, nor that of another
pub content_not_record : (n m : ℕ) (name : List ℕ) → same_name (content_path (saved n) name) (record_file m) ≡ false
content_not_record n m name = ⊎_elim
    (λ same. absurd (omega (
      arith,
      within_letter 115 (46 ∷ fmt.decimal n) (content_path (saved n) name) (or_right (same_name (content_path (saved n) name) (saved n)) _ (rest_below (saved n) (encode_lower name))),
      within_letter 114 (46 ∷ fmt.decimal m) (content_path (saved n) name) (same_within (record_file m) (content_path (saved n) name) same),
    )))
    (λ other. other) (cases_Bool (same_name (content_path (saved n) name) (record_file m)))

-- ---- numbers

no_slash : (n : ℕ) → n < 2 ^ 64 → has_slash (fmt.decimal n) ≡ false
no_slash n fits = decimal_by_steps (λ n ds. has_slash ds ≡ false)
    (λ n lt. digit n lt)
    (λ n ds le ih. push ds (48 + n % 10) ih (digit_mod n))
    n fits
  where
    one_digit : (d : ℕ) → d < 10 → (48 + d == 47) ≡ false
    one_digit d lt = grind (arith, nat_tests)

    digit : (d : ℕ) → d < 10 → has_slash ((48 + d) ∷ []) ≡ false
    digit d lt = ap (λ b. b || false) (one_digit d lt)

    digit_mod : (n : ℕ) → (48 + n % 10 == 47) ≡ false
    digit_mod n = grind (arith, nat_tests)

    push : (ds : List ℕ) (c : ℕ) → has_slash ds ≡ false → (c == 47) ≡ false → has_slash (ds ++ c ∷ []) ≡ false
    push [] c none other = ap (λ b. b || false) other
    push (d ∷ ds) c none other = both (is_slash d) (has_slash ds) (has_slash (ds ++ c ∷ [])) none (λ h. push ds c h other)
      where
        both : (a b r : Bool) → (a || b) ≡ false → (b ≡ false → r ≡ false) → (a || r) ≡ false
        both true b r h g = absurd (cc h)
        both false b r h g = g h

same_decimal : (m n : ℕ) → m < 2 ^ 64 → n < 2 ^ 64 → fmt.decimal m ≡ fmt.decimal n → m ≡ n
same_decimal m n a b e = sym (decimal_is_IsNumeral m a).1 ∙ ap (digits_value 10) e ∙ (decimal_is_IsNumeral n b).1

-- two lists without a slash, each with nothing behind it or something that begins with a slash
Tail : List ℕ → Type 0
Tail t = (t ≡ []) ⊎ ((r : Name) × (t ≡ 47 ∷ r))

no_tail : (x : ℕ) (xs t : List ℕ) → is_slash x ≡ false → Tail t → t ≡ x ∷ xs → ⊥
unfolding Tail
no_tail x xs t other tail e = ⊎_elim (λ none. absurd (cc (none, e))) (λ some. let here : 47 ≡ x = cc (some.1, e) in absurd (cc (other, ap is_slash here))) tail

same_front : (a b t u : List ℕ) → has_slash a ≡ false → has_slash b ≡ false → Tail t → Tail u → a ++ t ≡ b ++ u → a ≡ b
same_front [] [] t u p q s v e = refl
same_front [] (y ∷ b) t u p q s v e = absurd (no_tail y (b ++ u) t (first_no (is_slash y) (has_slash b) q) s e)
same_front (x ∷ a) [] t u p q s v e = absurd (no_tail x (a ++ t) u (first_no (is_slash x) (has_slash a) p) v (sym e))
same_front (x ∷ a) (y ∷ b) t u p q s v e =
    let heads : x ≡ y = cc e in
    let tails : a ++ t ≡ b ++ u = cc e in
    let more = same_front a b t u (rest_no (is_slash x) (has_slash a) p) (rest_no (is_slash y) (has_slash b) q) s v tails in
    ap (λ (n : ℕ). n ∷ a) heads ∙ ap (λ (l : List ℕ). y ∷ l) more

same_places : (c : ℕ) (m n : ℕ) (q : Name) → m < 2 ^ 64 → n < 2 ^ 64 → is_within (private_directory ++ 47 ∷ c ∷ 46 ∷ fmt.decimal m) q ≡ true
    → is_within (private_directory ++ 47 ∷ c ∷ 46 ∷ fmt.decimal n) q ≡ true → m ≡ n
unfolding Tail
same_places c m n q m64 n64 h g =
    let a = within_rest (private_directory ++ 47 ∷ c ∷ 46 ∷ fmt.decimal m) q h in
    let b = within_rest (private_directory ++ 47 ∷ c ∷ 46 ∷ fmt.decimal n) q g in
    same_decimal m n m64 n64 (same_front (fmt.decimal m) (fmt.decimal n) a.0 b.0 (no_slash m m64) (no_slash n n64) a.2 b.2 (ap (drop 20) (sym a.1 ∙ b.1)))

-- a name is at the places of one job at most
pub one_job : (m n : ℕ) (q : Name) → m < 2 ^ 32 → n < 2 ^ 32 → is_job_place m q ≡ true → is_job_place n q ≡ true → m ≡ n
one_job m n q m_fits n_fits h g =
    ⊎_elim
    (λ rm. ⊎_elim
    (λ rn. same_places 114 m n q m64 n64 rm rn)
    (λ sn. absurd (omega (arith, within_letter 114 (46 ∷ fmt.decimal m) q rm, within_letter 115 (46 ∷ fmt.decimal n) q sn)))
    (or_cases (is_within (record_file n) q) (is_within (saved n) q) g))
    (λ sm. ⊎_elim
    (λ rn. absurd (omega (arith, within_letter 114 (46 ∷ fmt.decimal n) q rn, within_letter 115 (46 ∷ fmt.decimal m) q sm)))
    (λ sn. same_places 115 m n q m64 n64 sm sn)
    (or_cases (is_within (record_file n) q) (is_within (saved n) q) g))
    (or_cases (is_within (record_file m) q) (is_within (saved m) q) h)
  where
    m64 : m < 2 ^ 64
    m64 = omega (arith, m_fits)

    n64 : n < 2 ^ 64
    n64 = omega (arith, n_fits)

pub job_place : (n : ℕ) (q : Name) → is_job_name n q ≡ true → is_job_place n q ≡ true
job_place n q h = ⊎_elim
    (λ same. or_left _ _ (same_within (record_file n) q same))
    (λ within. or_right (is_within (record_file n) q) _ within)
    (or_cases (same_name q (record_file n)) (is_within (saved n) q) h)

pub place_reserved : (n : ℕ) (q : Name) → is_job_place n q ≡ true → is_reserved q ≡ true
place_reserved n q h = ⊎_elim
    (λ a. within_reserved (114 ∷ 46 ∷ fmt.decimal n) q a)
    (λ b. within_reserved (115 ∷ 46 ∷ fmt.decimal n) q b)
    (or_cases (is_within (record_file n) q) (is_within (saved n) q) h)

pub place_not_database : (n : ℕ) (q : Name) → is_job_place n q ≡ true → same_name q database ≡ false
place_not_database n q h = ⊎_elim
    (λ same. let l : letter q ≡ 100 = ap letter (same_means q database same) ∙ database_letter in
    absurd (⊎_elim
    (λ a. omega (arith, within_letter 114 (46 ∷ fmt.decimal n) q a, l))
    (λ b. omega (arith, within_letter 115 (46 ∷ fmt.decimal n) q b, l))
    (or_cases (is_within (record_file n) q) (is_within (saved n) q) h)))
    (λ other. other) (cases_Bool (same_name q database))

-- ---- the journal's own names

own_letter : (q : Name) → is_own private_directory q ≡ true → (letter q < 114) × (letter q ≢ 100) × (is_reserved q ≡ true) ⊎ (letter q ≡ 119) × (is_reserved q ≡ true)
unfolding letter
own_letter q h = ⊎_elim
    (λ base. let l : letter q ≡ 0 = ap letter (same_means q private_directory base) in
    inl (omega (arith, l), (λ e. omega (arith, l, e)), ap is_reserved (same_means q private_directory base)))
    (λ file. ⊎_elim
    (λ w. low 103 (codes "ate") q (omega arith) (λ e. omega (arith, e)) w)
    (λ more. ⊎_elim
    (λ w. low 108 (codes "og") q (omega arith) (λ e. omega (arith, e)) w)
    (λ rest. ⊎_elim
    (λ w. inr (within_letter 119 [] q w, within_reserved (119 ∷ []) q w))
    (λ w. low 112 [] q (omega arith) (λ e. omega (arith, e)) w)
    (or_cases (is_within (work private_directory) q) (is_within (staged private_directory) q) rest))
    (or_cases (is_within (log private_directory) q) _ more))
    (or_cases (is_within (gate private_directory) q) _ file))
    (or_cases (same_name q private_directory) _ h)
  where
    low : (c : ℕ) (more q : Name) → c < 114 → c ≢ 100 → is_within (private_directory ++ 47 ∷ c ∷ more) q ≡ true
        → (letter q < 114) × (letter q ≢ 100) × (is_reserved q ≡ true) ⊎ (letter q ≡ 119) × (is_reserved q ≡ true)
    low c more q lt other w = let l = within_letter c more q w in
        inl (subst (λ (n : ℕ). n < 114) (sym l) lt, (λ e. other (sym l ∙ e)), within_reserved (c ∷ more) q w)

own_not_job : (n : ℕ) (q : Name) → is_own private_directory q ≡ true → is_job_name n q ≡ true → ⊥
own_not_job n q own job = ⊎_elim
    (λ a. ⊎_elim (λ r. omega (arith, a.0, r)) (λ s. omega (arith, a.0, s)) (job_letter n q job))
    (λ b. ⊎_elim (λ r. omega (arith, b.0, r)) (λ s. omega (arith, b.0, s)) (job_letter n q job))
    (own_letter q own)

own_no_jobs : (olds : List StackItem) (q : Name) → is_own private_directory q ≡ true → is_job_name_of olds q ≡ true → ⊥
own_no_jobs [] q own h = absurd (cc h)
own_no_jobs (o ∷ olds) q own h = ⊎_elim (own_not_job o.number q own) (own_no_jobs olds q own) (or_cases (is_job_name o.number q) (is_job_name_of olds q) h)

pub own_reserved : (q : Name) → is_own private_directory q ≡ true → is_reserved q ≡ true
own_reserved q own = ⊎_elim (λ a. a.2) (λ b. b.1) (own_letter q own)

-- ---- the writes below the private directory

parent_is : (last : Name) → has_slash last ≡ false → parent (private_directory ++ 47 ∷ last) ≡ private_directory
parent_is last plain = ap or_root (before_join private_directory last false plain)

record_plain : (n : ℕ) → n < 2 ^ 64 → has_slash (114 ∷ 46 ∷ fmt.decimal n) ≡ false
record_plain n fits = no_slash n fits

pub record_write : (x : Tree) (n : ℕ) (p : Put) → n < 2 ^ 32 → p.path ≡ record_file n → is_dir (get x (record_file n)) ≡ false → IsTrue (may_stand (node_of p.want)) → IsOwnWrite x p
record_write x n p fits is no_dir node = record {
  parent_is = ap parent is ∙ parent_is (114 ∷ 46 ∷ fmt.decimal n) (record_plain n (omega (arith, fits)));
  reserved = ap is_reserved is ∙ record_reserved n;
  no_dir = ap (λ (q : Name). is_dir (get x q)) is ∙ no_dir;
  not_own = ap (is_own private_directory) is ∙ ⊎_elim
      (λ own. absurd (own_not_job n (record_file n) own (record_is_job n)))
      (λ out. out)
      (cases_Bool (is_own private_directory (record_file n)));
  node = node;
}

pub database_write : (x : Tree) (p : Put) → p.path ≡ database → is_dir (get x database) ≡ false → IsTrue (may_stand (node_of p.want)) → IsOwnWrite x p
database_write x p is no_dir node = record {
  parent_is = ap parent is ∙ parent_is (codes "db") refl;
  reserved = ap is_reserved is ∙ database_reserved;
  no_dir = ap (λ (q : Name). is_dir (get x q)) is ∙ no_dir;
  not_own = ap (is_own private_directory) is ∙ ⊎_elim
      (λ own. absurd (⊎_elim (λ a. a.1 database_letter) (λ b. omega (arith, b.0, database_letter)) (own_letter database own)))
      (λ out. out)
      (cases_Bool (is_own private_directory database));
  node = node;
}

-- none of them counts for a system
pub own_doesnt_count : (s : SystemState) (q : Name) → counts s q ≡ true → is_own private_directory q ≡ false
own_doesnt_count s q h = ⊎_elim (λ own. absurd (never own)) (λ other. other) (cases_Bool (is_own private_directory q))
  where
    reserved : is_own private_directory q ≡ true → is_reserved q ≡ true
    reserved own = ⊎_elim (λ a. a.2) (λ b. b.1) (own_letter q own)

    not_database : is_own private_directory q ≡ true → same_name q database ≡ true → ⊥
    not_database own same = let l : letter q ≡ 100 = ap letter (same_means q database same) ∙ database_letter in
        ⊎_elim (λ a. a.1 l) (λ b. omega (arith, b.0, l)) (own_letter q own)

    never : is_own private_directory q ≡ true → ⊥
    never own = ⊎_elim
        (λ outer. absurd (cc (outer, ap not (reserved own))))
        (λ in'. ⊎_elim (not_database own) (own_no_jobs s.stack q own) (or_cases (same_name q database) (is_job_name_of s.stack q) in'))
        (or_cases (not (is_reserved q)) _ h)

-- ---- the names of a stack

pub record JobOf (olds : List StackItem) (q : Name) : Type 0 where
  pub number : ℕ
  pub high : number ≤ newest olds
  pub low : oldest olds ≤ number
  pub name : is_job_name number q ≡ true

pub oldest_low : (o : StackItem) (olds : List StackItem) → AreNumbered (o ∷ olds) → oldest (o ∷ olds) ≤ o.number
oldest_low o [] numbered = omega arith
oldest_low o (p ∷ olds) numbered = omega (arith, oldest_low p olds numbered.1, numbered.0)

pub job_of : (olds : List StackItem) → AreNumbered olds → (q : Name) → is_job_name_of olds q ≡ true → JobOf olds q
job_of [] numbered q h = absurd (cc h)
job_of (o ∷ []) numbered q h = record { number = o.number; high = omega arith; low = omega arith; name = ⊎_elim (λ a. a) (λ b. absurd (cc b)) (or_cases (is_job_name o.number q) false h) }
job_of (o ∷ p ∷ olds) numbered q h = ⊎_elim
    (λ a. record { number = o.number; high = omega arith; low = oldest_low o (p ∷ olds) numbered; name = a })
    (λ b. let rest = job_of (p ∷ olds) numbered.1 q b in
    let high = rest.high in
    record { number = rest.number; high = omega (arith, numbered.0, high); low = rest.low; name = rest.name })
    (or_cases (is_job_name o.number q) (is_job_name_of (p ∷ olds) q) h)

-- the places of a number that isn't on the stack don't count
pub place_doesnt_count : (s : SystemState) (n : ℕ) → AreNumbered s.stack → newest s.stack < 2 ^ 32 → n < 2 ^ 32 → (newest s.stack < n) ⊎ (n < oldest s.stack)
    → (q : Name) → is_job_place n q ≡ true → counts s q ≡ false
place_doesnt_count s n numbered fits n_fits apart q place = ⊎_elim (λ h. absurd (never h)) (λ h. h) (cases_Bool (counts s q))
  where
    of_stack : is_job_name_of s.stack q ≡ true → ⊥
    of_stack job =
        let j = job_of s.stack numbered q job in
        let high = j.high in
        let low = j.low in
        let is : j.number ≡ n = one_job j.number n q (omega (arith, high, fits)) n_fits (job_place j.number q j.name) place in
        ⊎_elim (λ a. omega (arith, a, high, is)) (λ b. omega (arith, b, low, is)) apart

    never : counts s q ≡ true → ⊥
    never h = ⊎_elim
        (λ outer. absurd (cc (outer, ap not (place_reserved n q place))))
        (λ in'. ⊎_elim (λ same. absurd (cc (same, place_not_database n q place))) of_stack (or_cases (same_name q database) (is_job_name_of s.stack q) in'))
        (or_cases (not (is_reserved q)) _ h)
