-- The files of contents as they grow, and what a pull leaves alone.
use Rattle.std.proofs.Common.{◌≡◌, ◌≢◌, ◌⊎◌, inl, inr, ℕ, zero, suc, ◌<◌, ◌≤◌, ◌^◌, Bool, true, false, ◌||◌, not, IsTrue, List, [], ◌∷◌, ◌++◌, length, map, slice_get, Option, Some, None, Result, Ok, Err, IsErrAnd, is_some, refl, sym, ap, ◌∙◌, subst, arith, length-append}
use Rattle.std.specs.FinMap.{get}
use Rattle.std.specs.Fmt.{decimal}
use Rattle.std.specs.List.{list_any, list_all}
use Rattle.std.proofs.lemmas.Bool.{and_parts, cases_Bool, cases_eq, cases_lt}
use Rattle.std.proofs.lemmas.Fmt.{decimal_injective}
use Rattle.std.proofs.lemmas.List.{length-map}
use Rattle.std.proofs.lemmas.Option.{slice_get_past}
use Rattle.journal_log.specs.cny-base.Below.{is_below}
use Rattle.journal_log.specs.cny-base.Path.{is_path, is_slash, parent, root}
use Rattle.journal_log.specs.cny-base.declared.node.Node.{Node}
use Rattle.journal_log.specs.cny-base.declared.node.Node.TheVariants.{Dir, File, Link}
use Rattle.journal_log.specs.cny-base.declared.stop.Stop.{Stop}
use Rattle.journal_log.specs.cny-base.declared.stop.Stop.TheVariants as stops
use Rattle.journal_log.specs.tree-disk.Tree.{Name, Tree, same_name, put, is_dir, is_file}
use Rattle.journal_log.specs.tree-disk.Laws.{same_means}
use Rattle.journal_log.specs.tree-disk.Rows.{grown, is_dir_at, is_empty_at, is_file_at, with_append}
use Rattle.journal_log.specs.tree-disk.Disk.{DiskModel, IsDisk}
use Rattle.journal_log.specs.tree-disk.Confined.{Among}
use Rattle.journal_log.specs.tree-disk.Steps.{Makes}
use Rattle.journal_log.proofs.cny-base.Bools.{both, or_right}
use Rattle.journal_log.proofs.cny-base.FileNames.{is_low, low_no_slash}
use Rattle.journal_log.proofs.FileNames.{digits_low}
use Rattle.journal_log.proofs.tree-disk.ClearLaws.{join_below}
use Rattle.journal_log.proofs.tree-disk.ConfinedLaws.{confined_start, confined_then, confined_wider}
use Rattle.journal_log.proofs.tree-disk.Laws.{get_put_here, get_put_other}
use Rattle.journal_log.proofs.tree-disk.Moments.{rose_before}
use Rattle.journal_log.proofs.tree-disk.Names.{below_longer, parent_join, same_last}
use Rattle.change_set.specs.declared.change.Carried.{Carried}
use Rattle.change_pull.specs.declared.halt.Halt.{Halt}
use Rattle.change_pull.specs.declared.halt.Halt.TheVariants as halts
use Rattle.change_pull.specs.Files.{HoldsFiles, HasRoomFrom, file_with, files_of, number_path}
use Rattle.change_pull.specs.Gathered.{written_bytes}
use Rattle.change_pull.specs.Halts.{halted_of}
use Rattle.change_pull.specs.Writes.{HasCause, HasHaltCause, Keeps, Writes}

-- ---- names

no_slashes : (cs : List ℕ) → list_all is_low cs ≡ true → list_any is_slash cs ≡ false
no_slashes [] low = refl
no_slashes (c ∷ cs) low =
    let both = and_parts (is_low c) (list_all is_low cs) low in
    ap (λ (b : Bool). b || list_any is_slash cs) (low_no_slash c both.0) ∙ no_slashes cs both.1

pub parent_is : (dir : Name) (number : ℕ) → is_path dir ≡ true → number < 2 ^ 32 → parent (number_path dir number) ≡ dir
parent_is dir number path fits = parent_join dir (decimal number) path (no_slashes (decimal number) (digits_low number (omega (arith, fits))))

pub number_below : (dir : Name) (number : ℕ) → is_path dir ≡ true → dir ≢ root → is_below dir (number_path dir number) ≡ true
number_below dir number path other = join_below dir (decimal number) path other

not_dir : (dir : Name) (number : ℕ) → is_path dir ≡ true → dir ≢ root → same_name dir (number_path dir number) ≡ false
not_dir dir number path other = elim (cases_Bool (same_name dir (number_path dir number))) [
  | inl same ↦ let longer = below_longer dir (number_path dir number) (number_below dir number path other) in absurd (omega (arith, longer, ap length (same_means dir (number_path dir number) same)))
  | inr differs ↦ differs
]

-- files of two numbers have two names
apart : (dir : Name) (a b : ℕ) → a < 2 ^ 64 → b < 2 ^ 64 → a ≢ b → same_name (number_path dir a) (number_path dir b) ≡ false
apart dir a b fa fb other = elim (cases_Bool (same_name (number_path dir a) (number_path dir b))) [
  | inl same ↦ absurd (other (decimal_injective a b fa fb (same_last dir (decimal a) (decimal b) (same_means (number_path dir a) (number_path dir b) same))))
  | inr differs ↦ differs
]

other_test : (p q : Name) → p ≢ q → same_name p q ≡ false
other_test p q other = elim (cases_Bool (same_name p q)) [ inl same ↦ absurd (other (same_means p q same)) | inr differs ↦ differs ]

-- ---- room

grown_file : (o : Option Node) (more : List ℕ) → is_file (Some (grown o more)) ≡ true
grown_file None more = refl
grown_file (Some (Dir mode)) more = refl
grown_file (Some (File mode bytes)) more = refl
grown_file (Some (Link target)) more = refl

pub room_after : (tree : Tree) (dir : Name) (number this : ℕ) (bytes : List ℕ) → is_path dir ≡ true → dir ≢ root → HasRoomFrom tree dir number → HasRoomFrom (with_append tree (number_path dir this) bytes) dir number
room_after tree dir number this bytes path other room =
    let p : Name = number_path dir this in
    let o : Option Node = Some (grown (get tree p) bytes) in
    let stands : is_dir_at (put tree p o) dir ≡ true = ap is_dir (get_put_other tree p o dir (not_dir dir this path other)) ∙ room.stands in
    record {
      stands = stands;
      free = λ later from small.
          let q : Name = number_path dir later in
          let old = and_parts (is_dir_at tree (parent q)) (is_empty_at tree q || is_file_at tree q) (room.free later from small) in
          both (is_dir_at (put tree p o) (parent q)) (is_empty_at (put tree p o) q || is_file_at (put tree p o) q) (ap (is_dir_at (put tree p o)) (parent_is dir later path small) ∙ stands)
          (elim (cases_Bool (same_name q p)) [
            | inl same ↦
                let here : get (put tree p o) q ≡ o = ap (get (put tree p o)) (same_means q p same) ∙ get_put_here tree p o in
                or_right (is_empty_at (put tree p o) q) (is_file_at (put tree p o) q) (ap is_file here ∙ grown_file (get tree p) bytes)
            | inr differs ↦ let here = get_put_other tree p o q differs in ap (λ (n : Option Node). not (is_some n) || is_file n) here ∙ old.1
          ]);
    }

pub room_later : (tree : Tree) (dir : Name) (number later : ℕ) → number ≤ later → HasRoomFrom tree dir number → HasRoomFrom tree dir later
room_later tree dir number later le room = record { stands = room.stands; free = λ n from small. room.free n (omega (arith, le, from)) small }

-- ---- files

slice_front : {X : Type 0} (xs ys : List X) (k : ℕ) → k < length xs → slice_get (xs ++ ys) k ≡ slice_get xs k
slice_front [] ys k low = absurd (omega arith)
slice_front (x ∷ xs) ys zero low = refl
slice_front (x ∷ xs) ys (suc k) low = slice_front xs ys k (omega arith)

slice_seam : {X : Type 0} (xs : List X) (y : X) (k : ℕ) → k ≡ length xs → slice_get (xs ++ y ∷ []) k ≡ Some y
slice_seam [] y zero is = refl
slice_seam [] y (suc k) is = absurd (omega (arith, is))
slice_seam (x ∷ xs) y zero is = absurd (omega (arith, is))
slice_seam (x ∷ xs) y (suc k) is = slice_seam xs y k (omega (arith, is))

abbrev all_bytes : List Carried → List (List ℕ)
all_bytes contents = map (λ (c : Carried). c.bytes) contents

-- the file that grows
file_grown : (contents : List Carried) (written : Option (List ℕ)) (more : List ℕ) (number : ℕ) (o : Option Node) → number ≡ length contents → o ≡ file_with (slice_get (files_of contents written) number)
    → Some (grown o more) ≡ file_with (slice_get (files_of contents (Some (written_bytes written ++ more))) number)
file_grown contents None more number o is there =
    let none = slice_get_past (all_bytes contents) number (omega (arith, is, length-map contents (λ (c : Carried). c.bytes))) in
    ap (λ (n : Option Node). Some (grown n more)) (there ∙ ap file_with none)
    ∙ ap file_with (sym (slice_seam (all_bytes contents) more number (is ∙ sym (length-map contents (λ (c : Carried). c.bytes)))))
file_grown contents (Some w) more number o is there =
    let long = is ∙ sym (length-map contents (λ (c : Carried). c.bytes)) in
    ap (λ (n : Option Node). Some (grown n more)) (there ∙ ap file_with (slice_seam (all_bytes contents) w number long))
    ∙ ap file_with (sym (slice_seam (all_bytes contents) (w ++ more) number long))

-- the other files
file_other : (contents : List Carried) (written : Option (List ℕ)) (bytes : List ℕ) (number k : ℕ) → number ≡ length contents → k ≢ number → slice_get (files_of contents written) k ≡ slice_get (files_of contents (Some bytes)) k
file_other contents written bytes number k is other = by (cases_lt k (length contents)) written
  where
    long : length (all_bytes contents) ≡ length contents
    long = length-map contents (λ (c : Carried). c.bytes)

    by : (k < length contents) ⊎ (length contents ≤ k) → (written : Option (List ℕ)) → slice_get (files_of contents written) k ≡ slice_get (files_of contents (Some bytes)) k
    by (inl low) None = sym (slice_front (all_bytes contents) (bytes ∷ []) k (omega (arith, low, long)))
    by (inl low) (Some w) = slice_front (all_bytes contents) (w ∷ []) k (omega (arith, low, long)) ∙ sym (slice_front (all_bytes contents) (bytes ∷ []) k (omega (arith, low, long)))
    by (inr high) None = slice_get_past (all_bytes contents) k (omega (arith, high, long)) ∙ sym (slice_get_past (all_bytes contents ++ bytes ∷ []) k (omega (arith, high, long, is, other, length-append (all_bytes contents) (bytes ∷ []))))
    by (inr high) (Some w) = slice_get_past (all_bytes contents ++ w ∷ []) k (omega (arith, high, long, is, other, length-append (all_bytes contents) (w ∷ []))) ∙ sym (slice_get_past (all_bytes contents ++ bytes ∷ []) k (omega (arith, high, long, is, other, length-append (all_bytes contents) (bytes ∷ []))))

pub files_after : (tree : Tree) (dir : Name) (contents : List Carried) (written : Option (List ℕ)) (more : List ℕ) (number : ℕ) → number ≡ length contents → number < 2 ^ 32 → HoldsFiles tree dir (files_of contents written)
    → HoldsFiles (with_append tree (number_path dir number) more) dir (files_of contents (Some (written_bytes written ++ more)))
files_after tree dir contents written more number is small holds =
    let p : Name = number_path dir number in
    let o : Option Node = Some (grown (get tree p) more) in
    record {
      each = λ k fits. elim (cases_eq k number) [
        | inl e ↦
            ap (λ (n : ℕ). get (put tree p o) (number_path dir n)) e ∙ get_put_here tree p o
            ∙ file_grown contents written more number (get tree p) is (holds.each number (omega (arith, small)))
            ∙ ap (λ (n : ℕ). file_with (slice_get (files_of contents (Some (written_bytes written ++ more))) n)) (sym e)
        | inr other ↦
            get_put_other tree p o (number_path dir k) (apart dir k number fits (omega (arith, small)) other) ∙ holds.each k fits
            ∙ ap file_with (file_other contents written (written_bytes written ++ more) number k is other)
      ];
      others = λ q low named. get_put_other tree p o q (other_test q p (named number (omega (arith, small)))) ∙ holds.others q low named;
    }

-- ---- what is kept

cause_earlier : {X : Type 0} (r : Result X Halt) (a b c : ℕ) → a ≤ b → HasCause b c r → HasCause a c r
cause_earlier (Ok x) a b c le cause = tt
cause_earlier (Err halts.Failed) a b c le cause = rose_before a b c le cause
cause_earlier (Err halts.Memory) a b c le cause = tt
cause_earlier (Err (halts.Malformed at)) a b c le cause = tt
cause_earlier (Err (halts.TooLarge size)) a b c le cause = tt

module _ {D : Type 0} {disk : DiskModel D} where
  pub written_as : {names : Name → Bool} {change : Tree → Tree} {old new : D} (r : Result (Unit {0}) Stop) → Makes disk names change old new r → Writes disk names change old new (halted_of r)
  written_as (Ok u) made = record { keeps = record { later = made.later; cause = tt; confined = made.confined }; done = made.ended }
  written_as (Err stops.Failed) made = record { keeps = record { later = made.later; cause = made.ended; confined = made.confined }; done = tt }
  written_as (Err stops.Memory) made = record { keeps = record { later = made.later; cause = tt; confined = made.confined }; done = tt }
  written_as (Err (stops.Refused refusal)) made = absurd made.ended
  written_as (Err (stops.Damaged path)) made = absurd made.ended
  written_as (Err stops.FarFailed) made = absurd made.ended
  written_as (Err (stops.FarDamaged path)) made = absurd made.ended

  pub keeps_wider : {X : Type 0} {few many : Name → Bool} {old new : D} {r : Result X Halt} → ((p : Name) → IsTrue (few p) → IsTrue (many p)) → Keeps disk few old new r → Keeps disk many old new r
  keeps_wider within kept = record { later = kept.later; cause = kept.cause; confined = λ tells. confined_wider within (kept.confined tells) }

  -- one after another
  pub keeps_then : {X Y : Type 0} {names : Name → Bool} {old mid new : D} {x : X} {r : Result Y Halt} → Keeps disk names old mid (Ok x) → Keeps disk names mid new r → Keeps disk names old new r
  keeps_then {old = old} {mid = mid} {new = new} {r = r} first then = record {
    later = omega (arith, first.later, then.later);
    cause = cause_earlier r (disk.faults old) (disk.faults mid) (disk.faults new) first.later then.cause;
    confined = λ tells. confined_then (first.confined tells) (then.confined tells);
  }

  -- an answer without another call, which is no fault
  pub keeps_answer : {X Y : Type 0} {names : Name → Bool} {old new : D} {x : X} {r : Result Y Halt} → Keeps disk names old new (Ok x) → HasCause (disk.faults old) (disk.faults new) r → Keeps disk names old new r
  keeps_answer kept cause = record { later = kept.later; cause = cause; confined = kept.confined }

  -- a stop that is handed on
  pub keeps_stop : {X Y : Type 0} {names : Name → Bool} {old new : D} {halt : Halt} {r : Result Y Halt} → Keeps {X = X} disk names old new (Err halt) → IsErrAnd r (λ e. e ≡ halt) → Keeps disk names old new r
  keeps_stop {X = X} {names = names} {old = old} {new = new} {halt = halt} {r = Ok y} kept is = absurd is
  keeps_stop {X = X} {Y = Y} {names = names} {old = old} {new = new} {halt = halt} {r = Err e} kept is = record {
    later = kept.later;
    cause = subst (HasHaltCause (disk.faults old) (disk.faults new)) (sym is) kept.cause;
    confined = kept.confined;
  }

  module _ (laws : IsDisk disk) where
    pub keeps_start : {X : Type 0} (names : Name → Bool) (d : D) (x : X) → Keeps disk names d d (Ok x)
    keeps_start names d x = record { later = omega arith; cause = tt; confined = λ tells. confined_start laws (Among names) d }

    -- want of memory before the first call
    pub keeps_memory : {Y : Type 0} {r : Result Y Halt} (names : Name → Bool) (d : D) → IsErrAnd r (λ e. e ≡ halts.Memory) → Keeps disk names d d r
    keeps_memory {Y = Y} {r = r} names d is = keeps_stop {X = Unit {0}} (record { later = omega arith; cause = tt; confined = λ tells. confined_start laws (Among names) d }) is

    keeps_no_call : {Y : Type 0} {r : Result Y Halt} (names : Name → Bool) (d : D) → HasCause (disk.faults d) (disk.faults d) r → Keeps disk names d d r
    keeps_no_call names d cause = keeps_answer (keeps_start names d (tt {0})) cause
