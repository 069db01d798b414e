-- What a tree holds, by the bytes of its database file.
use Rattle.std.proofs.Common.{◌≡◌, ⊎_elim, ℕ, ◌<◌, ◌≤◌, ◌^◌, Bool, true, false, cond, List, [], ◌∷◌, ◌++◌, length, get_or, Option, Some, None, Result, Ok, Err, All, IsTrue, refl, sym, ◌∙◌, ap, subst, arith, append_assoc, length-append}
use Rattle.std.specs.Prelude.{IfOk, IfErr, nat_le}
use Rattle.std.specs.Int.{w32, to_be_bytes}
use Rattle.std.proofs.lemmas.List.Elements.{All-nil, All-cons}
use Rattle.trove_stream.specs.cny-base.Below.{begins_with}
use Rattle.trove_stream.proofs.cny-base.Below.{begun}
use Rattle.trove_stream.specs.cny-base.declared.limits.TheConstants.{DATABASE_LIMIT}
use Rattle.trove_stream.specs.cny-base.declared.node.Node.{Node}
use Rattle.trove_stream.specs.cny-base.declared.node.Node.TheVariants as node
use Rattle.trove_stream.specs.cny-base.declared.stop.Stop.{Stop}
use Rattle.trove_stream.specs.cny-base.declared.stop.Stop.TheVariants as stop
use Rattle.content_store.specs.Store.{file_bytes}
use Rattle.trove_stream.specs.declared.parts.TroveParts.{TroveParts}
use Rattle.tree_journal.specs.tree-disk.Tree.{Name, Tree}
use Rattle.local_db.specs.declared.format.Format.{Format}
use Rattle.local_db.specs.declared.format.Format.TheVariants.{One, Two}
use Rattle.local_db.specs.Formats.{AreEnds, database_bytes, database_magic, limit, trove_text}
use Rattle.local_db.specs.Installed.{IsInstalled}
use Rattle.local_db.specs.Names.{database}
use Rattle.local_db.specs.Stores.{HoldsDatabase, HoldsFile, SameDatabase, absent, written}
use Rattle.local_db.specs.declared.db.Db.{Db}
use Rattle.local_db.specs.declared.loading.Found.TheVariants as found
use Rattle.local_db.specs.Database.{IsDatabaseFile}
use Rattle.local_db.specs.Loading.{HoldsDb, HoldsNoDb, IsLoadStop, IsTextStop, found_of}
use Rattle.local_db.specs.Reading.{FitsTrove, IsDatabaseText, end_bytes}
use Rattle.local_db.proofs.Texts.{item_of, items_of, one_text}
use Rattle.trove_stream.proofs.Distinct.{TrovesDiffer}
use Rattle.trove_stream.proofs.cny-base.OptionValues.{same_path as some_bytes}

-- ---- a database's file is in the grammar

abbrev pub SameLengths : Type 0
SameLengths = (f : Format) (list : List TroveParts) (low high : ℕ) → length (database_bytes f list low high) ≡ length (database_bytes f list 0 0)

items_fit : (f : Format) (xs : List TroveParts) (r : List ℕ) → length (items_of f xs ++ r) < 2 ^ 32 → All (FitsTrove f) xs
items_fit f [] r long = All-nil (FitsTrove f)
items_fit f (x ∷ xs) r long =
    let value = trove_text f x in
    let more : length (item_of f x ++ (items_of f xs ++ r)) < 2 ^ 32 = subst (λ (l : List ℕ). length l < 2 ^ 32) (append_assoc (item_of f x) (items_of f xs) r) long in
    let whole = length-append (item_of f x) (items_of f xs ++ r) in
    let one = length-append (0x50 ∷ to_be_bytes w32 (length value)) value in
    All-cons (FitsTrove f) x xs (omega (arith, more, whole, one)) (items_fit f xs r (omega (arith, more, whole)))

small : (f : Format) (n : ℕ) → n ≤ limit f → n < 2 ^ 32
small One n short = let most : limit One ≡ 268435456 = refl in omega (arith, short, most)
small Two n short = let most : limit Two ≡ 536870912 = refl in omega (arith, short, most)

pub low_end : (a b : ℕ) → AreEnds a b → (a < 2 ^ 32) × (b < 2 ^ 32)
low_end a b ends = ⊎_elim
    (λ none. (let x = none.0 in omega (arith, x), let y = none.1 in omega (arith, y)))
    (λ some. let order = some.1 in let most = some.3 in (omega (arith, order, most), omega (arith, most)))
    ends

pub text_of_file : SameLengths → (db : Db) (bytes : List ℕ) (file : IsDatabaseFile db bytes) → IsDatabaseText file.format db.installed db.oldest db.newest bytes
text_of_file same db bytes file =
    let f = file.format in
    let fits = file.database.fits in
    let whole : length (database_bytes f db.installed db.oldest db.newest) < 2 ^ 32 = small f _ (subst (λ (n : ℕ). n ≤ limit f) (sym (same f db.installed db.oldest db.newest)) fits.short) in
    let behind = length-append (database_magic f) (items_of f db.installed ++ end_bytes db.oldest db.newest) in
    let ends = low_end db.oldest db.newest file.database.ends in
    record {
      troves_are = file.database.installed.troves;
      told = fits.told;
      fits = items_fit f db.installed (end_bytes db.oldest db.newest) (omega (arith, whole, behind));
      oldest_fits = ends.0;
      newest_fits = ends.1;
      text = file.text;
    }

one_magic : (f g : Format) (bytes r s : List ℕ) → bytes ≡ database_magic f ++ r → bytes ≡ database_magic g ++ s → f ≡ g
one_magic One One bytes r s a b = refl
one_magic One Two bytes r s a b = absurd (let k : 49 ≡ 50 = ap (λ l. get_or l 6 0) (sym a ∙ b) in omega (arith, k))
one_magic Two One bytes r s a b = absurd (let k : 50 ≡ 49 = ap (λ l. get_or l 6 0) (sym a ∙ b) in omega (arith, k))
one_magic Two Two bytes r s a b = refl

pub text_in : SameLengths → (f : Format) (db : Db) (bytes : List ℕ) → begins_with (database_magic f) bytes ≡ true → IsDatabaseFile db bytes → IsDatabaseText f db.installed db.oldest db.newest bytes
text_in same f db bytes begins file =
    let rest = begun (database_magic f) bytes begins in
    let formats : file.format ≡ f = one_magic file.format f bytes (items_of file.format db.installed ++ end_bytes db.oldest db.newest) rest.0 file.text rest.1 in
    subst (λ (g : Format). IsDatabaseText g db.installed db.oldest db.newest bytes) formats (text_of_file same db bytes file)

-- ---- what was read is the database of the file

module _ (same : SameLengths) (differ : TrovesDiffer) (f : Format) (bytes : List ℕ) (begins : begins_with (database_magic f) bytes ≡ true)
    (troves : List TroveParts) (oldest newest : ℕ) (read : IsDatabaseText f troves oldest newest bytes) where
  same_as_read : (db : Db) → IsDatabaseFile db bytes → SameDatabase f f db.installed troves db.oldest db.newest oldest newest
  same_as_read db file =
      one_text differ f db.installed troves db.oldest db.newest oldest newest bytes (text_in same f db bytes begins file) read

  pub passes_checks : (db : Db) → IsDatabaseFile db bytes → IsInstalled troves × AreEnds oldest newest
  passes_checks db file =
      let all = same_as_read db file in
      (subst IsInstalled all.lists file.database.installed, subst (λ (n : ℕ). AreEnds oldest n) all.newest (subst (λ (n : ℕ). AreEnds n db.newest) all.oldest file.database.ends))

  pub read_is : (db : Db) → IsDatabaseFile db bytes → (let made : Db = record { installed = troves; oldest = oldest; newest = newest } in made ≡ db)
  read_is db file =
      let all = same_as_read db file in
      let l = all.lists in let a = all.oldest in let b = all.newest in
      λ i. record { installed = sym l i; oldest = sym a i; newest = sym b i }

pub if_ok_map : {X E : Type 0} (P Q : X → Type 0) (r : Result X E) → ((x : X) → P x → Q x) → IfOk r P → IfOk r Q
if_ok_map P Q (Ok x) to is = to x is
if_ok_map P Q (Err e) to is = tt

pub if_err_map : {X E : Type 0} (P Q : E → Type 0) (r : Result X E) → ((e : E) → P e → Q e) → IfErr r P → IfErr r Q
if_err_map P Q (Ok x) to is = tt
if_err_map P Q (Err e) to is = to e is

-- ---- a tree with a file

module _ (x : Tree) (bytes : List ℕ) (file : HoldsFile x database bytes) where
  pub held_is_file : (db : Db) → HoldsDb x db → IsDatabaseFile db bytes
  held_is_file db held = by held.format held.holds
    where
      by : (f : Format) → HoldsDatabase f x db.installed db.oldest db.newest → IsDatabaseFile db bytes
      by f (absent none list low high) = absurd (cc (ap file_bytes none, file))
      by f (written is file') = record { format = f; database = is; text = some_bytes bytes (database_bytes f db.installed db.oldest db.newest) (sym file ∙ file') }

  pub no_file_no_db : ((db : Db) → IsDatabaseFile db bytes → ⊥) → HoldsNoDb x
  no_file_no_db none f list oldest newest holds =
      none (record { installed = list; oldest = oldest; newest = newest }) (held_is_file (record { installed = list; oldest = oldest; newest = newest }) (record { format = f; holds = holds }))

pub load_stop : (told : Bool) (x : Tree) (rose : Type 0) (path : Name) (bytes : List ℕ) → path ≡ database → (IsTrue told → HoldsFile x database bytes) → (e : Stop) → IsTextStop path bytes e → IsLoadStop told x rose e
load_stop told x rose path bytes at file stop.Failed is = absurd is
load_stop told x rose path bytes at file stop.Memory is = tt
load_stop told x rose path bytes at file (stop.Damaged p) is = (is.0 ∙ at, λ tells. no_file_no_db x bytes (file tells) is.1)
load_stop told x rose path bytes at file (stop.Refused refusal) is = absurd is
load_stop told x rose path bytes at file stop.FarFailed is = absurd is
load_stop told x rose path bytes at file (stop.FarDamaged p) is = absurd is

pub file_here : (o : Option Node) (bytes : List ℕ) → found.File bytes ≡ found_of o → file_bytes o ≡ Some bytes
file_here None bytes e = absurd (cc e)
file_here (Some (node.Dir mode)) bytes e = absurd (cc e)
file_here (Some (node.Link target)) bytes e = absurd (cc e)
file_here (Some (node.File mode content)) bytes e = by (nat_le (length content) DATABASE_LIMIT) e
  where
    by : (b : Bool) → found.File bytes ≡ cond b (found.File content) found.Other → Some content ≡ Some bytes
    by true e = cc e
    by false e = absurd (cc e)
