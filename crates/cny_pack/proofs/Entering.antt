-- Entries that are written one behind the other.
use Rattle.std.proofs.Common.{◌≡◌, ℕ, ◌+◌, ◌<◌, ◌≤◌, Bool, true, IsTrue, List, [], ◌∷◌, ◌++◌, length, take, drop, Option, refl, sym, ap, subst, ◌∙◌, append-nil, get_or, codes}
use Rattle.std.specs.Prelude.{All}
use Rattle.std.specs.Io.KnownBytes.{Appends}
use Rattle.std.specs.List.{AllZip}
use Rattle.std.proofs.lemmas.Grind.{flat_map-append}
use Rattle.std.proofs.lemmas.List.{take_more, drop_more, take-append-drop}
use Rattle.std.proofs.lemmas.List.Elements.{All-nil, All-cons, All-head, All-tail, All-push}
use Rattle.tree_disk.specs.Rows.{bytes_at}
use Rattle.tree_disk.specs.Tree.{Name, Tree}
use Rattle.tree_disk.specs.cny-base.Path.{is_path}
use Rattle.tree_disk.specs.cny-base.declared.limits.TheConstants.{CONTENT_LIMIT}
use Rattle.tree_disk.specs.declared.disk.Look.{Look}
use Rattle.tree_disk.specs.declared.disk.Look.TheVariants as look
use Rattle.manifest_troves.specs.cny-stream.Owner.{OwnerNames}
use Rattle.cny_manifest.specs.Grammar.{IsLine}
use Rattle.cny_manifest.specs.Lines.{with_feed}
use Rattle.cny_manifest.specs.Spelling.{Entry, DirEntry, FileEntry, LinkEntry, IsEntry, dir_line, file_line, link_line, target_line}
use Rattle.cny_pack.specs.Causes.{CannotEnter, HasEntry, IsFirstWithout}
use Rattle.cny_pack.specs.Entries.{flags_at, IsNamed, IsFileLine, entry_text, entries_text, IsEntryFor, IsEntryOfSight, GivesEntry, GivesEntries, GivesAll}
use Rattle.cny_pack.specs.Gives.{GivesLine, GivesLink, GivesContentLine}
use Rattle.cny_pack.specs.declared.pattern.Pattern.{Pattern}
use Rattle.cny_pack.specs.declared.plan.Sight.{Sight}
use Rattle.cny_pack.specs.declared.stop.Unfit.{Unfit}
use Rattle.cny_pack.proofs.Giving.{appends_on}

zip_push : {A B : Type 0} (R : A → B → Type 0) (xs : List A) (ys : List B) (x : A) (y : B) → AllZip R xs ys → R x y → AllZip R (xs ++ x ∷ []) (ys ++ y ∷ [])
zip_push R [] [] x y all one = (one, tt)
zip_push R [] (b ∷ ys) x y all one = absurd all
zip_push R (a ∷ xs) [] x y all one = absurd all
zip_push R (a ∷ xs) (b ∷ ys) x y all one = (all.0, zip_push R xs ys x y all.1 one)

pub zip_next : {A B : Type 0} (R : A → B → Type 0) (xs : List A) (at : ℕ) (x : A) (ys : List B) (y : B) → at < length xs → x ≡ get_or xs at x → AllZip R (take at xs) ys → R x y → AllZip R (take (at + 1) xs) (ys ++ y ∷ [])
zip_next {A} R xs at x ys y within is all one =
    subst (λ (l : List A). AllZip R l (ys ++ y ∷ [])) (ap (λ (z : A). take at xs ++ z ∷ []) is ∙ sym (take_more xs at x within)) (zip_push R (take at xs) ys x y all one)

-- ---- of the same tree

pub content_from : (tells : Bool) (t u : Tree) (path : Name) (size : ℕ) (a b : Option (List ℕ)) → (IsTrue tells → t ≡ u) → GivesContentLine tells t path size a b → GivesContentLine tells u path size a b
content_from tells t u path size a b same is =
    record { content = is.content; given = is.given; is = record { long = is.is.long; told = λ told. is.is.told told ∙ ap (λ (x : Tree). bytes_at x path) (same told) } }

pub for_from : (owns : Name → OwnerNames → Type 0) (config : List Pattern) (tells : Bool) (t u : Tree) (path : Name) (look : Look) (entry : Entry) → (IsTrue tells → t ≡ u) → IsEntryFor owns config tells t path look entry → IsEntryFor owns config tells u path look entry
for_from owns config tells t u path look.Nothing entry same is = absurd is
for_from owns config tells t u path (look.Dir mode) entry same is = is
for_from owns config tells t u path (look.File mode size) entry same is =
    (is.0, is.1, is.2, record { long = is.3.long; told = λ told. is.3.told told ∙ ap (λ (x : Tree). bytes_at x path) (same told) }, is.4)
for_from owns config tells t u path (look.Link target) entry same is = is

pub entry_from : (owns : Name → OwnerNames → Type 0) (config : List Pattern) (tells : Bool) (t u : Tree) (path : Name) (look : Look) (a b : Option (List ℕ)) → (IsTrue tells → t ≡ u) → GivesEntry owns config tells t path look a b → GivesEntry owns config tells u path look a b
entry_from owns config tells t u path look a b same is = record { entry = is.entry; is = for_from owns config tells t u path look is.entry same is.is; valid = is.valid; given = is.given }

module _ (owns : Name → OwnerNames → Type 0) (config : List Pattern) (tells : Bool) (t : Tree) where
  pub dir_given : (path : Name) (mode : ℕ) (owner : OwnerNames) (line : List ℕ) (a b : Option (List ℕ)) → IsTrue (is_path path) → mode ≤ 4095 → IsNamed owns path owner → line ≡ dir_line true path mode owner → GivesLine line a b
      → GivesEntry owns config tells t path (look.Dir mode) a b
  dir_given path mode owner line a b is_path small named is given = record {
    entry = DirEntry path mode owner;
    is = (owner, named.owns, refl);
    valid = (is_path, small, named.valid, subst IsLine is given.fits);
    given = subst (Appends a b) (ap with_feed is ∙ sym (append-nil (with_feed (dir_line true path mode owner)))) given.given;
  }

  pub link_given : (path target : List ℕ) (a c : Option (List ℕ)) → GivesLink path target a c → GivesEntry owns config tells t path (look.Link target) a c
  link_given path target a c is = record {
    entry = LinkEntry path target;
    is = refl;
    valid = (is.path_is, is.target_is, is.first.fits, is.second.fits);
    given = subst (Appends a c) (ap (λ (l : List ℕ). with_feed (link_line path) ++ l) (sym (append-nil (with_feed (target_line target)))))
        (appends_on a is.between c (with_feed (link_line path)) (with_feed (target_line target)) is.first.given is.second.given);
  }

  pub file_given : (path : Name) (mode size : ℕ) (line : List ℕ) (a b c : Option (List ℕ)) → size ≤ CONTENT_LIMIT → IsFileLine owns config path mode size line → GivesLine line a b → GivesContentLine tells t path size b c
      → GivesEntry owns config tells t path (look.File mode size) a c
  file_given path mode size line a b c small head given more =
      let content = more.content in
      let entry : Entry = FileEntry path mode head.owner (flags_at config path) content in
      let is : line ≡ file_line true path mode head.owner (flags_at config path) (length content) = head.spelled ∙ ap (λ (n : ℕ). file_line true path mode head.owner (flags_at config path) n) (sym more.is.long) in
      record {
        entry = entry;
        is = (head.owner, content, head.named.owns, more.is, refl);
        valid = (head.path_is, head.mode_is, head.named.valid, subst (λ (n : ℕ). n ≤ CONTENT_LIMIT) (sym more.is.long) small, subst IsLine is given.fits);
        given = subst (Appends a c)
            (ap (λ (l : List ℕ). with_feed l ++ with_feed content) is
            ∙ ap (λ (l : List ℕ). with_feed (file_line true path mode head.owner (flags_at config path) (length content)) ++ l) (sym (append-nil (with_feed content))))
            (appends_on a b c (with_feed line) (with_feed content) given.given more.given);
      }

  pub more_given : (sights : List Sight) (sight : Sight) (a b c : Option (List ℕ)) → GivesEntries owns config tells t sights a b → GivesEntry owns config tells t sight.path sight.look b c
      → GivesEntries owns config tells t (sights ++ sight ∷ []) a c
  more_given sights sight a b c all one = record {
    entries = all.entries ++ one.entry ∷ [];
    are = zip_push (IsEntryOfSight owns config tells t) sights all.entries sight one.entry all.are one.is;
    valid = All-push (IsEntry true) all.entries one.entry all.valid one.valid;
    given = subst (Appends a c)
        (ap (λ (l : List ℕ). entries_text all.entries ++ l) (sym (append-nil (entry_text one.entry))) ∙ sym (flat_map-append entry_text all.entries (one.entry ∷ [])))
        (appends_on a b c (entries_text all.entries) (entry_text one.entry) all.given one.given);
  }

  pub next_given : (sights : List Sight) (at : ℕ) (sight : Sight) (a b c : Option (List ℕ)) → at < length sights → sight ≡ get_or sights at sight → GivesEntries owns config tells t (take at sights) a b → GivesEntry owns config tells t sight.path sight.look b c
      → GivesEntries owns config tells t (take (at + 1) sights) a c
  next_given sights at sight a b c within is all one =
      subst (λ (l : List Sight). GivesEntries owns config tells t l a c) (ap (λ (s : Sight). take at sights ++ s ∷ []) is ∙ sym (take_more sights at sight within))
      (more_given (take at sights) sight a b c all one)

  -- what got an entry has one
  have_entries : (sights : List Sight) (entries : List Entry) → AllZip (IsEntryOfSight owns config tells t) sights entries → All (IsEntry true) entries → All (HasEntry owns config tells t) sights
  have_entries [] [] are valid = All-nil (HasEntry owns config tells t)
  have_entries [] (e ∷ es) are valid = absurd are
  have_entries (s ∷ ss) [] are valid = absurd are
  have_entries (s ∷ ss) (e ∷ es) are valid =
      All-cons (HasEntry owns config tells t) s ss (e, are.0, All-head (IsEntry true) e es valid) (have_entries ss es are.1 (All-tail (IsEntry true) e es valid))

  -- the next one gets none
  pub first_without : (lacks : Name → Type 0) (sights : List Sight) (at : ℕ) (sight : Sight) (path : Name) (why : Unfit) (a b : Option (List ℕ)) → at < length sights → sight ≡ get_or sights at sight → GivesEntries owns config tells t (take at sights) a b
      → path ≡ sight.path → CannotEnter lacks tells sight.path sight.look why → IsFirstWithout owns lacks config tells t sights path why
  first_without lacks sights at sight path why a b within is given path_is cannot = record {
    done = take at sights;
    sight = sight;
    rest = drop (at + 1) sights;
    whole = ap (λ (l : List Sight). take at sights ++ l) (ap (λ (s : Sight). s ∷ drop (at + 1) sights) is ∙ sym (drop_more sights at sight within)) ∙ take-append-drop at sights;
    path_is = path_is;
    cannot = cannot;
    before = have_entries (take at sights) given.entries given.are given.valid;
  }

  pub all_given : (text : List ℕ) (sights : List Sight) (a b c d : Option (List ℕ)) → Appends a b text → GivesEntries owns config tells t sights b c → Appends c d (with_feed (codes "end"))
      → GivesAll owns config tells t text sights a d
  all_given text sights a b c d first all last = record {
    entries = all.entries;
    are = all.are;
    valid = all.valid;
    given = appends_on a b d text (entries_text all.entries ++ with_feed (codes "end")) first (appends_on b c d (entries_text all.entries) (with_feed (codes "end")) all.given last);
  }
