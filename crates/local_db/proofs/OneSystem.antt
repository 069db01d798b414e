-- Two systems for which one tree stands differ in nothing on which an answer may depend.
use Rattle.std.proofs.Common.{◌≡◌, ⊎_elim, ℕ, ◌<◌, ◌≤◌, ◌^◌, List, [], ◌∷◌, length, map, Option, Some, None, All, Contains, refl, sym, ◌∙◌, ap, subst, arith}
use Rattle.std.proofs.lemmas.Bool.{cases_Bool}
use Rattle.std.proofs.lemmas.List.Elements.{All-head, All-tail}
use Rattle.std.specs.FinMap.{get}
use Rattle.sha1.specs.Sha1.{sha1}
use Rattle.trove_stream.specs.cny-base.Reserved.{is_reserved}
use Rattle.trove_stream.specs.cny-base.declared.node.Node.{Node}
use Rattle.trove_stream.specs.cny-base.declared.node.Node.TheVariants as node
use Rattle.trove_stream.specs.declared.parts.TroveParts.{TroveParts}
use Rattle.tree_journal.specs.tree-disk.Tree.{Name, Tree}
use Rattle.tree_journal.proofs.tree-disk.Laws.{same_tree}
use Rattle.tree_scan.specs.declared.mark.Mark.{Mark}
use Rattle.tree_scan.specs.declared.mark.Mark.TheVariants as mark
use Rattle.tree_scan.specs.Marks.{fingerprint}
use Rattle.local_db.specs.declared.format.Format.{Format}
use Rattle.local_db.specs.declared.format.Format.TheVariants.{One, Two}
use Rattle.local_db.specs.Formats.{database_bytes, Fits}
use Rattle.local_db.specs.SystemState.{StackItem, SystemState, newest, oldest, AreNumbered, IsStackItem, IsSystemState}
use Rattle.local_db.specs.Names.{database, record_file, saved}
use Rattle.content_store.specs.Store.{content_path, file_bytes}
use Rattle.local_db.specs.Record.{Entry, entries_of, record_bytes}
use Rattle.local_db.specs.Stores.{IsDatabase, SameDatabase, HoldsFile, HoldsItem, HoldsStack, HoldsDatabase, absent, written, StoresIn, StoresSystem, SameItemAs, SameStack, Alike}
use Rattle.local_db.proofs.OneResult.{OneLed, one_list_back}
use Rattle.local_db.proofs.Systems.{four_bytes, low_at_least as at_least_one, numbers_by_length as lengths_by_numbers, numbered_rest as rest_numbered}
use Rattle.local_db.proofs.Spellings.{Distinct, one_delta_list, one_entry_list, entries_part, one_format, one_database}
use Rattle.trove_stream.proofs.cny-base.Lists.{contains_cases, nothing_in}
use Rattle.local_db.proofs.Holding.{low_end as ends_small}
use Rattle.trove_stream.proofs.cny-base.OptionValues.{same_some}

-- ---- one file

one_file : (x : Tree) (name a b : List ℕ) → HoldsFile x name a → HoldsFile x name b → a ≡ b
one_file x name a b h g = same_some a b (sym h ∙ g)

no_file : (x : Tree) (name a : List ℕ) → get x name ≡ None → HoldsFile x name a → ⊥
no_file x name a none h = absurd (cc (ap file_bytes none, h))

-- ---- nodes by their marks

unfoldable pub mode_in : Mark → ℕ
mode_in mark.Nothing = 0
mode_in (mark.Dir mode) = mode
mode_in (mark.File mode size name) = mode
mode_in (mark.Link target) = 0

unfoldable pub bytes_in : Mark → List ℕ
bytes_in mark.Nothing = []
bytes_in (mark.Dir mode) = []
bytes_in (mark.File mode size name) = name
bytes_in (mark.Link target) = target

same_node : (m n : Option Node) → fingerprint m ≡ fingerprint n → ((a : ℕ) (d : List ℕ) (b : ℕ) (c : List ℕ) → m ≡ Some (node.File a d) → n ≡ Some (node.File b c) → sha1 d ≡ sha1 c → d ≡ c) → m ≡ n
unfolding mode_in bytes_in
same_node None None e files = refl
same_node None (Some (node.Dir b)) e files = absurd (cc e)
same_node None (Some (node.File b c)) e files = absurd (cc e)
same_node None (Some (node.Link c)) e files = absurd (cc e)
same_node (Some (node.Dir a)) None e files = absurd (cc e)
same_node (Some (node.Dir a)) (Some (node.Dir b)) e files = ap (λ (n : ℕ). Some (node.Dir n)) (ap mode_in e)
same_node (Some (node.Dir a)) (Some (node.File b c)) e files = absurd (cc e)
same_node (Some (node.Dir a)) (Some (node.Link c)) e files = absurd (cc e)
same_node (Some (node.File a d)) None e files = absurd (cc e)
same_node (Some (node.File a d)) (Some (node.Dir b)) e files = absurd (cc e)
same_node (Some (node.File a d)) (Some (node.File b c)) e files =
    let modes : a ≡ b = ap mode_in e in
    let bytes : d ≡ c = files a d b c refl refl (ap bytes_in e) in
    λ i. Some (node.File (modes i) (bytes i))
same_node (Some (node.File a d)) (Some (node.Link c)) e files = absurd (cc e)
same_node (Some (node.Link d)) None e files = absurd (cc e)
same_node (Some (node.Link d)) (Some (node.Dir b)) e files = absurd (cc e)
same_node (Some (node.Link d)) (Some (node.File b c)) e files = absurd (cc e)
same_node (Some (node.Link d)) (Some (node.Link c)) e files = ap (λ (t : List ℕ). Some (node.Link t)) (ap bytes_in e)

-- ---- entries

entries_on : StackItem → List Name → List Entry
entries_on o paths = map (λ (p : Name). record { path = p; was = fingerprint (get o.before p); now = fingerprint (get o.after p) }) paths

heads_same : (d e : Entry) (ds es : List Entry) → ◌≡◌ {A = List Entry} (d ∷ ds) (e ∷ es) → (d ≡ e) × (ds ≡ es)
heads_same d e ds es h = (cc h, cc h)

same_paths : (o p : StackItem) (paths others : List Name) → entries_on o paths ≡ entries_on p others → paths ≡ others
unfolding entries_on
same_paths o p [] [] e = refl
same_paths o p [] (q ∷ others) e = absurd (cc e)
same_paths o p (q ∷ paths) [] e = absurd (cc e)
same_paths o p (q ∷ paths) (r ∷ others) e =
    let parts = heads_same _ _ (entries_on o paths) (entries_on p others) e in
    let heads : q ≡ r = ap (λ (e : Entry). e.path) parts.0 in
    let tails = same_paths o p paths others parts.1 in
    λ i. heads i ∷ tails i

same_was : (o p : StackItem) (paths : List Name) → entries_on o paths ≡ entries_on p paths → (q : Name) → Contains paths q
    → (fingerprint (get o.before q) ≡ fingerprint (get p.before q)) × (fingerprint (get o.after q) ≡ fingerprint (get p.after q))
unfolding entries_on
same_was o p [] e q in' = absurd (nothing_in q in')
same_was o p (r ∷ paths) e q in' =
    let parts = heads_same _ _ (entries_on o paths) (entries_on p paths) e in
    let head = parts.0 in
    ⊎_elim
    (λ is. (
      ap (λ n. fingerprint (get o.before n)) (sym is) ∙ ap (λ (e : Entry). e.was) head ∙ ap (λ n. fingerprint (get p.before n)) is,
      ap (λ n. fingerprint (get o.after n)) (sym is) ∙ ap (λ (e : Entry). e.now) head ∙ ap (λ n. fingerprint (get p.after n)) is,
    ))
    (λ later. same_was o p paths parts.1 q later)
    (contains_cases r q paths in')

-- ---- one job

module _ (led : OneLed) (distinct : Distinct) (f : Format) (x : Tree) (after : List TroveParts) (o p : StackItem) (o_is : IsStackItem o) (p_is : IsStackItem p) (h : HoldsItem f x after o) (g : HoldsItem f x after p) (number : o.number ≡ p.number) where
  same_bytes : h.bytes ≡ g.bytes
  same_bytes = one_file x (record_file o.number) h.bytes g.bytes h.file (subst (λ (n : ℕ). HoldsFile x (record_file n) g.bytes) (sym number) g.file)

  same_text : record_bytes f o.number h.text.deltas o.list after (entries_of o) ≡ record_bytes f o.number g.text.deltas p.list after (entries_of p)
  same_text = sym h.text.text ∙ same_bytes ∙ g.text.text ∙ ap (λ (n : ℕ). record_bytes f n g.text.deltas p.list after (entries_of p)) (sym number)

  first_part : (h.text.deltas ≡ g.text.deltas) × (entries_part o.list after (entries_of o) ≡ entries_part p.list after (entries_of p))
  first_part = one_delta_list distinct f o.number h.text.deltas g.text.deltas o.list p.list after (entries_of o) (entries_of p) h.text.deltas_are g.text.deltas_are h.text.deltas_fit g.text.deltas_fit same_text

  lists : o.list ≡ p.list
  lists = one_list_back led h.text.deltas after o.list p.list o_is.list p_is.list h.text.back (subst (λ us. Rattle.local_db.specs.Record.TakesBack us after p.list) (sym first_part.0) g.text.back)

  entries : entries_of o ≡ entries_of p
  entries = one_entry_list o.list after (entries_of o) (entries_of p) h.text.entries_are g.text.entries_are h.text.entries_fit
      (subst (λ l. All (λ e. Rattle.cny_stream.specs.Item.FitsItem (Rattle.local_db.specs.Record.entry_value l after e)) (entries_of p)) (sym lists) g.text.entries_fit)
      (first_part.1 ∙ ap (λ (l : List TroveParts). entries_part l after (entries_of p)) (sym lists))

  paths : o.paths ≡ p.paths
  unfolding entries_on
  paths = same_paths o p o.paths p.paths entries

  marks : (q : Name) → Contains o.paths q → (fingerprint (get o.before q) ≡ fingerprint (get p.before q)) × (fingerprint (get o.after q) ≡ fingerprint (get p.after q))
  unfolding entries_on
  marks = same_was o p o.paths (entries ∙ ap (entries_on p) (sym paths))

  pub same_old : SameItemAs o p
  same_old = record {
    number = number;
    list = lists;
    paths = paths;
    before = λ q in'. same_node (get o.before q) (get p.before q) (marks q in').0
        (λ a d b c is is' names. one_file x (content_path (saved o.number) (sha1 d)) d c
        (h.contents q a d in' is)
        (subst (λ (n : Name). HoldsFile x n c) (ap (λ (k : ℕ). content_path (saved k) (sha1 c)) (sym number) ∙ ap (content_path (saved o.number)) (sym names))
        (g.contents q b c (subst (λ (l : List Name). Contains l q) paths in') is')));
    after = λ q in'. (marks q in').1;
  }

-- ---- the stack

same_length : (olds others : List StackItem) → AreNumbered olds → AreNumbered others → newest olds ≡ newest others → oldest olds ≡ oldest others → length olds ≡ length others
same_length [] [] a b n o = refl
same_length [] (p ∷ others) a b n o = absurd (omega (arith, o, at_least_one p others b))
same_length (p ∷ olds) [] a b n o = absurd (omega (arith, o, at_least_one p olds a))
same_length (p ∷ olds) (q ∷ others) a b n o = omega (arith, n, o, lengths_by_numbers p olds a, lengths_by_numbers q others b)

next_number : (o p : StackItem) (olds others : List StackItem) → AreNumbered (o ∷ olds) → AreNumbered (p ∷ others) → o.number ≡ p.number → length olds ≡ length others → newest olds ≡ newest others
next_number o p [] [] a b e long = refl
next_number o p [] (q ∷ others) a b e long = absurd (omega (arith, long))
next_number o p (q ∷ olds) [] a b e long = absurd (omega (arith, long))
next_number o p (q ∷ olds) (r ∷ others) a b e long = omega (arith, e, a.0, b.0)

same_olds : OneLed → Distinct → (f : Format) (x : Tree) (after : List TroveParts) (olds others : List StackItem) → All IsStackItem olds → All IsStackItem others → AreNumbered olds → AreNumbered others
    → newest olds ≡ newest others → length olds ≡ length others → HoldsStack f x after olds → HoldsStack f x after others → SameStack olds others
same_olds led distinct f x after [] [] io ip ao ap' n long h g = tt
same_olds led distinct f x after [] (p ∷ others) io ip ao ap' n long h g = absurd (omega (arith, long))
same_olds led distinct f x after (o ∷ olds) [] io ip ao ap' n long h g = absurd (omega (arith, long))
same_olds led distinct f x after (o ∷ olds) (p ∷ others) io ip ao ap' n long h g =
    let first = same_old led distinct f x after o p (All-head IsStackItem o olds io) (All-head IsStackItem p others ip) h.0 g.0 n in
    let shorter : length olds ≡ length others = omega (arith, long) in (
      first,
      same_olds led distinct f x o.list olds others (All-tail IsStackItem o olds io) (All-tail IsStackItem p others ip) (rest_numbered o olds ao) (rest_numbered p others ap')
          (next_number o p olds others ao ap' n shorter) shorter h.1 (subst (λ (l : List TroveParts). HoldsStack f x l others) (sym first.list) g.1),
    )

-- ---- the whole

low_number : (olds : List StackItem) → AreNumbered olds → oldest olds ≤ newest olds
low_number [] numbered = omega arith
low_number (o ∷ olds) numbered = omega (arith, lengths_by_numbers o olds numbered)

trees : (f g : Format) (x : Tree) (s t : SystemState) → StoresIn f x s → StoresIn g x t → s.tree ≡ t.tree
trees f g x s t h k = same_tree s.tree t.tree
    (λ q. ⊎_elim
    (λ reserved. h.system.managed q reserved ∙ sym (k.system.managed q reserved))
    (λ outer. sym (h.managed q outer) ∙ k.managed q outer)
    (cases_Bool (is_reserved q)))

module _ (led : OneLed) (distinct : Distinct) (f : Format) (x : Tree) (s t : SystemState) (h : StoresIn f x s) (k : StoresIn f x t) where
  by_database : SameDatabase f f s.installed t.installed (oldest s.stack) (newest s.stack) (oldest t.stack) (newest t.stack) → Alike s t
  by_database same = record {
    tree = trees f f x s t h k;
    list = same.lists;
    olds = same_olds led distinct f x s.installed s.stack t.stack h.system.olds k.system.olds h.system.numbered k.system.numbered same.newest
        (same_length s.stack t.stack h.system.numbered k.system.numbered same.newest same.oldest)
        h.olds (subst (λ (l : List TroveParts). HoldsStack f x l t.stack) (sym same.lists) k.olds);
  }

small : (s : SystemState) → IsSystemState s → (oldest s.stack < 2 ^ 32) × (newest s.stack < 2 ^ 32)
small s system = let top = four_bytes (newest s.stack) system.number in (omega (arith, top, low_number s.stack system.numbered), top)

pub empty_stack : (olds : List StackItem) → AreNumbered olds → newest olds ≡ 0 → olds ≡ []
empty_stack [] numbered none = refl
empty_stack (o ∷ olds) numbered none = absurd (omega (arith, none, low_number (o ∷ olds) numbered, at_least_one o olds numbered))

no_olds : (olds others : List StackItem) → olds ≡ [] → others ≡ [] → SameStack olds others
no_olds [] [] a b = tt
no_olds [] (p ∷ others) a b = absurd (cc b)
no_olds (o ∷ olds) others a b = absurd (cc a)

pub determined_in : OneLed → Distinct → (f g : Format) (x : Tree) (s t : SystemState) → StoresIn f x s → StoresIn g x t → Alike s t
determined_in led distinct f g x s t h k = by h.list k.list
  where
    by : HoldsDatabase f x s.installed (oldest s.stack) (newest s.stack) → HoldsDatabase g x t.installed (oldest t.stack) (newest t.stack) → Alike s t
    by (absent none list low high) (absent none' list' low' high') =
        record { tree = trees f g x s t h k; list = list ∙ sym list'; olds = no_olds s.stack t.stack (empty_stack s.stack h.system.numbered high) (empty_stack t.stack k.system.numbered high') }
    by (absent none list low high) (written is file) = absurd (no_file x database _ none file)
    by (written is file) (absent none list low high) = absurd (no_file x database _ none file)
    by (written is file) (written is' file') =
        let e : database_bytes f s.installed (oldest s.stack) (newest s.stack) ≡ database_bytes g t.installed (oldest t.stack) (newest t.stack) = one_file x database _ _ file file' in
        let formats : f ≡ g = one_format f g s.installed t.installed (oldest s.stack) (newest s.stack) (oldest t.stack) (newest t.stack) e in
        let k' : StoresIn f x t = subst (λ (g : Format). StoresIn g x t) (sym formats) k in
        let e' : database_bytes f s.installed (oldest s.stack) (newest s.stack) ≡ database_bytes f t.installed (oldest t.stack) (newest t.stack) = e ∙ ap (λ (g : Format). database_bytes g t.installed (oldest t.stack) (newest t.stack)) (sym formats) in
        let a = small s h.system in
        let b = small t k.system in
        by_database led distinct f x s t h k' (one_database distinct f s.installed t.installed (oldest s.stack) (newest s.stack) (oldest t.stack) (newest t.stack) h.system.list.troves k.system.list.troves
        is.fits (subst (λ (g : Format). Fits g t.installed) (sym formats) is'.fits) a.0 a.1 b.0 b.1 e')

pub determined : OneLed → Distinct → (x : Tree) (s t : SystemState) → StoresSystem x s → StoresSystem x t → Alike s t
determined led distinct x s t h k = ⊎_elim
    (λ a. ⊎_elim (λ b. determined_in led distinct One One x s t a b) (λ b. determined_in led distinct One Two x s t a b) k)
    (λ a. ⊎_elim (λ b. determined_in led distinct Two One x s t a b) (λ b. determined_in led distinct Two Two x s t a b) k)
    h

-- ---- databases

pub same_database : Distinct → (f g : Format) (list other : List TroveParts) (low high lower higher : ℕ) → IsDatabase f list low high → IsDatabase g other lower higher
    → database_bytes f list low high ≡ database_bytes g other lower higher → SameDatabase f g list other low high lower higher
same_database distinct f g list other low high lower higher one two e =
    let formats : f ≡ g = one_format f g list other low high lower higher e in
    let a = ends_small low high one.ends in
    let b = ends_small lower higher two.ends in
    let same = one_database distinct f list other low high lower higher one.installed.troves two.installed.troves one.fits (subst (λ (g : Format). Fits g other) (sym formats) two.fits)
    a.0 a.1 b.0 b.1 (e ∙ ap (λ (g : Format). database_bytes g other lower higher) (sym formats)) in
    record { formats = formats; lists = same.lists; oldest = same.oldest; newest = same.newest }
