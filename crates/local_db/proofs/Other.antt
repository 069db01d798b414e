-- The empty system, the cross-checks of records, and the migration.
use Rattle.std.proofs.Common.{◌≡◌, ◌≢◌, ℕ, true, false, List, [], ◌∷◌, get_or, Option, Some, None, All, Contains, refl, sym, ◌∙◌, ap, arith}
use Rattle.std.specs.List.Sorted.{IsStrictlySortedBy}
use Rattle.std.proofs.lemmas.List.Elements.{All-nil, All-map, All-head, All-tail}
use Rattle.std.specs.FinMap.{get}
use Rattle.sha1.specs.Sha1.{sha1}
use Rattle.trove_stream.specs.cny-base.Reserved.{is_reserved}
use Rattle.trove_stream.specs.cny-base.declared.node.Node.{Node}
use Rattle.trove_stream.specs.cny-base.declared.node.Node.TheVariants as node
use Rattle.trove_stream.specs.declared.parts.TroveParts.{TroveParts}
use Rattle.trove_stream.specs.Trove.{IsTrove}
use Rattle.trove_stream.specs.Forbidden.{first_forbidden}
use Rattle.tree_journal.specs.tree-disk.Tree.{Name, Tree, same_name, WellFormed}
use Rattle.tree_journal.specs.journal-log.declared.put.Put.{Put}
use Rattle.tree_journal.specs.journal-log.Targets.{node_of, is_target, with_targets}
use Rattle.tree_scan.specs.declared.mark.Mark.TheVariants as mark
use Rattle.tree_scan.specs.Marks.{fingerprint}
use Rattle.local_db.specs.Installed.{IsInstalled}
use Rattle.local_db.specs.declared.format.Format.{Format}
use Rattle.local_db.specs.declared.format.Format.TheVariants.{One, Two}
use Rattle.local_db.specs.SystemState.{StackItem, SystemState, IsFree, IsStackItem, empty_system}
use Rattle.local_db.specs.Names.{database, record_file, saved}
use Rattle.content_store.specs.Store.{content_path, file_bytes}
use Rattle.local_db.specs.Record.{Entry, entries_of, PassesChecks}
use Rattle.local_db.specs.Stores.{HoldsItem, HoldsStack, absent, written, StoresIn}
use Rattle.tree_journal.specs.journal-log.declared.put.Want.TheVariants as want
use Rattle.local_db.specs.Steps.{want_of, backs, database_put, record_put, AreMigrated, IsMigration}
use Rattle.local_db.proofs.Places.{database_reserved, record_reserved, content_not_record, content_is_job, job_not_database, job_reserved}
use Rattle.local_db.proofs.Frame.{file_stays}
use Rattle.local_db.proofs.Unions.{wrote_more, wrote_no_other}
use Rattle.local_db.proofs.Systems.{system_database}
use Rattle.local_db.proofs.Jobs.{outer_differs}
use Rattle.local_db.proofs.Together.{nothing_fits}
use Rattle.trove_stream.proofs.cny-base.Lists.{contains_first, contains_rest}
use Rattle.tree_scan.proofs.tree-disk.Children.{or_none as neither}

-- ---- nothing installed

pub no_troves : IsInstalled []
unfolding IsStrictlySortedBy
no_troves = record {
  troves = All-nil IsTrove;
  rising = tt;
  allowed = All-nil (λ (t : TroveParts). first_forbidden t.files ≡ None);
  unshared = λ i j d less lt. absurd (omega (arith, lt));
}

pub empty_law : (x : Tree) → WellFormed x → ((q : Name) → is_reserved q ≡ true → get x q ≡ None) → StoresIn Two x (empty_system x)
empty_law x well bare = record {
  system = record { tree = well; managed = bare; list = no_troves; fits = nothing_fits Two; few = omega arith; numbered = tt; number = omega arith; olds = All-nil IsStackItem };
  managed = λ q out. refl;
  list = absent (bare database database_reserved) refl refl refl;
  olds = tt;
}

-- ---- cross-checks

pub nothing_there : (n : Option Node) → fingerprint n ≡ mark.Nothing → n ≡ None
nothing_there None e = refl
nothing_there (Some (node.Dir mode)) e = absurd (cc e)
nothing_there (Some (node.File mode bytes)) e = absurd (cc e)
nothing_there (Some (node.Link target)) e = absurd (cc e)

pub checks_law : (f : Format) (x : Tree) (after : List TroveParts) (o : StackItem) → IsStackItem o → HoldsItem f x after o → PassesChecks f o.list (entries_of o)
checks_law f x after o is h = record {
  list = is.list;
  fits = h.fits;
  free = All-map (λ (e : Entry). IsFree e.path) (λ (p : Name). record { path = p; was = fingerprint (get o.before p); now = fingerprint (get o.after p) }) o.paths is.free;
  something = All-map (λ (e : Entry). (e.was ≡ mark.Nothing) × (e.now ≡ mark.Nothing) → ⊥) (λ (p : Name). record { path = p; was = fingerprint (get o.before p); now = fingerprint (get o.after p) }) o.paths
      (λ k d lt both. is.differ k d lt (nothing_there (get o.before (get_or o.paths k d)) both.0 ∙ sym (nothing_there (get o.after (get_or o.paths k d)) both.1)));
}

-- ---- the migration

no_record_target : (after : List TroveParts) (olds : List StackItem) (puts : List Put) → AreMigrated after olds puts → (q : Name) → ((n : ℕ) → same_name q (record_file n) ≡ false) → is_target puts q ≡ false
no_record_target after [] [] h q other = refl
no_record_target after [] (p ∷ puts) h q other = absurd h
no_record_target after (o ∷ olds) [] h q other = absurd h
no_record_target after (o ∷ olds) (p ∷ puts) h q other =
    neither (same_name q p.path) (is_target puts q) (ap (λ (p : Put). same_name q p.path) h.0.2 ∙ other o.number) (no_record_target o.list olds puts h.1 q other)

module _ (x y : Tree) (stays : (q : Name) → is_reserved q ≡ true → same_name q database ≡ false → ((n : ℕ) → same_name q (record_file n) ≡ false) → get y q ≡ get x q) where
  migrated_olds : (after : List TroveParts) (olds : List StackItem) (puts : List Put) → AreMigrated after olds puts → ((p : Put) → Contains puts p → get y p.path ≡ node_of p.want) → All IsStackItem olds
      → HoldsStack One x after olds → HoldsStack Two y after olds
  migrated_olds after [] [] m wrote olds h = tt
  migrated_olds after [] (p ∷ puts) m wrote olds h = absurd m
  migrated_olds after (o ∷ olds) [] m wrote is h = absurd m
  migrated_olds after (o ∷ olds) (p ∷ puts) m wrote is h = (
    record {
      bytes = m.0.1;
      file = let put : p ≡ record_put o.number m.0.0 m.0.1 = m.0.2 in ap file_bytes (ap (λ (p : Put). get y p.path) (sym put) ∙ wrote p (contains_first p puts) ∙ ap (λ (p : Put). node_of p.want) put);
      text = m.0.3;
      contents = λ path mode bytes in' there. let name = content_path (saved o.number) (sha1 bytes) in let job = content_is_job o.number (sha1 bytes) in
          file_stays x y name bytes (stays name (job_reserved o.number name job) (job_not_database o.number name job) (λ n. content_not_record o.number n (sha1 bytes))) (h.0.contents path mode bytes in' there);
      fits = (All-head IsStackItem o olds is).fits;
    },
    migrated_olds o.list olds puts m.1 (λ q in'. wrote q (contains_rest p q puts in')) (All-tail IsStackItem o olds is) h.1,
  )

pub migration_law : (x : Tree) (s : SystemState) (all : List Put) → StoresIn One x s → IsMigration s all → StoresIn Two (with_targets all x) s
migration_law x s all h m = record {
  system = h.system;
  managed = λ q out. wrote_no_other all [] (database_put Two m.database_mode s ∷ m.records) m.writes x q refl (neither (same_name q database) (is_target m.records q) (outer_differs q database out database_reserved)
      (no_record_target s.installed s.stack m.records m.migrated q (λ n. outer_differs q (record_file n) out (record_reserved n)))) ∙ h.managed q out;
  list = written (system_database Two s h.system h.system.fits) (ap file_bytes (wrote_more all [] (database_put Two m.database_mode s ∷ m.records) m.writes x (database_put Two m.database_mode s) (contains_first (database_put Two m.database_mode s) m.records)));
  olds = migrated_olds x (with_targets all x)
      (λ q in' a b. wrote_no_other all [] (database_put Two m.database_mode s ∷ m.records) m.writes x q refl (neither (same_name q database) (is_target m.records q) a (no_record_target s.installed s.stack m.records m.migrated q b)))
      s.installed s.stack m.records m.migrated (λ p in'. wrote_more all [] (database_put Two m.database_mode s ∷ m.records) m.writes x p (contains_rest (database_put Two m.database_mode s) p m.records in')) h.system.olds h.olds;
}

-- ---- what a rollback takes away stands

no_want : (n : Option Node) → want_of n ≡ want.Nothing → n ≡ None
no_want None e = refl
no_want (Some (node.Dir mode)) e = absurd (cc e)
no_want (Some (node.File mode bytes)) e = absurd (cc e)
no_want (Some (node.Link target)) e = absurd (cc e)

pub backs_stand : (o : StackItem) → IsStackItem o → (t : Tree) → All (λ p. fingerprint (get t p) ≡ fingerprint (get o.after p)) o.paths → All (λ (p : Put). p.want ≡ want.Nothing → get t p.path ≢ None) (backs o)
backs_stand o is t marks = All-map (λ (p : Put). p.want ≡ want.Nothing → get t p.path ≢ None) (λ (p : Name). record { path = p; want = want_of (get o.before p) }) o.paths
    (λ k d lt nothing none. is.differ k d lt (no_want (get o.before (get_or o.paths k d)) nothing
    ∙ sym (nothing_there (get o.after (get_or o.paths k d)) (sym (marks k d lt) ∙ ap fingerprint none))))
