-- What several rollbacks at once are about to write.
use Rattle.std.proofs.Common.{◌≡◌, ◌⊎◌, inl, inr, ⊎_elim, ℕ, zero, suc, ◌-◌, true, false, List, [], ◌∷◌, length, get_or, Some, All, Contains, sym, ◌∙◌, ap, subst}
use Rattle.std.proofs.lemmas.Bool.{cases_Bool}
use Rattle.std.proofs.lemmas.List.Elements.{All-cons, All-contains, All-head, All-nil, Contains-get_or}
use Rattle.rollback_stack.specs.cny-base.Reserved.{is_reserved}
use Rattle.rollback_stack.specs.journal-log.declared.put.Put.{Put}
use Rattle.rollback_stack.specs.journal-log.Targets.{is_target}
use Rattle.rollback_stack.proofs.tree-disk.Laws.{same_itself}
use Rattle.rollback_stack.specs.tree-disk.Tree.{Name, Tree, same_name}
use Rattle.local_db.specs.declared.db.Db.{Db}
use Rattle.local_db.specs.Names.{database, record_file}
use Rattle.local_db.specs.Steps.{IsUnion, no_record_put}
use Rattle.local_db.proofs.Places.{database_reserved, job_not_database, record_is_job}
use Rattle.local_db.proofs.Writes.{not_both}
use Rattle.rollback_stack.specs.past-jobs.Jobs.{oldest_with, undone_all}
use Rattle.rollback_stack.specs.past-jobs.Marks.{marks_of}
use Rattle.rollback_stack.specs.declared.undo.Back.{Back}
use Rattle.rollback_stack.specs.Inverse.{IsBackTo, IsOldWant, no_records}
use Rattle.system_core.specs.Inserting.{HasBytes, put_of_db}
use Rattle.system_core.specs.Several.{IsStepTo}
use Rattle.system_core.proofs.PuttingAll.{told_in}
use Rattle.tree_journal.proofs.WriteSets.{target_at}
use Rattle.local_db.proofs.cny-base.Lists.{contains_cases, contains_first, contains_rest, nothing_in}

not_record : (n : ℕ) → database ≡ record_file n → ⊥
not_record n is = not_both (same_name (record_file n) database) (subst (λ (q : Name). same_name q database ≡ true) is (same_itself database)) (job_not_database n (record_file n) (record_is_job n))

records_apart : (count n : ℕ) → All (λ (p : Put). database ≡ p.path → ⊥) (no_records count n)
records_apart zero n = All-nil (λ (p : Put). database ≡ p.path → ⊥)
records_apart (suc count) n = All-cons (λ (p : Put). database ≡ p.path → ⊥) (no_record_put n) (no_records count (n - 1)) (not_record n) (records_apart count (n - 1))

-- none of the other writes is at the database's path
pub no_database_to : (x : Tree) (db : Db) (number : ℕ) (back : Back) → IsBackTo x db number back → is_target back.puts database ≡ false
no_database_to x db number back is = ⊎_elim (λ hit. absurd (never hit)) (λ out. out) (cases_Bool (is_target back.puts database))
  where
    by_node : (p : Put) → database ≡ p.path → Contains is.nodes p → ⊥
    by_node p here among =
        let named = All-contains (λ (p : Put). (k : ℕ) × (oldest_with db.newest is.jobs p.path ≡ Some k) × IsOldWant x k (undone_all is.jobs (marks_of x) p.path) p.want) is.nodes p is.nodes_are.old among in
        let told = told_in x db.newest db.installed is.before is.jobs p.path named.0 is.jobs_are.holds named.1 in
        not_both (is_reserved database) database_reserved (ap is_reserved here ∙ told.free.not_reserved)

    never : is_target back.puts database ≡ true → ⊥
    never hit = let p = target_at back.puts database hit in ⊎_elim
        (λ among. by_node p.0 p.2 among)
        (λ among. All-contains (λ (p : Put). database ≡ p.path → ⊥) (no_records (length is.jobs) db.newest) p.0 (records_apart (length is.jobs) db.newest) among p.2)
        (All-contains (λ (p : Put). Contains is.nodes p ⊎ Contains (no_records (length is.jobs) db.newest) p) back.puts p.0 is.writes.no_other p.1)

module _ (all puts nodes records : List Put) (q : Put) (first : IsUnion puts nodes records) (then : IsUnion all puts (q ∷ [])) where
  in_all : (p : Put) → Contains puts p → Contains all p
  in_all p among = All-contains (Contains all) puts p then.some_in among

  is_other : (p : Put) → Contains all p → Contains nodes p ⊎ Contains (q ∷ records) p
  is_other p among = ⊎_elim
      (λ a. ⊎_elim
      (λ node. inl node)
      (λ b. inr (contains_rest q p records b))
      (All-contains (λ (p : Put). Contains nodes p ⊎ Contains records p) puts p first.no_other a))
      (λ b. ⊎_elim (λ one. inr (subst (Contains (q ∷ records)) one (contains_first q records))) (λ none. absurd (nothing_in p none)) (contains_cases q p [] b))
      (All-contains (λ (p : Put). Contains puts p ⊎ Contains (q ∷ []) p) all p then.no_other among)

  pub union_with_one : IsUnion all nodes (q ∷ records)
  union_with_one = record {
    rises = then.rises;
    some_in = λ k d lt. in_all (get_or nodes k d) (All-contains (Contains puts) nodes (get_or nodes k d) first.some_in (Contains-get_or nodes k d lt));
    more_in = All-cons (Contains all) q records (All-head (Contains all) q [] then.more_in)
        (λ k d lt. in_all (get_or records k d) (All-contains (Contains puts) records (get_or records k d) first.more_in (Contains-get_or records k d lt)));
    no_other = λ k d lt. is_other (get_or all k d) (Contains-get_or all k d lt);
  }

pub step_to_is : (x : Tree) (db : Db) (number : ℕ) (back : Back) (put : Put) (all : List Put) (step : Back) → IsBackTo x db number back → put ≡ put_of_db back.db → HasBytes back.db
    → (is_target back.puts put.path ≡ false → IsUnion all back.puts (put ∷ [])) → step ≡ record { puts = all; db = back.db } → IsStepTo x db number step
step_to_is x db number back put all step is put_is bytes union same =
    let none : is_target back.puts put.path ≡ false = ap (λ (p : Put). is_target back.puts p.path) put_is ∙ no_database_to x db number back is in
    subst (IsStepTo x db number) (sym same) (record {
      jobs = is.jobs;
      before = is.before;
      nodes = is.nodes;
      jobs_are = is.jobs_are;
      nodes_are = is.nodes_are;
      db_is = is.db_is;
      writes = union_with_one all back.puts is.nodes (no_records (length is.jobs) db.newest) (put_of_db back.db) is.writes (subst (λ (p : Put). IsUnion all back.puts (p ∷ [])) put_is (union none));
      bytes = bytes;
    })
