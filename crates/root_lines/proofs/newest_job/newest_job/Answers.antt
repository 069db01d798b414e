use Rattle.std.proofs.Common.{◌≡◌, ◌≤◌, ◌⊎◌, ⊎_elim, ℕ, false, All, ap, sym, ◌∙◌, subst, arith}
use Rattle.std.specs.Prelude.{◌≢◌}
use Rattle.std.specs.List.Sorted.{IsStrictlySortedBy}
use Rattle.job_targets.specs.declared.entry.Entry.{Entry}
use Rattle.job_targets.specs.Old.{is_staged}
use Rattle.local_db.specs.Formats.{AreEnds}
use Rattle.local_db.specs.Installed.{IsInstalled}
use Rattle.local_db.specs.Record as state
use Rattle.rollback_stack.specs.Entries as spec
use Rattle.root_lines.proofs.newest_job.newest_job.Goals as goal

one_at_least : (oldest newest : ℕ) → AreEnds oldest newest → newest ≢ 0 → 1 ≤ newest
one_at_least oldest newest ends some = ⊎_elim (λ none. absurd (some none.1)) (λ job. omega (arith, job.0, job.1)) ends

pub names_of-requires-clause-before : goal.names_of-requires-clause-before
names_of-requires-clause-before c = subst IsInstalled (sym c.in_ok-before.ensures) c.in_ok-job.ensures.job.checks.list

pub names_of-requires-clause-after : goal.names_of-requires-clause-after
names_of-requires-clause-after c = c.requires.installed

pub returns-clause-number : goal.returns-clause-number
returns-clause-number c = one_at_least c.args.db.now.oldest c.args.db.now.newest c.requires.ends c.if-db-eq0.false

pub returns-clause-entries : goal.returns-clause-entries
returns-clause-entries c =
    let is = c.in_ok-job.ensures.job in
    let made = c.new-entries.ensures in
    let same : spec.entries_of c.new-entries.result ≡ c.in_ok-job.job.changes.items = ap spec.entries_of made ∙ c.in_ok-entries.ensures.entries in
    record {
      given = subst (All (λ (e : Entry). is_staged e.was ≡ false)) (sym made) c.in_ok-entries.ensures.given;
      entries_are = subst (All state.IsEntry) (sym same) is.entries_are;
      rising = subst (IsStrictlySortedBy state.entry_cmp) (sym same) is.rising;
    }
