use Rattle.std.proofs.Common.{◌≡◌, false, ◌∷◌, [], ◌++◌, List, length, sym, ◌∙◌, ap, subst, arith}
use Rattle.rollback_stack.specs.journal-log.declared.put.Put.{Put}
use Rattle.rollback_stack.specs.journal-log.Targets.{is_target}
use Rattle.local_db.specs.Names.{database, record_file}
use Rattle.local_db.specs.Steps.{IsUnion, record_put}
use Rattle.local_db.proofs.Places.{database_reserved, job_not_database, record_is_job, record_reserved}
use Rattle.local_db.proofs.Systems.{free_targets}
use Rattle.system_core.specs.JobWriting.{database_write}
use Rattle.system_core.proofs.Joining.{only_one, still_apart, union_both}
use Rattle.system_core.proofs.union.all_writes.Goals as goal

pub unreachable-requires : goal.unreachable-requires
unreachable-requires c =
    let none = c.in_default.ensures.cases.0 in
    let one = ap (length {A = Put}) (c.into_vec-items.ensures.value ∙ c.requires.pushed.puts_are) in
    omega (arith, none, one)

pub returns : goal.returns
returns c =
    let r = c.requires.pushed in
    let same = only_one _ _ _ (sym (c.into_vec-items.ensures.value ∙ r.puts_are) ∙ c.in-Some.ensures.items) in
    let no_database = subst (λ (p : Put). is_target c.args.targets p.path ≡ false) (sym c.in_ok-database.ensures) (free_targets c.args.targets c.requires.free database database_reserved) in
    let inner = subst (λ (p : Put). IsUnion c.in_ok-some.some c.args.targets (p ∷ [])) c.in_ok-database.ensures (c.in_ok-some.ensures no_database) in
    let no_record = subst (λ (p : Put). is_target c.in_ok-some.some p.path ≡ false) (sym same)
    (still_apart c.in_ok-some.some c.args.targets (database_write c.args.bytes) (record_file r.number) inner
    (free_targets c.args.targets c.requires.free (record_file r.number) (record_reserved r.number))
    (job_not_database r.number (record_file r.number) (record_is_job r.number))) in
    let outer = subst (λ (p : Put). IsUnion c.in_ok-all.all c.in_ok-some.some (p ∷ [])) same (c.in_ok-all.ensures no_record) in
    subst (λ (l : List Put). IsUnion c.in_ok-all.all c.args.targets (l ++ database_write c.args.bytes ∷ [])) (sym r.puts_are)
    (union_both c.in_ok-all.all c.in_ok-some.some c.args.targets (record_put r.number r.mode r.bytes) (database_write c.args.bytes) inner outer)
