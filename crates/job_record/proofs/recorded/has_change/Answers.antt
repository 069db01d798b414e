use Rattle.std.proofs.Common.{rules}
use Rattle.std.proofs.lemmas.Fn.{always_returns_same}
use Rattle.local_db.specs.Record.{Entry}
use Rattle.change_rel.proofs.cny-base.Keyed.{against, nowhere}
use Rattle.job_record.proofs.recorded.has_change.Goals as goal

abbrev path_of : Entry → Rattle.std.proofs.Common.List Rattle.std.proofs.Common.ℕ
path_of e = e.path

pub returns-in-Err : goal.returns-in-Err
returns-in-Err c = λ is.
    absurd (nowhere path_of c.args.changes.now c.args.path.now c.requires c.in-Err.field-0
    (c.in-Err.ensures.position (against path_of c.args.path.now) (always_returns_same _ _ _ (λ a r g k. search rules))) is.entry is.among is.at_path)
