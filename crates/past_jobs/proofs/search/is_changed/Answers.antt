use Rattle.std.proofs.Common.{refl, ◌∙◌, ap}
use Rattle.local_db.proofs.journal-log.Searching.{is_found}
use Rattle.local_db.specs.Record.{Entry}
use Rattle.past_jobs.specs.Marks.{is_path_of}
use Rattle.past_jobs.proofs.search.is_changed.Goals as goal

pub returns : goal.returns
returns c =
    is_found (λ (e : Entry). e.path) is_path_of (λ path. refl) (λ e es path. refl) c.args.changes.now c.text.result.now c.place_of.result c.is_some.result c.place_of.ensures.some c.place_of.ensures.none c.is_some.ensures
    ∙ ap (is_path_of c.args.changes.now) c.text.ensures.value
