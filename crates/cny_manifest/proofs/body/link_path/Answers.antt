use Rattle.std.proofs.Common.{◌≡◌, None}
use Rattle.cny_manifest.specs.Body.{path_next}
use Rattle.cny_manifest.proofs.WordLines.{link_runs, link_stops}
use Rattle.cny_manifest.proofs.body.link_path.Goals as goal

pub returns-in-Ok-clause-ok : goal.returns-in-Ok-clause-ok
returns-in-Ok-clause-ok c = link_runs c.args.draft.now c.args.rest.now c.args.line.now c.args.fields.now c.args.behind.now c.in-Ok.path c.requires c.in-Ok.ensures

pub returns-in-Err-Bad-clause-err : goal.returns-in-Err-Bad-clause-err
returns-in-Err-Bad-clause-err c =
    let none : path_next c.args.draft.now c.args.fields.now ≡ None = rw c.in-Err-Bad.field-0-is at c.in-Err-Bad.ensures in
    rw c.fault_at.ensures (link_stops c.args.draft.now c.args.rest.now c.args.line.now c.args.fields.now c.args.behind.now c.requires none)
