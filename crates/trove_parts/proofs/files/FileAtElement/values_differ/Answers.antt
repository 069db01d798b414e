use Rattle.std.proofs.Common.{[], append-nil, sym, ◌∙◌}
use Rattle.cny_stream.specs.Record.{record_bytes}
use Rattle.trove_parts.proofs.ItemFields.{path_fits}
use Rattle.cny_version.proofs.cny-base.IdFields.{same_str}
use Rattle.trove_parts.proofs.files.FileAtElement.values_differ.Goals as goal

pub returns : goal.returns
returns c one other x y x_is y_is same =
    let paths = same_str x.path y.path (record_bytes one x.rec) (record_bytes other y.rec) (path_fits x.path x_is.path) (path_fits y.path y_is.path) same in
    let recs = c.distinct_records.ensures.unique one other x.rec y.rec [] [] x_is.rec y_is.rec (append-nil (record_bytes one x.rec) ∙ paths.1 ∙ sym (append-nil (record_bytes other y.rec))) in
    let path = paths.0 in
    let rec = recs.0 in
    λ i. record { path = path i; rec = rec i }
