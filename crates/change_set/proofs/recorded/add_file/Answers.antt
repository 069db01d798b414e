use Rattle.std.proofs.Common.{Bool, ◌||◌, sym, ap, ◌∙◌}
use Rattle.trove_stream.specs.cny-stream.Record.{has_name_and_size}
use Rattle.change_set.specs.Index.{has_key}
use Rattle.change_set.proofs.Indexing.{one_more}
use Rattle.change_set.proofs.recorded.add_file.Goals as goal

pub returns-in_ok-insert : goal.returns-in_ok-insert
returns-in_ok-insert c = λ name size.
    one_more _ _ _ c.in_ok-insert.ensures.updates name size
    ∙ ap (λ (b : Bool). has_key name size c.args.keys.now || b) (sym (ap (has_name_and_size name size) c.in-File.is))
