use Rattle.std.proofs.Common.{◌∙◌, ap, nat_eq}
use Rattle.std.specs.List.{starts_with}
use Rattle.local_db.specs.tree-disk.Tree.{Name}
use Rattle.past_jobs.proofs.Ranging.{starts_same}
use Rattle.past_jobs.proofs.foreign.begins_with.Goals as goal

pub returns : goal.returns
returns c =
    c.starts_with.ensures.value
    ∙ ap (λ (q : Name). starts_with nat_eq q c.as_bytes.result.now) (c.as_bytes-bytes.ensures.value ∙ c.text.ensures.value)
    ∙ ap (starts_with nat_eq c.args.path.now) (c.as_bytes.ensures.value ∙ c.text-2.ensures.value)
    ∙ starts_same c.args.front.now c.args.path.now
