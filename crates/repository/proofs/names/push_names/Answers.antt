use Rattle.std.proofs.Common.{ℕ, List, ◌++◌, ap, ◌∙◌}
use Rattle.repository.specs.Between.{old_files}
use Rattle.repository.proofs.Gathered.{appended}
use Rattle.repository.proofs.names.push_names.Goals as goal

pub returns : goal.returns
returns c =
    appended c.args.names.now.items c.push_all.new.names.items c.in_ok-sent.sent (old_files c.args.old.now c.args.fresh.now) c.args.fresh.now.files (c.in_ok-push_all.ensures ∙ ap (λ (l : List (List ℕ)). c.args.names.now.items ++ l) c.get.ensures) c.in_ok-sent.ensures
