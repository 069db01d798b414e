use Rattle.std.proofs.Common.{ap, sym, ◌∙◌}
use Rattle.journal_log.specs.declared.put.Put.{Put}
use Rattle.journal_log.specs.Targets.{is_dir_want}
use Rattle.journal_log.proofs.Walking.{place_decides, none_decides}
use Rattle.journal_log.proofs.rules.is_dir_at.Goals as goal

pub returns-in_default : goal.returns-in_default
returns-in_default c = none_decides c.args.puts.now c.args.path.now c.in_default.ensures.none

pub returns : goal.returns
returns c =
    let found = c.in-Some.ensures.some in
    place_decides c.args.puts.now c.args.path.now c.in-Some.place c.index-puts-place.result c.is_dir.result c.requires found.0 found.1 c.index-puts-place.is
    (c.is_dir.ensures ∙ ap (λ (p : Put). is_dir_want p.want) (sym c.index-puts-place.is))
