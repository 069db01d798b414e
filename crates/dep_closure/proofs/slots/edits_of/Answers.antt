use Rattle.std.proofs.Common.{ℕ, List, cond, Some, None, Option, ap, ◌∙◌}
use Rattle.std.specs.BTreeMap.{is_at}
use Rattle.std.specs.Cmp.Lexicographic.{slice_cmp}
use Rattle.std.specs.List.{list_any}
use Rattle.std.specs.Map.{lookup}
use Rattle.std.specs.Ordering.{nat_cmp}
use Rattle.std.specs.Str.{bytes_eq}
use Rattle.trove_stream.specs.Installed.{trove_of}
use Rattle.trove_stream.specs.declared.parts.TroveParts.{TroveParts}
use Rattle.dep_closure.specs.Slots.{put_slot}
use Rattle.dep_closure.proofs.slots.edits_of.Goals as goal

pub returns : goal.returns
returns c = λ name.
    c.in_ok-put_troves.ensures.troves name
    ∙ ap (put_slot (trove_of name c.args.come.now)) (c.in_ok-take_names.ensures.names name
    ∙ ap (λ (es : List (List ℕ × Option TroveParts)). cond (list_any (bytes_eq name) c.args.gone.now) (Some None) (lookup (is_at (slice_cmp nat_cmp name)) es)) c.new-edits.ensures.empty)
