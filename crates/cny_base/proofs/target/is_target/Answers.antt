use Rattle.std.proofs.Common.{◌∙◌}
use Rattle.cny_base.proofs.Utf8.{with_utf8}
use Rattle.cny_base.proofs.target.is_target.Goals as goal

pub returns : goal.returns
returns c = rw c.as_bytes.ensures.value at (c.has_target_form.ensures ∙ with_utf8 _ c.as_bytes.result.now c.as_bytes.ensures.utf8)
