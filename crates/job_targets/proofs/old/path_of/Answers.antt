use Rattle.std.proofs.Common.{ap, ◌∙◌, Err}
use Rattle.content_store.proofs.Paths.{content_is_path}
use Rattle.job_targets.proofs.old.path_of.Goals as goal

pub unreachable-requires : goal.unreachable-requires
unreachable-requires c =
    let is = content_is_path c.args.dir.now c.args.name.now (rw c.text-text.ensures.value at c.text-text.ensures.path) c.requires c.told-name c.fits-name in
    let digits = c.as_str.ensures.value ∙ c.in_ok-digits.ensures in
    absurd (cc (is, digits, c.in-Err-Bad.ensures.bad.0 (ap Err c.in-Err-Bad.field-0-is)))
