use Rattle.std.proofs.Common.{rules}
use Rattle.std.proofs.lemmas.Bool.{false≢true}
use Rattle.std.proofs.lemmas.Fn.{always_returns_same}
use Rattle.change_rel.proofs.Sent.{against, found, missed}
use Rattle.change_rel.proofs.sending.is_recorded.Goals as goal

pub returns-in-Ok : goal.returns-in-Ok
returns-in-Ok c =
    found c.args.files.now c.args.path.now c.args.size c.args.name.now c.requires c.in-Ok.place c.index-files-place.result c.in-Ok.ensures.bound c.index-files-place.is
    (c.in-Ok.ensures.position (against c.args.path.now) (always_returns_same _ _ _ (λ a r g k. search rules))) c.has_content.result c.has_content.ensures

pub returns-in-Err : goal.returns-in-Err
returns-in-Err c = (
  (λ t. absurd (false≢true t)),
  (λ h. absurd (missed c.args.files.now c.args.path.now c.args.size c.args.name.now c.requires c.in-Err.field-0
      (c.in-Err.ensures.position (against c.args.path.now) (always_returns_same _ _ _ (λ a r g k. search rules))) h)),
)
