use Rattle.cny_manifest.proofs.Owners.{user_not_text, group_not_text}
use Rattle.cny_manifest.proofs.entries.owner_named.Goals as goal

pub returns-in_default : goal.returns-in_default
returns-in_default c = user_not_text c.args.user.now c.args.group.now c.in_default.ensures.none

pub returns-in_default-text_of : goal.returns-in_default-text_of
returns-in_default-text_of c = group_not_text c.args.user.now c.args.group.now c.in_default-text_of.ensures.none
