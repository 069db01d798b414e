use Rattle.cny_batch.proofs.Parts.{parts_begin}
use Rattle.cny_batch.proofs.words.separator_of.Goals as goal

pub loop-at-init : goal.loop-at-init
loop-at-init c = parts_begin c.args.text.now
