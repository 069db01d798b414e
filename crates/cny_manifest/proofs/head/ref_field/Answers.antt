use Rattle.cny_manifest.proofs.Values.{ref_read}
use Rattle.cny_manifest.proofs.head.ref_field.Goals as goal

pub returns : goal.returns
returns c =
    ref_read c.args.text.now c.in-Some.text.now c.read_id.result c.in-Some.ensures.some c.in-Some.ensures.utf8 c.read_id.ensures.value c.read_id.ensures.ok c.read_id.ensures.bad c.read_id.ensures.only
