use Rattle.cny_manifest.proofs.Values.{version_read}
use Rattle.cny_manifest.proofs.head.version_field.Goals as goal

pub returns : goal.returns
returns c =
    version_read c.args.text.now c.in-Some.text.now c.read.result c.in-Some.ensures.some c.in-Some.ensures.utf8 c.read.ensures.value c.read.ensures.ok c.read.ensures.only c.read.ensures.bad.0
