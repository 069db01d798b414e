use Rattle.change_set.proofs.Written.{content_room}
use Rattle.change_set.proofs.writing.put_contents.Goals as goal

pub put_content-requires : goal.put_content-requires
put_content-requires c = content_room c.args.contents.now c.loop-content.content-index c.content-item.result c.requires c.loop-content-test.true c.content-item.is
