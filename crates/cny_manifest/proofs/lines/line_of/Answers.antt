use Rattle.cny_manifest.proofs.CutLines.{line_is_long}
use Rattle.cny_manifest.proofs.lines.line_of.Goals as goal

pub returns-else-bytes-lt-LINE_ROOM : goal.returns-else-bytes-lt-LINE_ROOM
returns-else-bytes-lt-LINE_ROOM c = line_is_long c.args.bytes.now (rw c.front_of.ensures.front at c.in-None.ensures.place) c.if-bytes-lt-LINE_ROOM.false
