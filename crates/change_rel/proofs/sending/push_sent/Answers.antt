use Rattle.std.proofs.Common.{ap}
use Rattle.change_rel.specs.Sending.{content_of}
use Rattle.change_rel.proofs.Sent.{on_ok, file_sent}
use Rattle.change_rel.proofs.sending.push_sent.Goals as goal

pub returns-in-File : goal.returns-in-File
returns-in-File c =
    on_ok c.push_unrecorded.result _ _
    (file_sent c.args.old.now c.args.names.now.items c.push_unrecorded.new.names.items c.args.file.now c.in-File.size c.in-File.name (ap content_of c.in-File.is)) c.push_unrecorded.ensures
