use Rattle.std.proofs.Common.{◌++◌, [], ◌∷◌, ap, ◌∙◌}
use Rattle.change_set.specs.trove-stream.declared.parts.TroveParts.{TroveParts}
use Rattle.change_set.specs.trove-stream.FilesOf.{files_of}
use Rattle.repo_mirror.proofs.Lengthening.{summed_more}
use Rattle.repo_mirror.proofs.sent.Sent.push.Goals as goal

pub returns-clause-summed : goal.returns-clause-summed
returns-clause-summed c =
    let troves = c.args.self.now.troves.items in
    let both = summed_more troves c.push.new.self.items c.args.trove.now c.files.result.now c.add_contents.new.names c.args.self.now.size c.in_ok-item.item c.in_ok-contents.contents
    c.in_ok-sum_of.field-0 c.in_ok-self.field-0
    (c.in_ok-push.ensures.items ∙ ap (λ (t : TroveParts). troves ++ t ∷ []) c.in_ok-copy.ensures) c.files.ensures.value c.requires.size c.in_ok-item.ensures
    (c.in_ok-contents.ensures.length (files_of troves) c.requires.names) c.in_ok-sum_of.ensures c.in_ok-self.ensures (c.in_ok-contents.ensures.names (files_of troves) c.requires.names) in
    record { names = both.0; size = both.1 }
