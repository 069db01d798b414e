use Rattle.std.proofs.Common.{◌≡◌, ◌-◌, ◌^◌, min, List, length, ◌∙◌, ap, subst}
use Rattle.update_job.specs.trove-stream.declared.parts.TroveParts.{TroveParts}
use Rattle.root_edits.specs.Verify.{asked, AreAdded}
use Rattle.root_edits.proofs.Added.{lines_are}
use Rattle.root_edits.proofs.Answered.{verified_by_map}
use Rattle.root_edits.specs.Local.{records}
use Rattle.root_edits.proofs.verifying.verify.Goals as goal

pub returns-clause-mapped : goal.returns-clause-mapped
returns-clause-mapped g c map tells holds =
    let names = c.args.names.now in
    let answers = g.C.Contents.contents.answers c.args.far.now in
    let tree = g.T.TreeDisk.disk.reads c.args.root.now in
    let troves_are : c.troves-troves.result.now ≡ c.args.installed.now = c.troves-troves.ensures.value in
    let added = subst (λ (l : List TroveParts). AreAdded answers tree (records (asked names l)) c.new-lines.result.items c.verify_troves.new.lines.items) troves_are (c.in_ok-verify_troves.ensures.ends tells) in
    verified_by_map answers map (λ name found answer. g.met.C.Contents.laws.mapped c.args.far.now map name found holds answer) tree (asked names c.args.installed.now)
    (record { lines = c.new.result; paths = c.count_paths.result }) (record {
      lines = lines_are answers tree (records (asked names c.args.installed.now)) c.new-lines.result.items c.verify_troves.new.lines.items c.new.result added c.new-lines.ensures.items c.new.ensures;
      paths = c.count_paths.ensures ∙ ap (λ (l : List TroveParts). min (length (records (asked names l))) (2 ^ 64 - 1)) troves_are;
    })
