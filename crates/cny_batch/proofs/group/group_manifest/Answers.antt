use Rattle.std.proofs.Common.{◌++◌, ◌∙◌}
use Rattle.std.specs.Prelude.{codes}
use Rattle.cny_batch.specs.Manifests.{all_refs, group_manifest, version_line}
use Rattle.cny_batch.proofs.Each.{before, from_none}
use Rattle.cny_batch.proofs.group.group_manifest.Goals as goal

pub returns : goal.returns
unfolding group_manifest
returns c =
    let packages = c.args.packages in
    let round = c.args.round in
    let front1 = codes "manifest 1\ngroup group-demo\n" in
    let front2 = front1 ++ (version_line round) in
    let front3 = front2 ++ (all_refs packages round) in
    from_none c.from_vec-out.result (front3 ++ codes "end\n") c.push_text-2.new.out (c.from_vec-out.ensures ∙ c.new.ensures.items) (before c.from_vec-out.result front3 c.push_refs.new.out (codes "end\n") c.push_text-2.new.out (before c.from_vec-out.result front2 c.push_version.new.out (all_refs packages round) c.push_refs.new.out (before c.from_vec-out.result front1 c.push_text.new.out (version_line round) c.push_version.new.out c.in_ok-push_text.ensures c.in_ok-push_version.ensures) c.in_ok-push_refs.ensures) c.in_ok-push_text-2.ensures)
