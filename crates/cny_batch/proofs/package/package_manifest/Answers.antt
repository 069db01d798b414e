use Rattle.std.proofs.Common.{◌++◌, ◌∙◌}
use Rattle.std.specs.Prelude.{codes}
use Rattle.cny_batch.specs.Manifests.{name_line, package_entries, package_manifest, requires_line, version_line}
use Rattle.cny_batch.proofs.Each.{before, from_none}
use Rattle.cny_batch.proofs.package.package_manifest.Goals as goal

pub returns : goal.returns
unfolding package_manifest
returns c =
    let n = c.args.number in
    let r = c.args.round in
    let front1 = name_line n in
    let front2 = front1 ++ (version_line r) in
    let front3 = front2 ++ (requires_line n) in
    let front4 = front3 ++ (package_entries n r) in
    from_none c.from_vec-out.result (front4 ++ codes "end\n") c.push_text.new.out (c.from_vec-out.ensures ∙ c.new.ensures.items) (before c.from_vec-out.result front4 c.push_entries.new.out (codes "end\n") c.push_text.new.out (before c.from_vec-out.result front3 c.push_requires.new.out (package_entries n r) c.push_entries.new.out (before c.from_vec-out.result front2 c.push_version.new.out (requires_line n) c.push_requires.new.out (before c.from_vec-out.result front1 c.push_name.new.out (version_line r) c.push_version.new.out c.in_ok-push_name.ensures c.in_ok-push_version.ensures) c.in_ok-push_requires.ensures) c.in_ok-push_entries.ensures) c.in_ok-push_text.ensures)
