use Rattle.std.proofs.Common.{◌++◌}
use Rattle.std.specs.Prelude.{codes}
use Rattle.cny_batch.specs.Manifests.{config_entry, documents, header_entry, library_entry, own_dir, package_entries, program_entry}
use Rattle.cny_batch.proofs.Each.{before, if_ok}
use Rattle.cny_batch.proofs.package.push_entries.Goals as goal

pub returns : goal.returns
unfolding package_entries
returns c =
    let n = c.args.number in
    let r = c.args.round in
    let front1 = codes "dir 0755 /etc\n" in
    let front2 = front1 ++ (config_entry n r) in
    let front3 = front2 ++ (codes "dir 0755 /usr\ndir 0755 /usr/bin\n") in
    let front4 = front3 ++ (program_entry n r) in
    let front5 = front4 ++ (codes "dir 0755 /usr/include\n") in
    let front6 = front5 ++ (header_entry n) in
    let front7 = front6 ++ (codes "dir 0755 /usr/lib\n") in
    let front8 = front7 ++ (library_entry n) in
    let front9 = front8 ++ (codes "dir 0755 /usr/share\ndir 0755 /usr/share/doc\n") in
    let front10 = front9 ++ (own_dir n) in
    if_ok c.push_documents.result (λ last. before c.args.out.now front10 c.push_own_dir.new.out (documents n) c.push_documents.new.out (before c.args.out.now front9 c.push_text-5.new.out (own_dir n) c.push_own_dir.new.out (before c.args.out.now front8 c.push_library.new.out (codes "dir 0755 /usr/share\ndir 0755 /usr/share/doc\n") c.push_text-5.new.out (before c.args.out.now front7 c.push_text-4.new.out (library_entry n) c.push_library.new.out (before c.args.out.now front6 c.push_header.new.out (codes "dir 0755 /usr/lib\n") c.push_text-4.new.out (before c.args.out.now front5 c.push_text-3.new.out (header_entry n) c.push_header.new.out (before c.args.out.now front4 c.push_program.new.out (codes "dir 0755 /usr/include\n") c.push_text-3.new.out (before c.args.out.now front3 c.push_text-2.new.out (program_entry n r) c.push_program.new.out (before c.args.out.now front2 c.push_config.new.out (codes "dir 0755 /usr\ndir 0755 /usr/bin\n") c.push_text-2.new.out (before c.args.out.now front1 c.push_text.new.out (config_entry n r) c.push_config.new.out c.in_ok-push_text.ensures c.in_ok-push_config.ensures) c.in_ok-push_text-2.ensures) c.in_ok-push_program.ensures) c.in_ok-push_text-3.ensures) c.in_ok-push_header.ensures) c.in_ok-push_text-4.ensures) c.in_ok-push_library.ensures) c.in_ok-push_text-5.ensures) c.in_ok-push_own_dir.ensures) last) c.push_documents.ensures
