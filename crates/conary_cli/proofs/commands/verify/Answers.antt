use Rattle.std.proofs.Common.{Bool, true, false, [], not, sym, ap, subst, ◌∙◌}
use Rattle.std.proofs.lemmas.Bool.{false≢true}
use Rattle.root_commands.specs.cli-call.Alone.{AnswersByContents, AnswersByTree, PerformsAlone}
use Rattle.root_commands.specs.cli-call.Command.{disks, Performs}
use Rattle.conary_cli.specs.Commands.{verify}
use Rattle.root_commands.proofs.cli-call.StoreLaws.{nothing_done}
use Rattle.conary_cli.proofs.commands.verify.Goals as goal

pub returns-then-full-clause-performs : goal.returns-then-full-clause-performs
returns-then-full-clause-performs g c = λ input.
    let old = disks c.args.root.now c.args.repo.now c.args.opened.now in
    let new = disks c.verify_fully.new.root c.verify_fully.new.repo c.args.opened.now in
    subst (λ (full : Bool). Performs g.T.TreeDisk.disk g.P.TreeDisk.disk (verify full c.args.names.now) input old new c.verify_fully.result) (sym c.if-full.true) (c.verify_fully.ensures.performs input)

pub returns-then-full-clause-alone : goal.returns-then-full-clause-alone
returns-then-full-clause-alone g c = λ is. absurd (false≢true (ap not (sym c.if-full.true) ∙ is))

pub returns-clause-performs : goal.returns-clause-performs
returns-clause-performs g c = λ input.
    let old = disks c.args.root.now c.args.repo.now c.args.opened.now in
    let new = disks c.verify_installed.new.root c.args.repo.now c.args.opened.now in
    subst (λ (full : Bool). Performs g.T.TreeDisk.disk g.P.TreeDisk.disk (verify full c.args.names.now) input old new c.verify_installed.result) (sym c.if-full.false) (c.verify_installed.ensures.performs input)

pub returns-clause-alone : goal.returns-clause-alone
returns-clause-alone g c = λ is input.
    let old = disks c.args.root.now c.args.repo.now c.args.opened.now in
    let new = disks c.verify_installed.new.root c.args.repo.now c.args.opened.now in
    subst (λ (full : Bool). PerformsAlone g.T.TreeDisk.disk g.P.TreeDisk.disk (verify full c.args.names.now) input old new c.verify_installed.result) (sym c.if-full.false) (c.verify_installed.ensures.alone input)

pub returns-then-full-clause-tree : goal.returns-then-full-clause-tree
returns-then-full-clause-tree g c = λ is. absurd (false≢true (ap not (sym c.if-full.true) ∙ is))

pub returns-clause-tree : goal.returns-clause-tree
returns-clause-tree g c = λ is input.
    let old = disks c.args.root.now c.args.repo.now c.args.opened.now in
    let new = disks c.verify_installed.new.root c.args.repo.now c.args.opened.now in
    subst (λ (full : Bool). AnswersByTree g.T.TreeDisk.disk g.P.TreeDisk.disk (verify full c.args.names.now) input old new c.verify_installed.result) (sym c.if-full.false) (c.verify_installed.ensures.tree input)

pub returns-then-full-clause-root_read : goal.returns-then-full-clause-root_read
returns-then-full-clause-root_read g c = c.verify_fully.ensures.root_read

pub returns-then-full-clause-repo_read : goal.returns-then-full-clause-repo_read
returns-then-full-clause-repo_read g c = c.verify_fully.ensures.repo_read

pub returns-clause-root_read : goal.returns-clause-root_read
returns-clause-root_read g c = (c.verify_installed.ensures.tree []).root

pub returns-clause-repo_read : goal.returns-clause-repo_read
returns-clause-repo_read g c = λ told. nothing_done g.met.P.TreeDisk.laws c.args.repo.now

pub returns-then-full-clause-whole : goal.returns-then-full-clause-whole
returns-then-full-clause-whole g c = λ is input.
    let old = disks c.args.root.now c.args.repo.now c.args.opened.now in
    let new = disks c.verify_fully.new.root c.verify_fully.new.repo c.args.opened.now in
    subst (λ (full : Bool). AnswersByContents g.T.TreeDisk.disk g.P.TreeDisk.disk (verify full c.args.names.now) input old new c.verify_fully.result) (sym c.if-full.true) (c.verify_fully.ensures.whole input)

pub returns-clause-whole : goal.returns-clause-whole
returns-clause-whole g c = λ is. absurd (false≢true (sym c.if-full.false ∙ is))
