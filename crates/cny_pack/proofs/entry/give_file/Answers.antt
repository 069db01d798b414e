use Rattle.cny_pack.proofs.Entering.{file_given, content_from}
use Rattle.std.proofs.Common.{sym, subst}
use Rattle.cny_manifest.specs.Grammar.{IsLine}
use Rattle.cny_pack.specs.Entries.{flags_at}
use Rattle.cny_pack.proofs.Fitting.{file_fits}
use Rattle.std.proofs.Common.{IsTrue, refl, arith}
use Rattle.tree_disk.specs.cny-base.Count.{Rose}
use Rattle.tree_disk.specs.Tree.{Tree}
use Rattle.tree_disk.specs.declared.disk.Look.TheVariants as look
use Rattle.cny_pack.specs.Causes.{CannotEnter}
use Rattle.cny_pack.specs.Entries.{IsFileOf}
use Rattle.cny_pack.specs.Halts.{OnlyChanged, OnlyNoOwner}
use Rattle.cny_pack.proofs.Stopping.{changed_enters, owner_enters, halt_later, halt_disk, halt_only, halt_line}
use Rattle.cny_pack.proofs.entry.give_file.Goals as goal

pub returns-clause-given : goal.returns-clause-given
returns-clause-given g c =
    let written = g.S.Sink.sink.written in
    let reads = g.D.TreeDisk.disk.reads in
    let tells = g.D.TreeDisk.disk.tells in
    file_given g.O.Owners.owns c.args.config.now tells (reads c.args.disk.now) c.args.path.now c.args.mode c.args.size c.in_ok-line.line (written c.args.out.now) (written c.give_line.new.out) (written c.give_bytes.new.out) c.requires.small c.in_ok-line.ensures.line
    c.in_ok-give_line.ensures.given
    (content_from tells (reads c.check_file.new.disk) (reads c.args.disk.now) c.args.path.now c.args.size (written c.give_line.new.out) (written c.give_bytes.new.out) c.in_ok-check_file.ensures.same c.in_ok-give_bytes.ensures.given)

pub give_line-requires : goal.give_line-requires
give_line-requires g c =
    let head = c.in_ok-line.ensures.line in
    subst IsLine (sym head.spelled) (file_fits c.args.path.now c.args.mode c.args.size head.owner (flags_at c.args.config.now c.args.path.now) head.path_is head.named.valid c.requires.small)

pub give_bytes-requires-clause-file : goal.give_bytes-requires-clause-file
give_bytes-requires-clause-file g c told = subst (λ (t : Tree). IsFileOf t c.args.path.now c.args.size) (sym (c.in_ok-check_file.ensures.same told)) (c.requires.file told)

pub returns-in_err-check_file-clause-stops : goal.returns-in_err-check_file-clause-stops
returns-in_err-check_file-clause-stops g c =
    halt_disk c.from_residual.result _ (OnlyChanged (IsTrue g.D.TreeDisk.disk.tells → ⊥)) (CannotEnter g.O.Owners.lacks g.D.TreeDisk.disk.tells c.args.path.now (look.File c.args.mode c.args.size)) (Rose (g.D.TreeDisk.disk.faults c.args.disk.now) (g.D.TreeDisk.disk.faults c.check_file.new.disk)) (Rose (g.S.Sink.sink.faults c.args.out.now) (g.S.Sink.sink.faults c.args.out.now)) c.from_residual.ensures.1
    (changed_enters g.O.Owners.lacks g.D.TreeDisk.disk.tells c.args.path.now (look.File c.args.mode c.args.size)) c.in_err-check_file.ensures.stops

pub returns-in_err-line-clause-stops : goal.returns-in_err-line-clause-stops
returns-in_err-line-clause-stops g c =
    halt_only c.from_residual-in_err-line.result _ (OnlyNoOwner (g.O.Owners.lacks c.args.path.now)) (CannotEnter g.O.Owners.lacks g.D.TreeDisk.disk.tells c.args.path.now (look.File c.args.mode c.args.size)) (Rose (g.D.TreeDisk.disk.faults c.args.disk.now) (g.D.TreeDisk.disk.faults c.check_file.new.disk)) (Rose (g.S.Sink.sink.faults c.args.out.now) (g.S.Sink.sink.faults c.args.out.now)) c.from_residual-in_err-line.ensures.1
    (λ why is. owner_enters g.O.Owners.lacks g.D.TreeDisk.disk.tells c.args.path.now (look.File c.args.mode c.args.size) why refl is) c.in_err-line.ensures.stops

pub returns-in_err-give_line-clause-stops : goal.returns-in_err-give_line-clause-stops
returns-in_err-give_line-clause-stops g c =
    halt_line c.from_residual-in_err-give_line.result _ (CannotEnter g.O.Owners.lacks g.D.TreeDisk.disk.tells c.args.path.now (look.File c.args.mode c.args.size)) (Rose (g.D.TreeDisk.disk.faults c.args.disk.now) (g.D.TreeDisk.disk.faults c.check_file.new.disk)) (g.S.Sink.sink.faults c.args.out.now) (g.S.Sink.sink.faults c.args.out.now) (g.S.Sink.sink.faults c.give_line.new.out) c.from_residual-in_err-give_line.ensures.1 (omega arith)
    c.in_err-give_line.ensures.stops

pub returns-in_err-give_bytes-clause-stops : goal.returns-in_err-give_bytes-clause-stops
returns-in_err-give_bytes-clause-stops g c =
    halt_later c.from_residual-in_err-give_bytes.result _ (OnlyChanged (IsTrue g.D.TreeDisk.disk.tells → ⊥)) (CannotEnter g.O.Owners.lacks g.D.TreeDisk.disk.tells c.args.path.now (look.File c.args.mode c.args.size)) (g.D.TreeDisk.disk.faults c.args.disk.now) (g.D.TreeDisk.disk.faults c.check_file.new.disk) (g.D.TreeDisk.disk.faults c.give_bytes.new.disk) (g.S.Sink.sink.faults c.args.out.now) (g.S.Sink.sink.faults c.give_line.new.out)
    (g.S.Sink.sink.faults c.give_bytes.new.out) c.from_residual-in_err-give_bytes.ensures.1 c.in_ok-check_file.ensures.later c.in_ok-give_line.ensures.later (changed_enters g.O.Owners.lacks g.D.TreeDisk.disk.tells c.args.path.now (look.File c.args.mode c.args.size))
    c.in_err-give_bytes.ensures.stops
