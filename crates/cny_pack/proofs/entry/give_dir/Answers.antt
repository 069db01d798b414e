use Rattle.std.proofs.Common.{ℕ, List, IsTrue, subst, arith}
use Rattle.tree_disk.specs.cny-base.Path.{is_path}
use Rattle.cny_pack.proofs.Entering.{dir_given}
use Rattle.cny_pack.proofs.Fitting.{dir_fits}
use Rattle.cny_manifest.specs.Grammar.{IsLine}
use Rattle.std.proofs.Common.{sym}
use Rattle.tree_disk.specs.cny-base.Count.{Rose}
use Rattle.cny_pack.specs.Halts.{OnlyNoOwner}
use Rattle.cny_pack.proofs.Stopping.{halt_only, halt_line}
use Rattle.cny_pack.proofs.entry.give_dir.Goals as goal

pub returns-clause-given : goal.returns-clause-given
returns-clause-given g c = λ config tells t.
    let written = g.S.Sink.sink.written in
    dir_given g.O.Owners.owns config tells t c.args.path.now c.args.mode c.in_ok-owner.owner c.in_ok-line.line (written c.args.out.now) (written c.give_line.new.out)
    (subst (λ (p : List ℕ). IsTrue (is_path p)) c.text-path.ensures.value c.text-path.ensures.path) (omega (arith, c.bits-mode.ensures.value, c.bits-mode.ensures.within)) c.in_ok-owner.ensures.named c.in_ok-line.ensures c.in_ok-give_line.ensures.given

pub give_line-requires : goal.give_line-requires
give_line-requires g c =
    subst IsLine (sym c.in_ok-line.ensures) (dir_fits c.args.path.now c.args.mode c.in_ok-owner.owner (subst (λ (p : List ℕ). IsTrue (is_path p)) c.text-path.ensures.value c.text-path.ensures.path) c.in_ok-owner.ensures.named.valid)

pub returns-in_err-owner-clause-stops : goal.returns-in_err-owner-clause-stops
returns-in_err-owner-clause-stops g c =
    let only = OnlyNoOwner (g.O.Owners.lacks c.args.path.now) in
    halt_only c.from_residual.result _ only only ⊥ (Rose (g.S.Sink.sink.faults c.args.out.now) (g.S.Sink.sink.faults c.args.out.now)) c.from_residual.ensures.1 (λ why is. is) c.in_err-owner.ensures.stops

pub returns-in_err-give_line-clause-stops : goal.returns-in_err-give_line-clause-stops
returns-in_err-give_line-clause-stops g c =
    halt_line c.from_residual-in_err-give_line.result _ (OnlyNoOwner (g.O.Owners.lacks c.args.path.now)) ⊥ (g.S.Sink.sink.faults c.args.out.now) (g.S.Sink.sink.faults c.args.out.now) (g.S.Sink.sink.faults c.give_line.new.out) c.from_residual-in_err-give_line.ensures.1 (omega arith)
    c.in_err-give_line.ensures.stops
