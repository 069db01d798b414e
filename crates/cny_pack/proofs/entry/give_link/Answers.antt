use Rattle.std.proofs.Common.{List, ℕ, IsTrue, sym, subst}
use Rattle.tree_disk.specs.cny-base.Path.{is_path}
use Rattle.tree_disk.specs.cny-base.Target.{is_target}
use Rattle.cny_manifest.specs.Grammar.{IsLine}
use Rattle.cny_pack.proofs.Fitting.{link_fits, target_fits}
use Rattle.std.proofs.Common.{arith}
use Rattle.cny_pack.specs.Halts.{Never}
use Rattle.cny_pack.proofs.Stopping.{halt_line}
use Rattle.cny_pack.proofs.entry.give_link.Goals as goal

pub give_line-requires : goal.give_line-requires
give_line-requires g c = subst IsLine (sym c.in_ok-line.ensures) (link_fits c.args.path.now (subst (λ (p : List ℕ). IsTrue (is_path p)) c.text-path.ensures.value c.text-path.ensures.path))

pub give_line-requires-2 : goal.give_line-requires-2
give_line-requires-2 g c = subst IsLine (sym c.in_ok-line-2.ensures) (target_fits c.args.target.now (subst (λ (p : List ℕ). IsTrue (is_target p)) c.text-target.ensures.value c.text-target.ensures.target))

pub returns-in_err-give_line-2-clause-stops : goal.returns-in_err-give_line-2-clause-stops
returns-in_err-give_line-2-clause-stops g c =
    halt_line c.from_residual-in_err-give_line-2.result _ Never ⊥ (g.S.Sink.sink.faults c.args.out.now) (g.S.Sink.sink.faults c.give_line.new.out) (g.S.Sink.sink.faults c.give_line-2.new.out) c.from_residual-in_err-give_line-2.ensures.1 c.in_ok-give_line.ensures.later c.in_err-give_line-2.ensures.stops
