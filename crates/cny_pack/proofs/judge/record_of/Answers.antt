use Rattle.std.proofs.Common.{◌≤◌, ap, subst, arith}
use Rattle.tree_disk.specs.Looks.{sees_nothing}
use Rattle.tree_disk.specs.cny-base.declared.limits.TheConstants.{CONTENT_LIMIT}
use Rattle.tree_disk.specs.declared.disk.Look.{Look}
use Rattle.tree_disk.specs.declared.disk.Look.TheVariants as look
use Rattle.tree_disk.proofs.Children.{clash}
use Rattle.cny_pack.specs.Plan.{CanStand}
use Rattle.cny_pack.proofs.Planning.{small, something}
use Rattle.std.proofs.Common.{refl}
use Rattle.cny_pack.proofs.judge.record_of.Goals as goal

pub unreachable-requires : goal.unreachable-requires
unreachable-requires c = clash (sees_nothing c.args.look.now) (ap sees_nothing c.in-Nothing.is) (something c.args.path.now c.args.look.now c.requires)

pub overflow_cast-result : goal.overflow_cast-result
overflow_cast-result c =
    let can : CanStand (record { path = c.args.path.now; look = look.File c.in-File.mode c.in-File.size }) = subst (λ (l : Look). CanStand (record { path = c.args.path.now; look = l })) c.in-File.is c.requires in
    let few : c.in-File.size ≤ CONTENT_LIMIT = small c.args.path.now c.in-File.mode c.in-File.size can in
    omega arith

pub returns-in_ok-any_owner-in-File-clause-valid : goal.returns-in_ok-any_owner-in-File-clause-valid
returns-in_ok-any_owner-in-File-clause-valid c =
    let can : CanStand (record { path = c.args.path.now; look = look.File c.in-File.mode c.in-File.size }) = subst (λ (l : Look). CanStand (record { path = c.args.path.now; look = l })) c.in-File.is c.requires in
    (omega (arith, c.bits-mode-in-File.ensures.value, c.bits-mode-in-File.ensures.within), small c.args.path.now c.in-File.mode c.in-File.size can, refl, c.in_ok-any_owner-in-File.ensures)
