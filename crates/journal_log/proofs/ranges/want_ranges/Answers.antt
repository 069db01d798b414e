use Rattle.std.proofs.Common.{[], refl, ap, sym, ◌∙◌, arith}
use Rattle.std.specs.List.{list_all}
use Rattle.tree_disk.specs.cny-base.Target.{is_target}
use Rattle.journal_log.specs.declared.put.Want.{Want}
use Rattle.journal_log.specs.Targets.{node_of}
use Rattle.tree_disk.specs.Tree.{is_byte, may_stand}
use Rattle.tree_disk.specs.Nodes.{is_node-Dir}
use Rattle.tree_disk.proofs.Nodes.{is_node-File, is_node-Link}
use Rattle.journal_log.proofs.ranges.want_ranges.Goals as goal

pub returns-in-Nothing : goal.returns-in-Nothing
returns-in-Nothing c = ap (λ (w : Want). may_stand (node_of w)) c.in-Nothing.is

pub returns-in-Dir : goal.returns-in-Dir
returns-in-Dir c = ap (λ (w : Want). may_stand (node_of w)) c.in-Dir.is ∙ is_node-Dir c.in-Dir.mode (omega (arith, c.bits-bits.ensures.value, c.bits-bits.ensures.within))

pub returns-in-File : goal.returns-in-File
returns-in-File c =
    ap (λ (w : Want). may_stand (node_of w)) c.in-File.is
    ∙ is_node-File c.in-File.mode c.in-File.bytes (omega (arith, c.bits-bits-in-File.ensures.value, c.bits-bits-in-File.ensures.within))
    (ap (list_all is_byte) (sym c.get.ensures) ∙ c.byte_ranges.ensures)

pub returns-in-Link : goal.returns-in-Link
returns-in-Link c = ap (λ (w : Want). may_stand (node_of w)) c.in-Link.is ∙ is_node-Link c.in-Link.target (ap is_target (sym c.text-text.ensures.value) ∙ c.text-text.ensures.target)

pub returns-in-Staged : goal.returns-in-Staged
returns-in-Staged c =
    ap (λ (w : Want). may_stand (node_of w)) c.in-Staged.is
    ∙ is_node-File c.in-Staged.mode [] (omega (arith, c.bits-bits-in-Staged.ensures.value, c.bits-bits-in-Staged.ensures.within)) refl
