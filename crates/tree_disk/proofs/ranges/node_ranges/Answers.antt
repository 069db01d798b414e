use Rattle.std.proofs.Common.{ap, sym, ◌∙◌, arith}
use Rattle.std.specs.List.{list_all}
use Rattle.cny_base.specs.Target.{is_target}
use Rattle.tree_disk.specs.Tree.{is_byte, is_node}
use Rattle.tree_disk.specs.Nodes.{is_node-Dir}
use Rattle.tree_disk.proofs.Nodes.{is_node-File, is_node-Link}
use Rattle.tree_disk.proofs.ranges.node_ranges.Goals as goal

pub returns-in-Dir : goal.returns-in-Dir
returns-in-Dir c = ap is_node c.in-Dir.is ∙ is_node-Dir c.in-Dir.mode (omega (arith, c.bits-bits.ensures.value, c.bits-bits.ensures.within))

pub returns-in-File : goal.returns-in-File
returns-in-File c =
    ap is_node c.in-File.is
    ∙ is_node-File c.in-File.mode c.in-File.bytes (omega (arith, c.bits-bits-in-File.ensures.value, c.bits-bits-in-File.ensures.within))
    (ap (list_all is_byte) (sym c.get.ensures) ∙ c.byte_ranges.ensures)

pub returns-in-Link : goal.returns-in-Link
returns-in-Link c = ap is_node c.in-Link.is ∙ is_node-Link c.in-Link.target (ap is_target (sym c.text-text.ensures.value) ∙ c.text-text.ensures.target)
