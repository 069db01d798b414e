-- Which directories that are recorded no more go, from the deepest path up.
use Rattle.std.specs.Prelude.{◌≡◌, ◌&&◌, if◌then◌else◌, List, [], ◌∷◌}
use Rattle.tree_scan.specs.tree-disk.Tree.{Tree}
use Rattle.tree_scan.specs.Marks.{fingerprint_at, is_dir}
use Rattle.conflict_plan.specs.declared.drafting.Draft.{Draft}
use Rattle.conflict_plan.specs.declared.planned.Planned.{Planned}
use Rattle.conflict_plan.specs.Making.{child_remains}

-- its fingerprint is that of what stands
abbrev pub IsSeen : Tree → Draft → Type 0
IsSeen tree draft = draft.planned.was ≡ fingerprint_at tree draft.planned.path

-- with one more path in front, but for a directory below which a name remains
abbrev pub with_settled : Tree → Draft → List Planned → List Planned
with_settled tree draft plan =
    if ((draft.if_empty && is_dir draft.planned.was) && child_remains plan tree draft.planned.path) then plan else draft.planned ∷ plan

-- these in front of a plan
abbrev pub settled_on : Tree → List Draft → List Planned → List Planned
settled_on tree [] plan = plan
settled_on tree (draft ∷ drafts) plan = with_settled tree draft (settled_on tree drafts plan)

-- (The names below a path come behind it in the order.)
abbrev pub settled : Tree → List Draft → List Planned
settled tree drafts = settled_on tree drafts []
