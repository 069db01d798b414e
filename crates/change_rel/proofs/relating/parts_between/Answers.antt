use Rattle.std.proofs.Common.{subst, sym, ◌∙◌}
use Rattle.std.specs.List.Sorted.{IsStrictlySortedBy}
use Rattle.cny_dep.specs.Order.{dep_cmp}
use Rattle.trove_stream.specs.trove-parts.Order.{id_cmp}
use Rattle.trove_stream.specs.trove-parts.Files.{path_of, file_cmp}
use Rattle.trove_stream.specs.trove-parts.Paths.{path_cmp}
use Rattle.trove_stream.specs.Leads.{id_key, dep_key}
use Rattle.change_rel.proofs.Leading.{moved, leads_of}
use Rattle.change_rel.proofs.relating.parts_between.Goals as goal

pub difference-requires-clause-old : goal.difference-requires-clause-old
difference-requires-clause-old c = subst (IsStrictlySortedBy file_cmp) (sym c.files.ensures.value) c.files.ensures.trove.lists.files.rising

pub difference-requires-clause-fresh : goal.difference-requires-clause-fresh
difference-requires-clause-fresh c = subst (IsStrictlySortedBy file_cmp) (sym c.files-2.ensures.value) c.files-2.ensures.trove.lists.files.rising

pub difference-requires-2-clause-old : goal.difference-requires-2-clause-old
difference-requires-2-clause-old c = subst (IsStrictlySortedBy id_cmp) (sym c.refs.ensures.value) c.refs.ensures.trove.lists.refs.rising

pub difference-requires-2-clause-fresh : goal.difference-requires-2-clause-fresh
difference-requires-2-clause-fresh c = subst (IsStrictlySortedBy id_cmp) (sym c.refs-2.ensures.value) c.refs-2.ensures.trove.lists.refs.rising

pub difference-requires-3-clause-old : goal.difference-requires-3-clause-old
difference-requires-3-clause-old c = subst (IsStrictlySortedBy dep_cmp) (sym c.requires_.ensures.value) c.requires_.ensures.trove.lists.requires.rising

pub difference-requires-3-clause-fresh : goal.difference-requires-3-clause-fresh
difference-requires-3-clause-fresh c = subst (IsStrictlySortedBy dep_cmp) (sym c.requires_-2.ensures.value) c.requires_-2.ensures.trove.lists.requires.rising

pub difference-requires-4-clause-old : goal.difference-requires-4-clause-old
difference-requires-4-clause-old c = subst (IsStrictlySortedBy dep_cmp) (sym c.provides.ensures.value) c.provides.ensures.trove.lists.provides.rising

pub difference-requires-4-clause-fresh : goal.difference-requires-4-clause-fresh
difference-requires-4-clause-fresh c = subst (IsStrictlySortedBy dep_cmp) (sym c.provides-2.ensures.value) c.provides-2.ensures.trove.lists.provides.rising

pub returns : goal.returns
returns c =
    leads_of _ c.args.old.now c.args.fresh.now c.files.ensures.trove c.files-2.ensures.trove (sym (c.in_ok-from.ensures ∙ c.id.ensures.value)) (sym (c.in_ok-to.ensures ∙ c.id-2.ensures.value)) c.requires.one_name c.requires.two_ids
    (moved path_of path_cmp _ _ _ _ c.in_ok-files.ensures _ _ c.files.ensures.value c.files-2.ensures.value)
    (moved id_key id_cmp _ _ _ _ c.in_ok-refs.ensures _ _ c.refs.ensures.value c.refs-2.ensures.value)
    (moved dep_key dep_cmp _ _ _ _ c.in_ok-required.ensures _ _ c.requires_.ensures.value c.requires_-2.ensures.value)
    (moved dep_key dep_cmp _ _ _ _ c.in_ok-provided.ensures _ _ c.provides.ensures.value c.provides-2.ensures.value)
