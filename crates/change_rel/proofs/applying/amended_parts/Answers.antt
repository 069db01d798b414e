use Rattle.std.proofs.Common.{subst, sym}
use Rattle.std.specs.List.Sorted.{IsStrictlySortedBy}
use Rattle.cny_dep.specs.Order.{dep_cmp}
use Rattle.trove_stream.specs.trove-parts.Order.{id_cmp}
use Rattle.trove_stream.specs.trove-parts.Files.{file_cmp}
use Rattle.change_rel.proofs.applying.amended_parts.Goals as goal

pub amended-requires-clause-old : goal.amended-requires-clause-old
amended-requires-clause-old c = subst (IsStrictlySortedBy file_cmp) (sym c.files.ensures.value) c.files.ensures.trove.lists.files.rising

pub amended-requires-clause-set : goal.amended-requires-clause-set
amended-requires-clause-set c = subst (IsStrictlySortedBy file_cmp) (sym c.get-2.ensures) c.requires.parts.files_set.rising

pub amended-requires-2-clause-old : goal.amended-requires-2-clause-old
amended-requires-2-clause-old c = subst (IsStrictlySortedBy id_cmp) (sym c.refs.ensures.value) c.refs.ensures.trove.lists.refs.rising

pub amended-requires-2-clause-set : goal.amended-requires-2-clause-set
amended-requires-2-clause-set c = subst (IsStrictlySortedBy id_cmp) (sym c.get-4.ensures) c.requires.parts.refs_added.rising

pub amended-requires-3-clause-old : goal.amended-requires-3-clause-old
amended-requires-3-clause-old c = subst (IsStrictlySortedBy dep_cmp) (sym c.requires_.ensures.value) c.requires_.ensures.trove.lists.requires.rising

pub amended-requires-3-clause-set : goal.amended-requires-3-clause-set
amended-requires-3-clause-set c = subst (IsStrictlySortedBy dep_cmp) (sym c.get-6.ensures) c.requires.parts.requires_added.rising

pub amended-requires-4-clause-old : goal.amended-requires-4-clause-old
amended-requires-4-clause-old c = subst (IsStrictlySortedBy dep_cmp) (sym c.provides.ensures.value) c.provides.ensures.trove.lists.provides.rising

pub amended-requires-4-clause-set : goal.amended-requires-4-clause-set
amended-requires-4-clause-set c = subst (IsStrictlySortedBy dep_cmp) (sym c.get-8.ensures) c.requires.parts.provides_added.rising
