-- The order of files is total.
use Rattle.std.proofs.lemmas.Cmp.{on_total}
use Rattle.std.specs.Cmp.Lexicographic.{nat_list_cmp_total}
use Rattle.std.specs.Cmp.{IsTotalOrder}
use Rattle.trove_parts.specs.Files.{file_cmp, path_of}

pub file_total : IsTotalOrder file_cmp
file_total = on_total path_of nat_list_cmp_total
