use Rattle.std.proofs.Common.{◌≡◌, true, take, map}
use Rattle.std.specs.Prelude.{string_bytes}
use Rattle.std.specs.List.{list_all}
use Rattle.cny_version.specs.cny-base.Name.{is_name}
use Rattle.cli_words.proofs.words.read_each.Given as goal

abbrev pub invariant-loop-word : goal.invariant-loop-word
invariant-loop-word l = record {
  taken : l.names.items ≡ map string_bytes (take l.word-index l.words);
  valid : list_all is_name l.names.items ≡ true;
}
