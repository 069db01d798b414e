use Rattle.std.proofs.Common.{List, ℕ, subst}
use Rattle.cli_words.specs.Words.{IsUpdateWith, ReadsOnly}
use Rattle.cli_words.specs.declared.words.UpdateOptions.{UpdateOptions}
use Rattle.cli_words.proofs.words.read_update.Goals as goal

pub returns : goal.returns
returns c = subst (λ (read : UpdateOptions × List (List ℕ)). ReadsOnly (IsUpdateWith read.0 read.1) c.read_updates.result) c.update_options_at.ensures c.read_updates.ensures
