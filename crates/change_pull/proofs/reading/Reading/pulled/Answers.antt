use Rattle.std.proofs.Common.{length, ap, arith}
use Rattle.change_pull.proofs.Ends.{open_ends}
use Rattle.change_pull.proofs.Taken.{staged_count}
use Rattle.change_pull.proofs.reading.Reading.pulled.Goals as goal

pub returns-then-not-self-clause-refused : goal.returns-then-not-self-clause-refused
returns-then-not-self-clause-refused c = λ dir given it. open_ends c.args.self dir given it c.if-not-self.true

pub returns-clause-few : goal.returns-clause-few
returns-clause-few c = λ dir given it. omega (arith, staged_count dir it.set.contents 0, ap length it.kept.staged, c.len-count.ensures, c.len-count.type_inv)
