use Rattle.std.proofs.Common.{◌≡◌, None}
use Rattle.std.specs.Str.{bytes_eq}
use Rattle.indexmap.specs.IndexMap.{get}
use Rattle.repo_index.proofs.Indexing.{put_last, other_sized}
use Rattle.repo_index.proofs.index.add_content.Goals as goal

pub returns-in_ok-insert-in-None-clause-contents : goal.returns-in_ok-insert-in-None-clause-contents
returns-in_ok-insert-in-None-clause-contents c =
    let none : get bytes_eq c.args.contents.now c.args.name.now ≡ None = cc (c.first_size.ensures, c.in-None.is) in
    put_last c.args.contents.now c.insert.new.self c.args.name.now c.args.size none c.in_ok-insert-in-None.ensures.entries

pub returns-in_ok-insert-in-Some-clause-sizes : goal.returns-in_ok-insert-in-Some-clause-sizes
returns-in_ok-insert-in-Some-clause-sizes c = λ other given.
    other_sized c.args.contents.now c.args.others.now c.insert-then-first-size.new.self (record { size = c.args.size; name = c.args.name.now }) c.in_ok-insert-in-Some.ensures.updates other given
