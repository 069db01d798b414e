use Rattle.repo_load.proofs.Sourced.{search_stops}
use Rattle.repo_load.proofs.repo_contents.RepoContentsContents.find.Goals as goal

pub returns-in-Ok-clause-found : goal.returns-in-Ok-clause-found
returns-in-Ok-clause-found g c = record { sound = c.in-Ok.ensures.sound; stands = λ tells. c.in-Ok.ensures.finds.ends tells }

pub returns-in-Err-clause-stops : goal.returns-in-Err-clause-stops
returns-in-Err-clause-stops g c = search_stops c.args.self.now (record c.args.self.now { disk = record c.args.self.now.disk { now = c.content.new.disk } }) c.args.name.now c.in-Err.stop c.far_stop.result c.in-Err.ensures.finds c.far_stop.ensures
