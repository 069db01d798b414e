use Rattle.std.proofs.Common.{ℕ, List, [], get_or, arith}
use Rattle.std.proofs.lemmas.List.Elements.{Contains-get_or}
use Rattle.repo_load.specs.Contents.{IsDamagedContent}
use Rattle.repo_load.proofs.LooksLaws.{looks_answer, looks_memory, looks_stop, looks_then}
use Rattle.repository.specs.Between.{AreStoredIn}
use Rattle.repository.specs.BetweenSteps.{IsStoredAs}
use Rattle.repository.proofs.Fitting.{hashed_push, names_push, stored_push}
use Rattle.repository.proofs.between_contents.read_contents.Goals as goal

pub returns-in_err-content-clause-looks : goal.returns-in_err-content-clause-looks
returns-in_err-content-clause-looks g c =
    let name : List ℕ = get_or c.args.names.now c.loop-name.name-index [] in
    looks_then g.met.D.TreeDisk.laws c.loop-name.invariant.looks
    (looks_stop {R = AreStoredIn} {S = IsDamagedContent c.args.catalogue.now.troves name} c.in_err-content.ensures.looks c.from_residual.ensures.1 (λ tells path p. p))
    (λ tells so_far z p. p)
    (λ tells so_far path damaged. record { name = name; among = Contains-get_or c.args.names.now c.loop-name.name-index [] (omega arith); damaged = damaged })

pub returns-in_err-push-clause-looks : goal.returns-in_err-push-clause-looks
returns-in_err-push-clause-looks g c =
    let name : List ℕ = get_or c.args.names.now c.loop-name.name-index [] in
    looks_then g.met.D.TreeDisk.laws c.loop-name.invariant.looks
    (looks_memory {R = AreStoredIn} {S = IsDamagedContent c.args.catalogue.now.troves name} c.in_ok-content.ensures.looks c.from_residual-in_err-push.ensures.1)
    (λ tells so_far z p. p)
    (λ tells so_far path damaged. record { name = name; among = Contains-get_or c.args.names.now c.loop-name.name-index [] (omega arith); damaged = damaged })

pub loop-name-preserved : goal.loop-name-preserved
loop-name-preserved g c =
    let name : List ℕ = get_or c.args.names.now c.loop-name.name-index [] in
    let content = c.in_ok-content.content in record {
      looks = looks_then g.met.D.TreeDisk.laws c.loop-name.invariant.looks
          (looks_answer {R = λ tree (x : Unit {0}). IsStoredAs tree content} {S = IsDamagedContent c.args.catalogue.now.troves name} {z = tt} c.in_ok-content.ensures.looks (λ tells p. p))
          (λ tells so_far z stands. stored_push (g.D.TreeDisk.disk.reads c.args.disk.now) c.loop-name.contents.items c.push.new.self.items content c.in_ok-push.ensures.items so_far stands)
          (λ tells so_far path damaged. record { name = name; among = Contains-get_or c.args.names.now c.loop-name.name-index [] (omega arith); damaged = damaged });
      names_are = names_push c.loop-name.contents.items c.push.new.self.items content c.args.names.now c.loop-name.name-index (omega arith) c.in_ok-push.ensures.items c.loop-name.invariant.names_are c.in_ok-content.ensures.name;
      hashed = hashed_push c.loop-name.contents.items c.push.new.self.items content c.in_ok-push.ensures.items c.loop-name.invariant.hashed c.in_ok-content.ensures.hash;
    }
