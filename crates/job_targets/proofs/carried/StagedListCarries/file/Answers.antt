use Rattle.std.proofs.Common.{◌≡◌, ℕ, List, sym, subst, arith}
use Rattle.local_db.specs.cny-base.Reserved.{private_directory}
use Rattle.local_db.specs.journal-log.Own.{staged}
use Rattle.local_db.specs.journal-log.declared.put.Want.TheVariants as want
use Rattle.change_pull.specs.declared.staged.Staged.{Staged}
use Rattle.change_pull.specs.Incoming.{StandNumbered}
use Rattle.job_targets.specs.Carrying.{IsCarriedFile, IsPlace}
use Rattle.job_targets.specs.CarryingLaws.{listed_in}
use Rattle.job_targets.proofs.StagedPlaces.{place_file}
use Rattle.job_targets.proofs.carried.StagedListCarries.file.Goals as goal

pub returns-clause-found : goal.returns-clause-found
returns-clause-found c tree stand =
    let it : IsPlace c.args.self.now tree c.args.size c.args.name.now c.in-Some.place = subst (λ (l : List Staged). IsPlace l tree c.args.size c.args.name.now c.in-Some.place) c.get.ensures
    (c.in-Some.ensures tree (subst (λ (l : List Staged). StandNumbered (staged private_directory) l tree) (sym c.get.ensures) stand)) in
    let same : c.in-Some.place ≡ c.in-Ok.number = omega (arith, c.in-Ok.ensures) in
    subst (λ (n : ℕ). IsCarriedFile (listed_in tree c.args.self.now) tree c.args.mode c.args.size c.args.name.now (want.Staged c.args.mode n c.args.size c.args.name.now)) same
    (place_file c.args.self.now tree c.args.name.now c.args.size stand c.in-Some.place c.args.mode it)
