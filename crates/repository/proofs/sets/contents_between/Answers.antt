use Rattle.std.proofs.Common.{◌≡◌, ℕ, true, List, All, sym, subst, ◌∙◌}
use Rattle.std.specs.List.Sorted.{IsStrictlySortedBy}
use Rattle.change_set.specs.declared.change.Carried.{Carried}
use Rattle.change_set.specs.ChangeSet.{content_cmp}
use Rattle.repo_index.specs.Catalogue.{has_content}
use Rattle.repo_load.proofs.LooksLaws.{looks_damage, looks_stop}
use Rattle.repository.specs.Between.{AreStoredIn}
use Rattle.repository.specs.Damage.{IsDamagedBetween}
use Rattle.repository.specs.BetweenSteps.{AllFit, HasOther, IsDamagedAmong}
use Rattle.repository.proofs.BetweenCarrying.{contents_are, damaged_name, damaged_size, names_committed, rising_of}
use Rattle.repository.proofs.sets.contents_between.Goals as goal

pub read_contents-requires : goal.read_contents-requires
read_contents-requires g c =
    subst (λ (l : List (List ℕ)). All (λ (name : List ℕ). has_content name c.args.catalogue.now.troves ≡ true) l) (sym c.get.ensures)
    (names_committed c.args.catalogue.now.troves c.args.old.now c.args.fresh.now c.in_ok-names.names c.requires.committed c.in_ok-names.ensures)

pub returns-in_err-contents-clause-looks : goal.returns-in_err-contents-clause-looks
returns-in_err-contents-clause-looks g c =
    let troves = c.args.catalogue.now.troves in
    let tree = g.D.TreeDisk.disk.reads c.args.disk.now in
    looks_stop {R = AreStoredIn} {S = IsDamagedBetween c.args.old.now c.args.fresh.now} c.in_err-contents.ensures.looks c.from_residual-in_err-contents.ensures.1
    (λ tells path damaged. damaged_name troves c.args.old.now c.args.fresh.now c.in_ok-names.names c.requires.committed c.in_ok-names.ensures tree path
    (subst (λ (l : List (List ℕ)). IsDamagedAmong troves l tree path) c.get.ensures damaged))

pub other_of_troves-requires : goal.other_of_troves-requires
other_of_troves-requires g c =
    subst (λ (l : List Carried). IsStrictlySortedBy content_cmp l) (sym c.get-2.ensures)
    (rising_of c.args.old.now c.args.fresh.now c.in_ok-names.names c.in_ok-contents.contents c.in_ok-names.ensures (c.in_ok-contents.ensures.names ∙ c.get.ensures))

pub returns-in-Some-clause-looks : goal.returns-in-Some-clause-looks
returns-in-Some-clause-looks g c =
    let tree = g.D.TreeDisk.disk.reads c.args.disk.now in
    looks_damage c.in_ok-contents.ensures.looks (λ tells stands.
    damaged_size c.args.old.now c.args.fresh.now c.in_ok-names.names c.in_ok-contents.contents c.in-Some.name c.in_ok-names.ensures (c.in_ok-contents.ensures.names ∙ c.get.ensures)
    (subst (λ (l : List Carried). HasOther l c.args.fresh.now c.in-Some.name) c.get-2.ensures c.in-Some.ensures.other)
    tree c.in_ok-content_path.field-0 stands c.in_ok-content_path.ensures)

pub returns-clause-contents : goal.returns-clause-contents
returns-clause-contents g c =
    contents_are c.args.old.now c.args.fresh.now c.in_ok-names.names c.in_ok-contents.contents c.in_ok-names.ensures (c.in_ok-contents.ensures.names ∙ c.get.ensures) c.in_ok-contents.ensures.hashes
    (subst (λ (l : List Carried). AllFit l c.args.fresh.now) c.get-2.ensures c.in_default.ensures.fits)
