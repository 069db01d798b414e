use Rattle.std.proofs.Common.{List, All, refl, sym, ap, ◌∙◌, subst}
use Rattle.repo_load.specs.trove-stream.declared.parts.TroveParts.{TroveParts}
use Rattle.repo_load.specs.trove-stream.Trove.{IsTrove}
use Rattle.repo_load.specs.Steps.{catalogue_with}
use Rattle.repo_load.specs.tree-disk.Clear.{is_within}
use Rattle.repo_load.specs.tree-disk.Confined.{Among}
use Rattle.repo_load.proofs.tree-disk.ConfinedLaws.{confined_read}
use Rattle.repo_load.specs.Files.{repository_base}
use Rattle.repo_load.specs.journal-log.Own.{staged}
use Rattle.repo_load.specs.tree-disk.Tree.{Tree}
use Rattle.repository.specs.Order.{IsFirstStop}
use Rattle.repository.specs.Preparing.{IsWrittenName}
use Rattle.repository.specs.Steps.{ids_of}
use Rattle.repository.proofs.Ordering.{memory_first, write_first}
use Rattle.repository.proofs.Within.{confined_writes, hashes}
use Rattle.repository.proofs.Checking.{empty_list, full_list}
use Rattle.repository.proofs.Outcomes.{both_moments, done_nothing, done_write, ends_write, read_moments, rests_read, rules_join, rules_kept, writes_as}
use Rattle.change_rel.proofs.cny-base.Faults.{passed_on as err_stop}
use Rattle.repository.proofs.committing.commit_contents.Goals as goal

pub returns-in_err-added-clause-any_moment : goal.returns-in_err-added-clause-any_moment
returns-in_err-added-clause-any_moment g c tells r = read_moments g.met.D.TreeDisk.laws g.change r (c.requires.1.1.1.1.1.1 tells) (c.in_err-added.ensures.tested.same tells)

pub returns-in_err-ids-clause-any_moment : goal.returns-in_err-ids-clause-any_moment
returns-in_err-ids-clause-any_moment g c tells r = read_moments g.met.D.TreeDisk.laws g.change r (c.requires.1.1.1.1.1.1 tells) (c.in_ok-added.ensures.tested.same tells)

pub returns-then-is_empty-clause-ends : goal.returns-then-is_empty-clause-ends
returns-then-is_empty-clause-ends g c tells =
    let empty = empty_list c.troves-2.ensures.value c.is_empty.ensures c.if-is_empty.true in
    done_nothing g.met.D.TreeDisk.laws g.change c.args.catalogue.now c.in_ok-added.added c.in_ok-ids.ids tells (c.requires.1.1.1.1.1.0 tells) (c.requires.1.1.1.1.1.1 tells) c.in_ok-added.ensures.tested empty
    (c.in_ok-ids.ensures ∙ ap ids_of c.troves.ensures.value)

pub returns-then-is_empty-clause-any_moment : goal.returns-then-is_empty-clause-any_moment
returns-then-is_empty-clause-any_moment g c tells r = read_moments g.met.D.TreeDisk.laws g.change r (c.requires.1.1.1.1.1.1 tells) (c.in_ok-added.ensures.tested.same tells)

pub returns-in_err-write-clause-ends : goal.returns-in_err-write-clause-ends
returns-in_err-write-clause-ends g c tells =
    let writes = writes_as refl c.troves-3.ensures.value c.in_err-write.ensures.writes in
    ends_write g.met.D.TreeDisk.laws g.change c.args.catalogue.now c.args.disk.now c.args.catalogue.now _ c.from_residual-in_err-write.result tells writes c.from_residual-in_err-write.ensures.1

pub returns-in_err-write-clause-any_moment : goal.returns-in_err-write-clause-any_moment
returns-in_err-write-clause-any_moment g c tells r = both_moments g.met.D.TreeDisk.laws _ _ c.stored_state.ensures.catalogue r tells (c.requires.1.1.1.1.1.0 tells) (c.requires.1.1.1.1.1.1 tells) c.in_ok-added.ensures.tested (full_list c.troves-2.ensures.value c.is_empty.ensures c.if-is_empty.false) (writes_as refl c.troves-3.ensures.value c.write.ensures.writes)

pub returns-in_err-join-clause-any_moment : goal.returns-in_err-join-clause-any_moment
returns-in_err-join-clause-any_moment g c tells r = both_moments g.met.D.TreeDisk.laws _ _ c.stored_state.ensures.catalogue r tells (c.requires.1.1.1.1.1.0 tells) (c.requires.1.1.1.1.1.1 tells) c.in_ok-added.ensures.tested (full_list c.troves-2.ensures.value c.is_empty.ensures c.if-is_empty.false) (writes_as refl c.troves-3.ensures.value c.write.ensures.writes)

pub returns-clause-ends : goal.returns-clause-ends
returns-clause-ends g c tells =
    let full = full_list c.troves-2.ensures.value c.is_empty.ensures c.if-is_empty.false in
    let writes = writes_as refl c.troves-3.ensures.value c.in_ok-write.ensures.writes in
    let are = subst (All IsTrove) c.troves-3.ensures.value c.in_ok-write.ensures.troves in
    done_write g.met.D.TreeDisk.laws g.change c.args.catalogue.now c.stored_state.ensures.catalogue c.join.new.catalogue c.in_ok-added.added c.in_ok-ids.ids tells (c.requires.1.1.1.1.1.0 tells) (c.requires.1.1.1.1.1.1 tells) c.in_ok-added.ensures.tested full (c.in_ok-added.ensures.sound tells full)
    (rules_join c.args.catalogue.now g.change.parts c.in_ok-added.added.troves full are c.in_ok-added.ensures.joins)
    (c.in_ok-ids.ensures ∙ ap ids_of c.troves.ensures.value) writes
    (c.in_ok-join.ensures ∙ ap (λ (l : List TroveParts). catalogue_with l c.args.catalogue.now) c.troves-4.ensures.value)

pub returns-clause-any_moment : goal.returns-clause-any_moment
returns-clause-any_moment g c tells r = both_moments g.met.D.TreeDisk.laws _ _ c.stored_state.ensures.catalogue r tells (c.requires.1.1.1.1.1.0 tells) (c.requires.1.1.1.1.1.1 tells) c.in_ok-added.ensures.tested (full_list c.troves-2.ensures.value c.is_empty.ensures c.if-is_empty.false) (writes_as refl c.troves-3.ensures.value c.write.ensures.writes)

pub returns-clause-rules : goal.returns-clause-rules
returns-clause-rules g c is =
    let full = full_list c.troves-2.ensures.value c.is_empty.ensures c.if-is_empty.false in
    let are = subst (All IsTrove) c.troves-3.ensures.value c.in_ok-write.ensures.troves in
    rules_kept c.args.catalogue.now c.join.new.catalogue c.in_ok-added.added.troves is (rules_join c.args.catalogue.now g.change.parts c.in_ok-added.added.troves full are c.in_ok-added.ensures.joins)
    (c.in_ok-join.ensures ∙ ap (λ (l : List TroveParts). catalogue_with l c.args.catalogue.now) c.troves-4.ensures.value)

pub returns-then-is_empty-clause-sound : goal.returns-then-is_empty-clause-sound
returns-then-is_empty-clause-sound g c tells full =
    let empty = empty_list c.troves-2.ensures.value c.is_empty.ensures c.if-is_empty.true in
    absurd (full (c.in_ok-ids.ensures ∙ ap ids_of (c.troves.ensures.value ∙ empty)))

pub returns-clause-sound : goal.returns-clause-sound
returns-clause-sound g c tells full =
    c.in_ok-added.ensures.sound tells
    (full_list c.troves-2.ensures.value c.is_empty.ensures c.if-is_empty.false)

pub returns-in_err-added-clause-first : goal.returns-in_err-added-clause-first
returns-in_err-added-clause-first g c tells =
    err_stop (IsFirstStop c.args.catalogue.now (g.D.TreeDisk.disk.reads c.args.disk.now) g.change) _ c.from_residual.result (c.in_err-added.ensures.first tells) c.from_residual.ensures.1

pub returns-in_err-ids-clause-first : goal.returns-in_err-ids-clause-first
returns-in_err-ids-clause-first g c tells = memory_first c.args.catalogue.now (g.D.TreeDisk.disk.reads c.args.disk.now) g.change c.from_residual-in_err-ids.result c.from_residual-in_err-ids.ensures.1

pub returns-in_err-write-clause-first : goal.returns-in_err-write-clause-first
returns-in_err-write-clause-first g c tells =
    write_first c.args.catalogue.now (g.D.TreeDisk.disk.reads c.args.disk.now) g.change _ c.from_residual-in_err-write.result tells c.in_err-write.ensures.writes c.from_residual-in_err-write.ensures.1

pub returns-in_err-join-clause-first : goal.returns-in_err-join-clause-first
returns-in_err-join-clause-first g c tells = memory_first c.args.catalogue.now (g.D.TreeDisk.disk.reads c.args.disk.now) g.change c.from_residual-in_err-join.result c.from_residual-in_err-join.ensures.1

pub returns-in_err-added-clause-confined : goal.returns-in_err-added-clause-confined
returns-in_err-added-clause-confined g c tells = confined_read g.met.D.TreeDisk.laws (Among (is_within repository_base)) (c.in_err-added.ensures.tested.same tells)

pub returns-in_err-ids-clause-confined : goal.returns-in_err-ids-clause-confined
returns-in_err-ids-clause-confined g c tells = confined_read g.met.D.TreeDisk.laws (Among (is_within repository_base)) (c.in_ok-added.ensures.tested.same tells)

pub returns-then-is_empty-clause-confined : goal.returns-then-is_empty-clause-confined
returns-then-is_empty-clause-confined g c tells = confined_read g.met.D.TreeDisk.laws (Among (is_within repository_base)) (c.in_ok-added.ensures.tested.same tells)

pub returns-in_err-write-clause-confined : goal.returns-in_err-write-clause-confined
returns-in_err-write-clause-confined g c tells = confined_writes g.met.D.TreeDisk.laws (c.in_ok-added.ensures.tested.same tells) (c.in_err-write.ensures.writes.confined tells)

pub returns-in_err-join-clause-confined : goal.returns-in_err-join-clause-confined
returns-in_err-join-clause-confined g c tells = confined_writes g.met.D.TreeDisk.laws (c.in_ok-added.ensures.tested.same tells) (c.in_ok-write.ensures.writes.confined tells)

pub returns-clause-confined : goal.returns-clause-confined
returns-clause-confined g c tells = confined_writes g.met.D.TreeDisk.laws (c.in_ok-added.ensures.tested.same tells) (c.in_ok-write.ensures.writes.confined tells)

pub returns-in_err-added-clause-only : goal.returns-in_err-added-clause-only
returns-in_err-added-clause-only g c tells = confined_read g.met.D.TreeDisk.laws (IsWrittenName c.args.catalogue.now g.change.contents) (c.in_err-added.ensures.tested.same tells)

pub returns-in_err-ids-clause-only : goal.returns-in_err-ids-clause-only
returns-in_err-ids-clause-only g c tells = confined_read g.met.D.TreeDisk.laws (IsWrittenName c.args.catalogue.now g.change.contents) (c.in_ok-added.ensures.tested.same tells)

pub returns-then-is_empty-clause-only : goal.returns-then-is_empty-clause-only
returns-then-is_empty-clause-only g c tells = confined_read g.met.D.TreeDisk.laws (IsWrittenName c.args.catalogue.now g.change.contents) (c.in_ok-added.ensures.tested.same tells)

pub returns-in_err-write-clause-only : goal.returns-in_err-write-clause-only
returns-in_err-write-clause-only g c tells = confined_writes g.met.D.TreeDisk.laws (c.in_ok-added.ensures.tested.same tells) ((writes_as refl c.troves-3.ensures.value c.in_err-write.ensures.writes).only tells)

pub returns-in_err-join-clause-only : goal.returns-in_err-join-clause-only
returns-in_err-join-clause-only g c tells = confined_writes g.met.D.TreeDisk.laws (c.in_ok-added.ensures.tested.same tells) ((writes_as refl c.troves-3.ensures.value c.in_ok-write.ensures.writes).only tells)

pub returns-clause-only : goal.returns-clause-only
returns-clause-only g c tells = confined_writes g.met.D.TreeDisk.laws (c.in_ok-added.ensures.tested.same tells) ((writes_as refl c.troves-3.ensures.value c.in_ok-write.ensures.writes).only tells)

pub tested-requires : goal.tested-requires
tested-requires g c = λ κs lives. (lives.0, (lives.1, (c.get.ensures ∙ c.requires.1.1.0, (c.requires.1.1.1.0, (c.requires.1.1.1.1.0, λ tells. (c.requires.1.1.1.1.1.0 tells).rising)))))

pub write-requires : goal.write-requires
write-requires g c = λ κs lives. (
  lives.0,
  (
    lives.1,
    (
      c.in_ok-added.ensures.joins.few (full_list c.troves-2.ensures.value c.is_empty.ensures c.if-is_empty.false),
      (
        c.requires.1.1.1.0,
        (
          λ tells. subst (λ (t : Tree). g.I.Incoming.stand c.args.contents.now (staged repository_base) g.change.contents t) (sym (c.in_ok-added.ensures.tested.same tells).same.reads) (c.requires.1.1.1.1.0 tells),
          (
            λ tells. hashes g.change (c.requires.1.1.1.1.1.0 tells),
            (
              λ tells. (c.requires.1.1.1.1.1.0 tells).rising,
              λ tells. rests_read g.met.D.TreeDisk.laws g.change c.args.catalogue.now c.args.catalogue.now c.args.disk.now c.tested.new.disk (c.in_ok-added.ensures.tested.same tells) (c.requires.1.1.1.1.1.1 tells),
            ),
          ),
        ),
      ),
    ),
  ),
)
