use Rattle.std.proofs.Common.{◌≡◌, ◌<◌, ◌+◌, drop, get_or, length, List, None, refl, subst, sym, ◌∙◌, ap, arith}
use Rattle.std.proofs.lemmas.List.{get_or_default, take_all}
use Rattle.std.proofs.lemmas.List.Elements.{All-more}
use Rattle.change_pull.specs.Incoming.{content_at, no_content}
use Rattle.change_set.specs.declared.change.Carried.{Carried}
use Rattle.repo_load.specs.Contents.{IsDamagedContent}
use Rattle.repo_load.specs.tree-disk.Tree.{Name, Tree}
use Rattle.repo_load.specs.journal-log.Own.{staged}
use Rattle.repo_load.specs.Files.{repository_base}
use Rattle.repository.specs.Outcome.{committed_contents, AreSound}
use Rattle.repository.specs.Order.{source_stop, sources_stop}
use Rattle.repository.specs.Tests.{collides, collision}
use Rattle.repository.proofs.Checking.{checks_as, checks_start, checks_stop, checks_then, collision_end, collision_on, listed_at}
use Rattle.repository.proofs.Lists.{then_first, then_second}
use Rattle.repository.proofs.Ordering.{as_stop, sources_end, sources_on}
use Rattle.repository.proofs.colliding.check_collisions.Goals as goal

pub loop-place-init : goal.loop-place-init
loop-place-init g c = record { checks = checks_start g.met.D.TreeDisk.laws c.args.disk.now; rest = λ tells. refl; left = λ tells. refl; sound = λ tells k d lt. absurd (omega (arith, lt)) }

pub returns-in_err-check_content-clause-checks : goal.returns-in_err-check_content-clause-checks
returns-in_err-check_content-clause-checks g c =
    let held = committed_contents c.args.committed.now.troves (g.D.TreeDisk.disk.reads c.args.disk.now) in
    let i = c.loop-place.place in
    let one = content_at g.listed i in
    let lt : i < length g.listed = omega (arith, g.met.I.Incoming.counted c.args.contents.now g.listed c.requires.1.1.0, c.count-count.ensures) in
    let at : one ≡ get_or g.listed i one = get_or_default g.listed i no_content one lt in
    checks_stop g.met.D.TreeDisk.laws {test = λ (tree : Tree). collides (committed_contents c.args.committed.now.troves tree one.name) one} {goal = λ (tree : Tree). collision (committed_contents c.args.committed.now.troves tree) g.listed}
    c.loop-place.invariant.checks c.in_err-check_content.ensures.checks c.from_residual.ensures.1
    (λ tells refusal is. sym (c.loop-place.invariant.rest tells) ∙ collision_on held g.listed i one lt at
    ∙ then_first (collides (held one.name) one) (collision held (drop (i + 1) g.listed)) refusal is)
    (λ tells path damage. record { content = one; listed = listed_at g.listed i one lt at; damaged = damage })

pub loop-place-preserved : goal.loop-place-preserved
loop-place-preserved g c =
    let held = committed_contents c.args.committed.now.troves (g.D.TreeDisk.disk.reads c.args.disk.now) in
    let i = c.loop-place.place in
    let one = content_at g.listed i in
    let lt : i < length g.listed = omega (arith, g.met.I.Incoming.counted c.args.contents.now g.listed c.requires.1.1.0, c.count-count.ensures) in
    let at : one ≡ get_or g.listed i one = get_or_default g.listed i no_content one lt in record {
      checks = checks_then g.met.D.TreeDisk.laws {test = λ (tree : Tree). None} {goal = λ (tree : Tree). None} c.loop-place.invariant.checks (record { later = c.in_ok-check_content.ensures.checks.later; same = c.in_ok-check_content.ensures.checks.same; ends = λ tells. refl }) (λ tells none. refl);
      rest = λ tells.
          sym (collision_on held g.listed i one lt at
          ∙ then_second (collides (held one.name) one) (collision held (drop (i + 1) g.listed))
          (ap (λ (tree : Tree). collides (committed_contents c.args.committed.now.troves tree one.name) one) (sym (c.loop-place.invariant.checks.same tells).same.reads) ∙ c.in_ok-check_content.ensures.checks.ends tells))
          ∙ c.loop-place.invariant.rest tells;
      left = λ tells.
          let troves = c.args.committed.now.troves in
          let x = g.D.TreeDisk.disk.reads c.args.disk.now in
          sym (sources_on troves x g.listed i one lt at
          ∙ then_second (source_stop troves x one) (sources_stop troves x (drop (i + 1) g.listed))
          (ap (λ (tree : Tree). source_stop troves tree one) (sym (c.loop-place.invariant.checks.same tells).same.reads) ∙ c.in_ok-check_content.ensures.first tells))
          ∙ c.loop-place.invariant.left tells;
      sound = λ tells.
          let IsSound = λ (one : Carried). (path : Name) → IsDamagedContent c.args.committed.now.troves one.name (g.D.TreeDisk.disk.reads c.args.disk.now) path → ⊥ in
          All-more IsSound g.listed i one lt (c.loop-place.invariant.sound tells)
          (subst IsSound at
          (subst (λ (tree : Tree). (path : Name) → IsDamagedContent c.args.committed.now.troves one.name tree path → ⊥) (c.loop-place.invariant.checks.same tells).same.reads (c.in_ok-check_content.ensures.sound tells)));
    }

pub returns-clause-checks : goal.returns-clause-checks
returns-clause-checks g c =
    let held = committed_contents c.args.committed.now.troves (g.D.TreeDisk.disk.reads c.args.disk.now) in
    checks_as g.met.D.TreeDisk.laws c.loop-place.invariant.checks (λ tells. sym (c.loop-place.invariant.rest tells) ∙ collision_end held g.listed c.loop-place.place (omega (arith, g.met.I.Incoming.counted c.args.contents.now g.listed c.requires.1.1.0, c.count-count.ensures)))

pub returns-clause-sound : goal.returns-clause-sound
returns-clause-sound g c tells =
    subst (λ (contents : List Carried). AreSound contents c.args.committed.now.troves (g.D.TreeDisk.disk.reads c.args.disk.now))
    (take_all c.loop-place.place g.listed (omega (arith, g.met.I.Incoming.counted c.args.contents.now g.listed c.requires.1.1.0, c.count-count.ensures))) (c.loop-place.invariant.sound tells)

pub returns-in_err-check_content-clause-first : goal.returns-in_err-check_content-clause-first
returns-in_err-check_content-clause-first g c tells =
    let troves = c.args.committed.now.troves in
    let x = g.D.TreeDisk.disk.reads c.args.disk.now in
    let i = c.loop-place.place in
    let one = content_at g.listed i in
    let lt : i < length g.listed = omega (arith, g.met.I.Incoming.counted c.args.contents.now g.listed c.requires.1.1.0, c.count-count.ensures) in
    let at : one ≡ get_or g.listed i one = get_or_default g.listed i no_content one lt in
    as_stop (source_stop troves (g.D.TreeDisk.disk.reads c.loop-place.disk) one) (sources_stop troves x g.listed) _ c.from_residual.result
    (λ s is. sym (c.loop-place.invariant.left tells) ∙ sources_on troves x g.listed i one lt at
    ∙ then_first (source_stop troves x one) (sources_stop troves x (drop (i + 1) g.listed)) s
    (ap (λ (tree : Tree). source_stop troves tree one) (sym (c.loop-place.invariant.checks.same tells).same.reads) ∙ is))
    c.from_residual.ensures.1 (c.in_err-check_content.ensures.first tells)

pub returns-clause-first : goal.returns-clause-first
returns-clause-first g c tells =
    sym (c.loop-place.invariant.left tells) ∙ sources_end c.args.committed.now.troves (g.D.TreeDisk.disk.reads c.args.disk.now) g.listed c.loop-place.place (omega (arith, g.met.I.Incoming.counted c.args.contents.now g.listed c.requires.1.1.0, c.count-count.ensures))

pub check_content-requires : goal.check_content-requires
check_content-requires g c = λ κs lives. (
  lives.0,
  (
    lives.1,
    (
      omega (arith, c.count-count.ensures),
      (
        c.requires.1.1.0,
        λ tells. subst (λ (tree : Tree). g.I.Incoming.stand c.args.contents.now (staged repository_base) g.listed tree) (sym (c.loop-place.invariant.checks.same tells).same.reads) (c.requires.1.1.1 tells),
      ),
    ),
  ),
)
