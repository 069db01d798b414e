use Rattle.std.proofs.Common.{◌≡◌, ◌<◌, List, get_or, length, subst, arith}
use Rattle.std.proofs.lemmas.List.{get_or_default, take_all}
use Rattle.std.proofs.lemmas.List.Elements.{All-nil}
use Rattle.repo_load.specs.journal-log.Own.{staged}
use Rattle.repo_load.specs.Files.{repository_base}
use Rattle.repo_load.proofs.tree-disk.ConfinedLaws.{confined_on, confined_start, confined_wider}
use Rattle.change_pull.specs.Incoming.{content_at, no_content}
use Rattle.change_set.specs.declared.change.Carried.{Carried}
use Rattle.repository.specs.Preparing.{AreStored, IsCarriedName, IsStored}
use Rattle.tree_journal.proofs.Preparing.{prepares_stop}
use Rattle.repository.proofs.Putting.{carried_dir_kept, carried_not_staged, hash_at, put_is_carried, stored_more}
use Rattle.repository.proofs.preparing.put_contents.Goals as goal

pub loop-place-init : goal.loop-place-init
loop-place-init g c = record {
  later = omega arith;
  confined = λ tells. confined_start g.met.D.TreeDisk.laws (IsCarriedName c.args.committed.now g.listed) c.args.disk.now;
  stand = λ tells. All-nil (λ (content : Carried). IsStored c.args.committed.now content (g.D.TreeDisk.disk.reads c.args.disk.now));
}

pub returns-in_err-put_new : goal.returns-in_err-put_new
returns-in_err-put_new g c =
    let i = c.loop-place.place in
    let one = content_at g.listed i in
    let lt : i < length g.listed = omega (arith, g.met.I.Incoming.counted c.args.contents.now g.listed c.requires.1.1.0, c.count-count.ensures) in
    let at : one ≡ get_or g.listed i one = get_or_default g.listed i no_content one lt in
    prepares_stop _ c.loop-place.invariant.later c.loop-place.invariant.confined c.in_err-put_new.ensures.later
    (λ tells. confined_wider (put_is_carried c.args.committed.now g.listed i one lt at) (c.in_err-put_new.ensures.confined tells)) c.in_err-put_new.ensures.ends c.from_residual.ensures.1

pub loop-place-preserved : goal.loop-place-preserved
loop-place-preserved g c =
    let put = c.in_ok-put_new.ensures in
    let i = c.loop-place.place in
    let one = content_at g.listed i in
    let lt : i < length g.listed = omega (arith, g.met.I.Incoming.counted c.args.contents.now g.listed c.requires.1.1.0, c.count-count.ensures) in
    let at : one ≡ get_or g.listed i one = get_or_default g.listed i no_content one lt in record {
      later = omega (arith, c.loop-place.invariant.later, put.later);
      confined = λ tells. confined_on (c.loop-place.invariant.confined tells) (put_is_carried c.args.committed.now g.listed i one lt at) (put.confined tells);
      stand = λ tells. stored_more c.args.committed.now g.listed i one (g.D.TreeDisk.disk.reads c.loop-place.disk) (g.D.TreeDisk.disk.reads c.put_new.new.disk) (c.requires.1.1.1.1.0 tells) (c.requires.1.1.1.1.1.0 tells) lt at
          (put.confined tells).reads (c.loop-place.invariant.stand tells) (put.ends tells);
    }

pub returns : goal.returns
returns g c = record {
  later = c.loop-place.invariant.later;
  ends = λ tells. subst (λ (l : List Carried). AreStored c.args.committed.now l (g.D.TreeDisk.disk.reads c.loop-place.disk)) (take_all c.loop-place.place g.listed (omega (arith, g.met.I.Incoming.counted c.args.contents.now g.listed c.requires.1.1.0, c.count-count.ensures))) (c.loop-place.invariant.stand tells);
  confined = c.loop-place.invariant.confined;
}

pub put_new-requires : goal.put_new-requires
put_new-requires g c = λ κs lives.
    let i = c.loop-place.place in
    let one = content_at g.listed i in
    let lt : i < length g.listed = omega (arith, g.met.I.Incoming.counted c.args.contents.now g.listed c.requires.1.1.0, c.count-count.ensures) in (
      lives.0,
      (
        lives.1,
        (
          omega (arith, c.count-count.ensures),
          (
            c.requires.1.1.0,
            (
              λ tells. g.met.I.Incoming.steady c.args.contents.now (staged repository_base) g.listed (g.D.TreeDisk.disk.reads c.args.disk.now) (g.D.TreeDisk.disk.reads c.loop-place.disk) (c.requires.1.1.1.0 tells)
                  (λ q within. (c.loop-place.invariant.confined tells).reads q (λ is. carried_not_staged c.args.committed.now g.listed q within is)),
              (
                λ tells. hash_at g.listed i one lt (get_or_default g.listed i no_content one lt) (c.requires.1.1.1.1.0 tells),
                (
                  c.requires.1.1.1.1.1.1.0,
                  λ tells. carried_dir_kept c.args.committed.now g.listed (c.requires.1.1.1.1.0 tells) (g.D.TreeDisk.disk.reads c.args.disk.now) (g.D.TreeDisk.disk.reads c.loop-place.disk) (c.loop-place.invariant.confined tells).reads (c.requires.1.1.1.1.1.1.1 tells),
                ),
              ),
            ),
          ),
        ),
      ),
    )
