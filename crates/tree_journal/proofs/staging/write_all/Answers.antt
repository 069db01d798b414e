use Rattle.std.proofs.Common.{inr, List, take, refl, ap, arith, ◌∙◌}
use Rattle.std.proofs.lemmas.List.{take_all}
use Rattle.std.proofs.lemmas.List.Elements.{All-contains}
use Rattle.journal_log.specs.tree-disk.Clear.{is_within}
use Rattle.journal_log.proofs.tree-disk.StepLaws.{makes_as, makes_start, makes_then, makes_then_stop}
use Rattle.journal_log.specs.tree-disk.Tree.{is_dir}
use Rattle.journal_log.specs.declared.put.Put.{Put}
use Rattle.journal_log.specs.Own.{staged}
use Rattle.journal_log.specs.WriteSet.{CanBeLogged}
use Rattle.tree_journal.specs.Steps.{with_all_bytes}
use Rattle.tree_journal.proofs.StagedBytes.{one_more_written, all_bytes_elsewhere, room_at}
use Rattle.tree_journal.proofs.WriteSets.{place_listed}
use Rattle.tree_journal.proofs.staging.write_all.Goals as goal

pub places-init : goal.places-init
places-init g c = makes_start g.met.D.TreeDisk.laws (is_within (staged c.args.base.now)) c.args.disk.now (tt {0}) (λ tells. refl)

pub write_bytes-requires-clause-logged : goal.write_bytes-requires-clause-logged
write_bytes-requires-clause-logged g c = All-contains (λ (p : Put). CanBeLogged c.args.base.now p.want) c.args.numbered.now c.index-numbered-place.result c.requires.logged
    (place_listed c.args.numbered.now c.places.place c.index-numbered-place.result (omega (arith, c.places-test.true, c.requires.same_number)) c.index-numbered-place.is)

pub write_bytes-requires-clause-told : goal.write_bytes-requires-clause-told
write_bytes-requires-clause-told g c = λ tells.
    rw (c.places.invariant.ended tells) (ap is_dir (all_bytes_elsewhere c.args.base.now c.requires.base (take c.places.place c.args.puts.now) (take c.places.place c.args.numbered.now) _ (staged c.args.base.now) (inr refl)) ∙ c.requires.told tells)

pub write_bytes-requires-clause-bare : goal.write_bytes-requires-clause-bare
write_bytes-requires-clause-bare g c = λ tells.
    rw (c.places.invariant.ended tells) (room_at c.args.base.now c.args.puts.now c.args.numbered.now _ c.places.place c.index-puts-place.result c.index-numbered-place.result
    (omega (arith, c.places-test.true)) (omega (arith, c.places-test.true, c.requires.same_number)) c.index-puts-place.is c.index-numbered-place.is (c.requires.bare tells))

pub returns-in_err-write_bytes : goal.returns-in_err-write_bytes
returns-in_err-write_bytes g c = makes_then_stop c.places.invariant (λ p h. h) c.in_err-write_bytes.ensures c.from_residual.ensures.1

pub places-preserved : goal.places-preserved
places-preserved g c = makes_then c.places.invariant (λ p h. h) c.in_ok-write_bytes.ensures (λ tells.
    one_more_written c.args.base.now c.args.puts.now c.args.numbered.now _ c.places.place c.index-puts-place.result c.index-numbered-place.result (omega (arith, c.places-test.true)) (omega (arith, c.places-test.true, c.requires.same_number)) c.index-puts-place.is c.index-numbered-place.is)

pub returns : goal.returns
returns g c = makes_as c.places.invariant (λ tells.
    ap (λ (l : List Put). with_all_bytes c.args.base.now l (take c.places.place c.args.numbered.now) (g.D.TreeDisk.disk.reads c.args.disk.now)) (take_all c.places.place c.args.puts.now (omega (arith, c.places-test.false)))
    ∙ ap (λ (l : List Put). with_all_bytes c.args.base.now c.args.puts.now l (g.D.TreeDisk.disk.reads c.args.disk.now)) (take_all c.places.place c.args.numbered.now (omega (arith, c.places-test.false, c.requires.same_number))))
