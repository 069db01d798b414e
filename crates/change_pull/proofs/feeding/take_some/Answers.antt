use Rattle.std.proofs.Common.{◌++◌, length, take, refl, sym, ap, subst, arith, rules, length-take}
use Rattle.change_set.specs.ChangeSet.{magic}
use Rattle.change_set.specs.FirstFault.{IsFirstFault}
use Rattle.cny_stream.specs.Decided.{Decided}
use Rattle.journal_log.specs.cny-base.Below.{is_below}
use Rattle.change_pull.specs.declared.reading.Reading.{Reading}
use Rattle.change_pull.specs.Files.{HoldsFiles}
use Rattle.change_pull.proofs.Disks.{keeps_answer, keeps_start, keeps_stop, room_later}
use Rattle.change_pull.proofs.Taken.{taken_from, all_bytes, refusal_more, handed_refusal, no_refusal, err_no_ok, calm_cause}
use Rattle.change_pull.proofs.feeding.take_some.Goals as goal

pub push-used-requires : goal.push-used-requires
push-used-requires g c = c.requires.some

pub returns-in_default-clause-keeps : goal.returns-in_default-clause-keeps
returns-in_default-clause-keeps g c = keeps_answer (keeps_start g.met.D.TreeDisk.laws (is_below c.args.dir.now) c.args.disk.now (tt {0})) tt

pub slice_bounds-gather-end : goal.slice_bounds-gather-end
slice_bounds-gather-end g c = omega (arith, c.push-used.ensures.most, length-take c.push-used.result.used c.args.piece.now)

pub gather-requires-clause-short : goal.gather-requires-clause-short
gather-requires-clause-short g c = c.requires.short

pub gather-requires-clause-not_root : goal.gather-requires-clause-not_root
gather-requires-clause-not_root g c = c.requires.not_root

pub gather-requires-clause-room : goal.gather-requires-clause-room
gather-requires-clause-room g c = c.requires.room

pub gather-requires-clause-count : goal.gather-requires-clause-count
gather-requires-clause-count g c = c.requires.count (length (take c.push-used.result.used c.args.piece.now)) (omega (arith, length-take c.push-used.result.used c.args.piece.now))

pub returns-in_err-gather-clause-keeps : goal.returns-in_err-gather-clause-keeps
returns-in_err-gather-clause-keeps g c = keeps_stop c.in_err-gather.ensures.keeps c.from_residual.ensures.1

pub returns-in_err-gather-clause-room : goal.returns-in_err-gather-clause-room
returns-in_err-gather-clause-room g c = search rules

pub returns-in_err-gather-clause-used : goal.returns-in_err-gather-clause-used
returns-in_err-gather-clause-used g c = search rules

pub returns-in_err-gather-clause-goes_on : goal.returns-in_err-gather-clause-goes_on
returns-in_err-gather-clause-goes_on g c = search rules

pub returns-in_err-gather-clause-advances : goal.returns-in_err-gather-clause-advances
returns-in_err-gather-clause-advances g c = λ given. err_no_ok _ c.from_residual.result _ c.from_residual.ensures.1

pub returns-in_err-gather-clause-refused : goal.returns-in_err-gather-clause-refused
returns-in_err-gather-clause-refused g c = λ given it.
    handed_refusal (Decided IsFirstFault (given ++ c.args.piece.now)) c.from_residual.result _ c.from_residual.ensures.1 (no_refusal (Decided IsFirstFault (given ++ c.args.piece.now)) _ c.in_err-gather.ensures.fails)

pub decide-requires : goal.decide-requires
decide-requires g c = c.requires.short

pub returns-in_err-decide-clause-keeps : goal.returns-in_err-decide-clause-keeps
returns-in_err-decide-clause-keeps g c = keeps_answer c.in_ok-gather.ensures.keeps (calm_cause c.from_residual-in_err-decide.result _ _ _ c.from_residual-in_err-decide.ensures.1 c.in_err-decide.ensures.calm)

pub returns-in_err-decide-clause-room : goal.returns-in_err-decide-clause-room
returns-in_err-decide-clause-room g c = search rules

pub returns-in_err-decide-clause-used : goal.returns-in_err-decide-clause-used
returns-in_err-decide-clause-used g c = search rules

pub returns-in_err-decide-clause-goes_on : goal.returns-in_err-decide-clause-goes_on
returns-in_err-decide-clause-goes_on g c = search rules

pub returns-in_err-decide-clause-advances : goal.returns-in_err-decide-clause-advances
returns-in_err-decide-clause-advances g c = λ given. err_no_ok _ c.from_residual-in_err-decide.result _ c.from_residual-in_err-decide.ensures.1

pub returns-in_err-decide-clause-refused : goal.returns-in_err-decide-clause-refused
returns-in_err-decide-clause-refused g c = λ given it.
    let piece = c.args.piece.now in
    let used = c.push-used.result.used in
    let same = c.in_ok-gather.ensures.same in
    let made = taken_from g.D.TreeDisk.disk c.args.dir.now c.args.disk.now c.gather.new.disk c.args.reading.now _ c.gather.new.reading given (take used piece) c.tags_of-tags.result.now c.push-used.result.event
    (c.tags_of-tags.ensures.open c.args.dir.now) c.tags_of-tags.ensures.ended (c.push-used.ensures.pushed magic) (omega (arith, c.in-Some.ensures, c.push-used.ensures.most, length-take used piece)) refl refl refl refl refl refl
    (ap (λ (r : Reading). r.cutter) same) (ap (λ (r : Reading). r.given) same) (ap (λ (r : Reading). r.start) same) (ap (λ (r : Reading). r.parts) same) (ap (λ (r : Reading). r.index) same) (ap (λ (r : Reading). r.staged) same) (ap (λ (r : Reading). r.ended) same)
    c.in_ok-gather.ensures.gathers it in
    handed_refusal (Decided IsFirstFault (given ++ piece)) c.from_residual-in_err-decide.result _ c.from_residual-in_err-decide.ensures.1
    (refusal_more given piece used _ (all_bytes piece (λ i. omega (arith, c.type_inv.piece i))) (c.in_err-decide.ensures.refused (given ++ take used piece) made.wanted made.pushed))

pub returns-clause-keeps : goal.returns-clause-keeps
returns-clause-keeps g c = keeps_answer c.in_ok-gather.ensures.keeps tt

pub returns-clause-room : goal.returns-clause-room
returns-clause-room g c = λ tells.
    room_later (g.D.TreeDisk.disk.reads c.gather.new.disk) c.args.dir.now (length c.args.reading.now.staged.items) (length c.decide.new.reading.staged.items)
    (omega (arith, ap (λ (r : Reading). length r.staged.items) c.in_ok-gather.ensures.same, c.in_ok-decide.ensures.grows)) (c.in_ok-gather.ensures.room tells)

pub returns-clause-used : goal.returns-clause-used
returns-clause-used g c = c.push-used.ensures.most

pub returns-clause-goes_on : goal.returns-clause-goes_on
returns-clause-goes_on g c = c.push-used.ensures.some

pub returns-clause-advances : goal.returns-clause-advances
returns-clause-advances g c = λ given it.
    let piece = c.args.piece.now in
    let used = c.push-used.result.used in
    let same = c.in_ok-gather.ensures.same in
    let made = taken_from g.D.TreeDisk.disk c.args.dir.now c.args.disk.now c.gather.new.disk c.args.reading.now _ c.gather.new.reading given (take used piece) c.tags_of-tags.result.now c.push-used.result.event
    (c.tags_of-tags.ensures.open c.args.dir.now) c.tags_of-tags.ensures.ended (c.push-used.ensures.pushed magic) (omega (arith, c.in-Some.ensures, c.push-used.ensures.most, length-take used piece)) refl refl refl refl refl refl
    (ap (λ (r : Reading). r.cutter) same) (ap (λ (r : Reading). r.given) same) (ap (λ (r : Reading). r.start) same) (ap (λ (r : Reading). r.parts) same) (ap (λ (r : Reading). r.index) same) (ap (λ (r : Reading). r.staged) same) (ap (λ (r : Reading). r.ended) same)
    c.in_ok-gather.ensures.gathers it in
    let opened = c.in_ok-decide.ensures.opens (given ++ take used piece) made.wanted made.pushed in
    (opened.0, λ tells holds. subst (HoldsFiles (g.D.TreeDisk.disk.reads c.gather.new.disk) c.args.dir.now) (sym opened.1) (made.grows tells holds))
