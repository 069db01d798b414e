use Rattle.repo_load.proofs.LooksLaws.{looks_answer, looks_stop}
use Rattle.repo_serve.proofs.PutSets.{damaged_other, named_in, parts_room, room_in, set_put, sized_in}
use Rattle.repo_serve.proofs.carrying.put_set.Goals as goal

pub carry_all-requires-clause-named : goal.carry_all-requires-clause-named
carry_all-requires-clause-named g c = named_in c.args.troves.now c.absolute_set.ensures.contents c.args.wanted.now c.requires.wanted c.args.catalogue.now.troves c.requires.committed

pub carry_all-requires-clause-sized : goal.carry_all-requires-clause-sized
carry_all-requires-clause-sized g c = sized_in c.args.troves.now c.absolute_set.ensures.contents c.args.wanted.now c.requires.wanted c.args.catalogue.now.troves c.requires.committed

pub carry_all-requires-clause-room : goal.carry_all-requires-clause-room
carry_all-requires-clause-room g c = room_in c.args.troves.now c.absolute_set.ensures.contents c.args.wanted.now c.requires.wanted c.requires.small

pub put_troves-requires : goal.put_troves-requires
put_troves-requires g c = parts_room c.args.troves.now c.requires.small

pub returns-in_err-carry_all : goal.returns-in_err-carry_all
returns-in_err-carry_all g c =
    looks_stop c.in_err-carry_all.ensures c.from_residual-in_err-carry_all.ensures.1
    (λ told path other. damaged_other c.args.troves.now c.absolute_set.ensures.contents c.args.wanted.now c.requires.wanted (g.D.TreeDisk.disk.reads c.args.disk.now) path other)

pub returns : goal.returns
returns g c =
    looks_answer c.in_ok-carry_all.ensures
    (λ told p.
    set_put c.args.troves.now c.absolute_set.ensures.contents c.args.wanted.now c.requires.wanted c.absolute_set.ensures.parts p.contents p.are p.hashed (g.D.TreeDisk.disk.reads c.args.disk.now) c.args.out.now
    c.push_slice.new.self c.put_troves.new.out c.carry_all.new.out c.put_item.new.out c.in_ok-push_slice.ensures.ok c.in_ok-put_troves.ensures p.put c.in_ok-put_item.ensures.ok p.stand)
