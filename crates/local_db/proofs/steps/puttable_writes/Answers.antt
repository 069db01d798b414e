use Rattle.local_db.proofs.Putting as proof
use Rattle.local_db.proofs.Places as place
use Rattle.local_db.proofs.Other.{backs_stand}
use Rattle.local_db.proofs.Systems.{four_bytes}
use Rattle.local_db.proofs.steps.puttable_writes.Goals as goal

pub returns-clause-named : goal.returns-clause-named
returns-clause-named c some more all x t h = proof.all_named some more all x t h

pub returns-clause-formed : goal.returns-clause-formed
returns-clause-formed c some more all x t h = proof.all_formed some more all x t h

pub returns-clause-can : goal.returns-clause-can
returns-clause-can c some more all x t h = proof.all_can some more all x t h

pub returns-clause-record_write : goal.returns-clause-record_write
returns-clause-record_write c x n p fits is no_dir node = place.record_write x n p (four_bytes n fits) is no_dir node

pub returns-clause-database_write : goal.returns-clause-database_write
returns-clause-database_write c = place.database_write

pub returns-clause-backs : goal.returns-clause-backs
returns-clause-backs c = backs_stand
