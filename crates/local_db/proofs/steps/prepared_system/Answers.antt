use Rattle.local_db.proofs.Frame.{stores_still}
use Rattle.local_db.proofs.Images.{image_stores, prepared_doesnt_count}
use Rattle.local_db.proofs.Systems.{four_bytes}
use Rattle.local_db.proofs.steps.prepared_system.Goals as goal

pub returns-clause-prepared : goal.returns-clause-prepared
returns-clause-prepared c s o system is fits q h = prepared_doesnt_count s o system is (four_bytes o.number fits) q h

pub returns-clause-still : goal.returns-clause-still
returns-clause-still c = stores_still

pub returns-clause-image : goal.returns-clause-image
returns-clause-image c x image unsynced s synced is h = image_stores x unsynced image s synced is h
