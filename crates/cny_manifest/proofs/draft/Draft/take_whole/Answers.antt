use Rattle.cny_manifest.proofs.draft.Draft.take_whole.Goals as goal

pub returns-in-Flavor : goal.returns-in-Flavor
returns-in-Flavor c = rw c.in-Flavor.is c.take_flavor.ensures

pub returns-in-Ref : goal.returns-in-Ref
returns-in-Ref c = rw c.in-Ref.is c.take_ref.ensures

pub returns-in-Requires : goal.returns-in-Requires
returns-in-Requires c = rw c.in-Requires.is c.take_requirement.ensures

pub returns-in-Provides : goal.returns-in-Provides
returns-in-Provides c = rw c.in-Provides.is c.take_provided.ensures

pub returns-in-Dir : goal.returns-in-Dir
returns-in-Dir c = rw c.in-Dir.is c.take_dir.ensures
