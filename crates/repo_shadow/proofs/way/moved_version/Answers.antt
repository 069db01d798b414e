use Rattle.repo_shadow.proofs.Versions.{fits_on_way, long_on_way}
use Rattle.repo_shadow.proofs.way.moved_version.Goals as goal

pub returns-in-Shadow-clause-fits : goal.returns-in-Shadow-clause-fits
returns-in-Shadow-clause-fits c = fits_on_way c.in-Shadow.is c.args.label.now c.args.version.now c.shadow_onto.result c.shadow_onto.ensures.too_large

pub returns-in-Shadow-clause-fault : goal.returns-in-Shadow-clause-fault
returns-in-Shadow-clause-fault c = long_on_way c.in-Shadow.is c.args.label.now c.args.version.now c.shadow_onto.result c.shadow_onto.ensures.too_large c.shadow_onto.ensures.fault

pub returns-in-Branch-clause-fits : goal.returns-in-Branch-clause-fits
returns-in-Branch-clause-fits c = fits_on_way c.in-Branch.is c.args.label.now c.args.version.now c.branch_onto.result c.branch_onto.ensures.too_large

pub returns-in-Branch-clause-fault : goal.returns-in-Branch-clause-fault
returns-in-Branch-clause-fault c = long_on_way c.in-Branch.is c.args.label.now c.args.version.now c.branch_onto.result c.branch_onto.ensures.too_large c.branch_onto.ensures.fault
