use Rattle.sys_model.specs.Model.{erase_word, install_word, IsErase, IsInstall, IsUpdate, update_word}
use Rattle.sys_model.proofs.Directives.{directive_bad, directive_only, erases, installs, updates}
use Rattle.sys_model.proofs.directive.read_directive.Goals as goal

pub returns-in-Some-clause-only : goal.returns-in-Some-clause-only
returns-in-Some-clause-only c = directive_only c.args.line.now c.in-Some.text.now install_word IsInstall (installs c.args.line.now) c.in-Some.ensures.some c.read_install.result c.read_install.ensures.only

pub returns-in-Some-clause-bad : goal.returns-in-Some-clause-bad
returns-in-Some-clause-bad c = directive_bad c.args.line.now c.in-Some.text.now install_word IsInstall (installs c.args.line.now) c.in-Some.ensures.some c.read_install.result c.read_install.ensures.bad

pub returns-in-Some-behind-clause-only : goal.returns-in-Some-behind-clause-only
returns-in-Some-behind-clause-only c = directive_only c.args.line.now c.in-Some-behind.text.now update_word IsUpdate (updates c.args.line.now) c.in-Some-behind.ensures.some c.read_update.result c.read_update.ensures.only

pub returns-in-Some-behind-clause-bad : goal.returns-in-Some-behind-clause-bad
returns-in-Some-behind-clause-bad c = directive_bad c.args.line.now c.in-Some-behind.text.now update_word IsUpdate (updates c.args.line.now) c.in-Some-behind.ensures.some c.read_update.result c.read_update.ensures.bad

pub returns-in-Some-behind-2-clause-only : goal.returns-in-Some-behind-2-clause-only
returns-in-Some-behind-2-clause-only c = directive_only c.args.line.now c.in-Some-behind-2.text.now erase_word IsErase (erases c.args.line.now) c.in-Some-behind-2.ensures.some c.read_erase.result c.read_erase.ensures.only

pub returns-in-Some-behind-2-clause-bad : goal.returns-in-Some-behind-2-clause-bad
returns-in-Some-behind-2-clause-bad c = directive_bad c.args.line.now c.in-Some-behind-2.text.now erase_word IsErase (erases c.args.line.now) c.in-Some-behind-2.ensures.some c.read_erase.result c.read_erase.ensures.bad
