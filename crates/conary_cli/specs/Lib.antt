pub mod FormDecides
pub mod Records
pub mod Restores
pub mod Commands
pub mod Lives
pub mod Lines
pub mod Several
pub mod RunsSeveral
pub mod Program
pub use Rattle.root_commands.specs.cli-call
pub use Rattle.cli_words.specs as cli-words
pub use Rattle.repo_commands.specs as repo-commands
pub use Rattle.root_commands.specs as root-commands
