pub mod FormEnds
pub mod RecordEnds
pub mod Performing
pub mod ForRoot
pub mod RestoreEnds
pub mod Calls
pub mod Living
pub mod LinesRun
pub mod Unshown
pub mod LineWords
pub mod LineCalls
pub mod DemoLines
pub mod SeveralEnds
pub mod BatchEnds
pub mod ProgramEnds
pub mod ProgramWords
pub use Rattle.root_commands.proofs.cli-call
pub use Rattle.root_commands.proofs as root-commands
