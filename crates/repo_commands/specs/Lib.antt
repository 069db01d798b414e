pub mod Listing
pub mod Commit
pub mod Cook
pub mod Sending
pub mod ShowChangeSet
pub mod Moving
pub mod Serving
pub mod AskMirror
pub mod TakeMirror
pub mod Mirrored
pub use Rattle.repo_mirror.specs as repo-mirror
pub use Rattle.repo_serve.specs as repo-serve
