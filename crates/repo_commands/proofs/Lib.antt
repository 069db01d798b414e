pub mod ListingEnds
pub mod MirrorEnds
mod Mirrored
pub mod CommitEnds
pub mod CommitOpened
pub mod WholeContents
pub mod MadeVersions
pub mod KeptContents
pub mod CookEnds
pub mod SendingEnds
pub mod ServingEnds
pub mod ShowEnds
pub mod CommittedTroves
pub mod MovingEnds
