mod Downward
mod Pieces
