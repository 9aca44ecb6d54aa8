mod Bytes
mod Pieces
mod Spelled
mod Walks
