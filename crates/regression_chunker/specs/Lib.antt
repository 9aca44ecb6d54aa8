pub mod Answer
pub mod Cuts
pub mod Fingerprint
pub mod Pieces
pub mod Sees
pub mod Tables
