mod Order
mod Joined
mod Search
mod Edits
mod Found
mod Dropped
mod LaidOut
mod Counted
