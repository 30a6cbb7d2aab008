mod Each
mod Events
mod Sharing
mod Opening
mod Turning
mod Acting
mod Initial
mod Folding
mod Explained
mod Firing
mod Observed
mod Small
pub mod Books
