pub mod ActiveReads
pub mod BaseReads
pub mod EntryReads
pub mod FaultLogs
pub mod Looks
pub mod Reloads
pub mod Spelled
pub mod StoreConfs
