pub mod Contents
pub mod LogReads
pub mod LogsBook
pub mod LogsLimits
pub mod LogsOf
pub mod ReadsAsBook
pub mod StoreBook
