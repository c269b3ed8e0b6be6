-- What the contracts of entries cite: the pieces of a report.
pub mod Entries
