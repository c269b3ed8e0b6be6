-- The order of trades by their stamps, and the newest lots of trades in any order, a file for each idea, in the order in which they rest on one
-- another.
pub mod Order
pub mod Sorted
pub mod Sums
pub mod Kept
pub mod Edge
pub mod Newer
pub mod Onward
pub mod Buckets
pub mod Span
pub mod Rising
pub mod Side
pub mod Stamps
pub mod Trades
pub mod Gains
pub mod All
pub mod Some
