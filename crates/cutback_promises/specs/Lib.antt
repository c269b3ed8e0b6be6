-- Request [13], proved: the promises on cuts, and that the contracts determine all.
pub mod Cases
pub mod Allowed
pub mod Contradicted
pub mod Sorted
pub mod Promises
pub mod Determined
