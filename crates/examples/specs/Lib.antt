-- The promises on small books, computed: the statement and demand 3 on examples, and wrong answers that the contract does not allow.
pub mod Listing
pub mod Rearranged
pub mod TradesMoved
pub mod InAnyOrder
pub mod Several
pub mod Allowed
pub mod Contradicted
pub mod SeatsContradicted
pub mod Divided
pub mod Cascaded
pub mod Leaves
pub mod Answered
pub mod SeatsAnswered
pub mod Ordered
pub mod InColumns
pub mod Said
