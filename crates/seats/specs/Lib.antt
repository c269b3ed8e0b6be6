-- What the contracts of seats cite: a seat's places in the book, and the lots of each seat.
pub mod Places
pub mod Laws
pub mod Dealt
pub mod Walk
pub mod Only
