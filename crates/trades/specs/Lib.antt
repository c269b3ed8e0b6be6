-- What the readers of trades answer, and the trades that stand in a book.
pub mod Trades
pub mod Walk
