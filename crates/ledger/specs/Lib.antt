pub mod Numbers
pub mod Accounts
pub mod Counts
pub mod Known
pub mod Histories
pub mod Books
pub mod Texts
pub mod Lawful
