pub mod Winning
