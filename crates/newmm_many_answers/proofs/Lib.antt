pub mod TextEnds
pub mod Answered
pub mod Small
pub mod Steady
pub mod Turns
