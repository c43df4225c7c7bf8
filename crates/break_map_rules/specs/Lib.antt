-- Maps and what is read from them, the ends that one is made from, and what calls answer.
pub mod Maps
pub mod Ends
pub mod Answers
