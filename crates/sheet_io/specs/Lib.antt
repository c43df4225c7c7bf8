-- What the calls of a line program do to the bytes of a reader, and what they hand on.
pub mod Handing
pub mod Reading
