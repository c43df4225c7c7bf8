pub mod Plants
pub mod Charges
pub mod Cuts
pub mod ManyTexts
