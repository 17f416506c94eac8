-- The rules as they were before cardholder verification (02, R-7).
pub mod Before
pub mod Filled
pub mod Edition
