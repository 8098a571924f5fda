pub mod ByteSets
pub mod Tokens
pub mod Values
pub mod Fields
pub mod Items
pub mod ValueTexts
pub mod PlaceLines
