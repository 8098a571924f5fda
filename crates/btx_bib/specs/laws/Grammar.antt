pub mod Items
pub mod Spelling
pub mod Reading
pub mod WholeItems
pub mod ItemEvents
pub mod WorkedTexts
pub mod Fields
