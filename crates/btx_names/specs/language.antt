pub mod NameLists
pub mod Runs
pub mod Tokens
pub mod VonTokens
pub mod NameParts
pub mod Formats
pub mod FormattedNames
pub mod Answered
