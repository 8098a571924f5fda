pub mod EndLemmas
pub mod FlagLemmas
pub mod FolderLemmas
pub mod GrowthLemmas
pub mod JobLemmas
pub mod LifetimeLemmas
pub mod NumberLemmas
mod CommandLineRows
pub mod ReadingLemmas
