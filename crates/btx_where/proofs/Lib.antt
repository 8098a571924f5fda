pub mod StandLemmas
pub mod RestLemmas
pub mod ShownLemmas
pub mod SceneLemmas
pub mod NoteLemmas
pub mod EventLemmas
pub mod JobLemmas
