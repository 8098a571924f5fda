pub mod WorkedJobs
pub mod CornerJobs
pub mod ByNumbers
pub mod ProductLaws
pub mod SameParts
pub mod SameStyles
pub mod SameLibraries
