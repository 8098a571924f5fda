pub mod Orders
pub mod Starts
pub mod Leaves
pub mod Laws
pub mod Applied
pub mod WorkedStores
pub mod WorkedFunctions
pub mod WorkedAssignments
