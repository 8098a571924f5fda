pub mod Files
pub mod Contents
pub mod ComputedProduct
