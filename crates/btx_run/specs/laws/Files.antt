pub mod Laws
pub mod Origins
