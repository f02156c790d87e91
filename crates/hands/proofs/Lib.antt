pub mod Laws
pub mod Ready
