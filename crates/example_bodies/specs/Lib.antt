pub mod Rod
