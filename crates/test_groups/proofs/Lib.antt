pub mod AtLeaves
