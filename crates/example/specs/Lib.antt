pub mod Return
