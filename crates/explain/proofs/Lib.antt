pub mod Uncovered
