pub mod WordLaws
pub mod TextLaws
