pub mod Form
pub mod Write
