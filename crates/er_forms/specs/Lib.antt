pub mod Page
pub mod Forms
