pub mod Count
pub mod Window
