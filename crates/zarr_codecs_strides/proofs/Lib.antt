pub mod Walks
pub mod PanelColumns
pub mod EightLines
