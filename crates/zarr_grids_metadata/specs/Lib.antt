pub mod Equal
pub mod EqualEquivalence
pub mod ExtensionPoints
pub mod Laws
pub mod Members
pub mod Texts
pub mod Trees
pub mod Views
