pub mod FileKeys
pub mod FolderStores
