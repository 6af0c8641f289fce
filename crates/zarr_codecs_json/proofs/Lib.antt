pub mod ReadLists
pub mod Valid
pub mod PrintedTexts
pub mod PrintedCells
pub mod NumberLists
pub mod WholeNumbers
pub mod FewDigits
pub mod ShortNumbers
