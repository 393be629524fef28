-- The proof of the guarantee, from views to histories, the worked images, and what is examined side by side.
pub mod ShownViews
pub mod StandingSides
pub mod Opens
pub mod Runs
pub mod Pages
pub mod Peeks
pub mod Histories
pub mod TwoSides
pub mod RunsOfBooks
pub mod WorkedImages
pub mod Comparisons
pub mod ExaminedSides
pub mod ExaminedPairs
pub mod ExaminedCaches
