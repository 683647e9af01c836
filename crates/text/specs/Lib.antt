-- What the contracts of text cite beside the definitions of model, and what they give for a whole text.
-- reading
pub mod Reading
pub mod Parted
pub mod Pieces
-- printing
pub mod Printing
