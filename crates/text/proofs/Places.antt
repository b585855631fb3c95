-- Every reading keeps the line at a cursor (`LinesLaws`); which lines a part covers (`SpansLaws`).
pub mod LinesLaws
pub mod SpansLaws
