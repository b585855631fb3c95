-- Places: the line at a cursor is one more than the line feeds before it (`Lines`); every reading keeps that (`LinesLaws` in proofs/), and where the line feeds of a
-- text stand (`FeedsLaws`); `SpansLaws` in proofs/: which lines a part covers; the last line of a text (`LastLine`).
pub mod Lines
pub mod FeedsLaws
pub mod LastLine
pub mod LastLineLaws
