-- Elements: a part of text for each element of a list (`EachThen`), an array that begins with a list (`Padded`), the elements that are left (`LeftLaws`) and
-- values laid into an array line by line (`LayLaws` in proofs/).
pub mod EachThen
pub mod Padded
pub mod PaddedLaws
pub mod LeftLaws
