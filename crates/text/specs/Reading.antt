-- Reading: the byte at a cursor (`Bytes`), a number there (`Numbers`) in its limits (`Limits`), parts read one after the other (`Parsed`), parts
-- of a fixed form (`Fixed`), the answers of the code taken apart (`Choice`) and what they tell (`Told`).
pub mod Choice
pub mod Bytes
pub mod Numbers
pub mod Limits
pub mod Parsed
pub mod Fixed
pub mod Told
pub mod ChoiceLaws
pub mod BytesLaws
pub mod NumbersLaws
