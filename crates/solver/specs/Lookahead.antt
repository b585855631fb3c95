-- Looking ahead: choices that are forced (`Forcing`), and ways priced by what they lead to (`Ahead`).
pub mod Forcing
pub mod ForcingLaws
pub mod Ahead
pub mod AheadLaws
