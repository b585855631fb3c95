-- Values laid into an array line by line (`LayLaws`).
pub mod LayLaws
