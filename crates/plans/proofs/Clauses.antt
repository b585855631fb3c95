-- Laws of what the code of both searches promises: keys (`KeysLaws`), ways out as the code has them (`WaysToldLaws`), raising for a choice (`ChoosingLaws`), what
-- it costs (`WayCostsLaws`), and how a search begins and goes on (`FirstLaws`, `GivenLaws`, `TryingLaws`, `NextPlansLaws`).
pub mod ChoosingLaws
pub mod FirstLaws
pub mod GivenLaws
pub mod KeysLaws
pub mod NextPlansLaws
pub mod TryingLaws
pub mod WayCostsLaws
pub mod WaysToldLaws
