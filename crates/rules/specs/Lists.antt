-- The order lists as they are computed (`Orders`), what they hold (`LanesLaws`, `OrdersLaws`), that those of lawful minutes are the declared ones
-- (`LawfulListsLaws`), and the loops that make them (`OrdersCarryLaws`, `ListsLaws`).
pub mod Orders
pub mod LanesLaws
pub mod OrdersLaws
pub mod LawfulListsLaws
pub mod OrdersCarryLaws
pub mod ListsLaws
