-- Least minutes: minutes compared (`NoLater`), the least that keep something (`Least`), raising round after round (`Settle`), rules as arcs (`Arcs`), a
-- plan's arcs and least minutes (`PlanArcs`), a plan with what it costs (`Carried`), and the plan without choices (`FirstPlan`).
pub mod NoLater
pub mod NoLaterLaws
pub mod Least
pub mod LeastLaws
pub mod Settle
pub mod SettleLaws
pub mod Arcs
pub mod ArcsLaws
pub mod PlanArcs
pub mod PlanArcsLaws
pub mod Carried
pub mod CarriedLaws
pub mod FirstPlan
pub mod FirstPlanLaws
