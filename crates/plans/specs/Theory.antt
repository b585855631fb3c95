-- The theory of searches: how minutes are ranked (`Ranking`), the problem and its laws as two records (`Problem`), the best so far (`BestSoFar`), and a search as a
-- relation (`Search`), with the laws by which it is made of smaller ones. To read in this order.
pub mod Ranking
pub mod Problem
pub mod RankingLaws
pub mod BestSoFar
pub mod Search
pub mod SearchLaws
