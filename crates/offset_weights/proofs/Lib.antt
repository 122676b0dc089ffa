pub mod WeightLaws
pub mod MeanLaws
