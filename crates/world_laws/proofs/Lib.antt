pub mod RatesHold
pub mod TimesHold
pub mod EstimatesHold
pub mod BoundsHold
pub mod PlansGoBy
pub mod SetsHold
