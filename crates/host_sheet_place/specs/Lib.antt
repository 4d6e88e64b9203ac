pub mod PlaceRules
