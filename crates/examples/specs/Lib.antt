pub mod AttributeTypes
pub mod Label
pub mod Walk
