pub mod Component
pub mod ResultFields
