-- Document 01 as it was before any change of document 02.
pub mod Document01
pub mod Cases
