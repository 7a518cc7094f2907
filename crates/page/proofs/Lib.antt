-- The laws of the page.
pub mod Pages
