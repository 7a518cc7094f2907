-- From the input's bytes to the page's bytes.
pub mod Page
