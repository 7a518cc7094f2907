-- From the bytes of the input and of the argument to the bytes of the page.
pub mod MakeUpPage
