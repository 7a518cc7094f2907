-- What `make_up` answers, by the answer of its board's passes.
pub mod MadeUp
