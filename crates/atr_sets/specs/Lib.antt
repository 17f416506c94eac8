-- Sets of rules, a bit for each.
pub mod Sets
