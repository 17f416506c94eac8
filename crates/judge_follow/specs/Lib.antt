-- How the judge follows a tape. What a verdict is stands in crate verdict_judged, and needs nothing of this.
pub mod Following
