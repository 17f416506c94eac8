mod ExampleRequests
pub mod Replying
