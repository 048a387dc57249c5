pub mod Queues
pub mod QueueLaws
