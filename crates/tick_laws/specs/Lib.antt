pub mod Goes
pub mod Logs
pub mod Samples
