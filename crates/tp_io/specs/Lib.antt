pub mod Devices
pub mod Memory
pub mod Calls
pub mod SystemCalls
pub mod Held
