pub mod Apply
pub mod Compared
pub mod Held
pub mod Index
pub mod NickPush
pub mod PushLaw
pub mod Told
