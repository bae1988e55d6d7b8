pub mod Noted
pub mod Unread
