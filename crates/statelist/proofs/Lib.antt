mod Carries
mod Follows
pub mod ForeignMembers
pub mod JoinedMembers
pub mod LawfulMember
pub mod OwnMembers
pub mod PassedMembers
mod Places
pub mod SettledMembers
mod Turns
pub mod WrittenLaws
