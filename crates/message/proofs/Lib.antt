-- `Stages` has that what every stage lets pass holds of what is read, `Inside` what is known of a message that was read, `Bodies` where its body stands.
pub mod Stages
pub mod Inside
pub mod Bodies
