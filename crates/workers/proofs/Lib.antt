mod Seats
pub mod Goes
pub mod Advancing
pub mod Asked
pub mod Resumes
pub mod Recordings
