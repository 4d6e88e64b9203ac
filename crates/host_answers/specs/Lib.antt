pub mod HostAnswers
