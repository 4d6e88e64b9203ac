-- Demand 3 over a host's calls (`HostBook`), and number 7 by a host's numbers (`HostRules`).
pub mod HostBook
pub mod HostRules
