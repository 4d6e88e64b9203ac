-- Demand 3 over a host's calls (`HostDemand3`), and number 7 by a host's numbers (`HostRules`).
-- Assumes nothing.
pub mod HostDemand3
pub mod HostRules
