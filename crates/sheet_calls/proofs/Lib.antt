-- `Runs`: a list of calls as the loop makes them, and demand 3 at its end. `Backgrounds`: which lists demand 3 speaks of.
pub mod Runs
pub mod Backgrounds
