-- START with the terminal's list of applications: document 02, R-12.
pub mod Start
