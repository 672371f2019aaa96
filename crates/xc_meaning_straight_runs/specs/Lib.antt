pub mod StraightRuns
