pub mod StraightRow
