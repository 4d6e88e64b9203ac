pub mod StyledRow
