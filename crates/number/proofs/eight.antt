-- The laws behind `eight`: which patterns are near, and x narrowed by splitting.
pub mod Size
